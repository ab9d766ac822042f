-- `call_rows::quick_integers` meets its contract. The answer of the function below it, as it crosses. Assumes nothing.
use Rattle.std.proofs.Common.{ap, ◌∙◌}
use mir.Syntax.{w32}
use mir.Facts.{to_z-of_z}
use Rattle.face.specs.Face.{as_verdict}
use Rattle.call_rows.proofs.quick_integers.Goals as goal

pub returns : goal.returns
returns c =
    record {
      answer = c.told.ensures ∙ ap as_verdict (rw (to_z-of_z {w = w32} c.ranges.trace) at c.integers.ensures.answer);
      row = rw (to_z-of_z {w = w32}
          c.ranges.trace) at c.integers.ensures.row;
    }
