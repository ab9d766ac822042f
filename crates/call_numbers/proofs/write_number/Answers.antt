-- `call_numbers::write_number` meets its contract. The answer of the function below it, as it crosses; the power comes back
-- as the number that was handed on. Assumes nothing.
use Rattle.std.proofs.Common.{ap, ◌∙◌}
use mir.Syntax.{w32}
use mir.Facts.{to_z-of_z}
use Rattle.face.specs.Face.{as_length}
use Rattle.call_numbers.proofs.write_number.Goals as goal

pub returns : goal.returns
returns c =
    let g = rw (to_z-of_z {w = w32} c.ranges.power) at c.number_given-n.ensures in record {
      answer = c.length_told.ensures ∙ ap as_length (rw g at c.write.ensures.answer);
      left = rw g at c.write.ensures.left;
    }
