-- `call_quick::string_count` meets its contract. The answer of the function below it, as it crosses. Assumes nothing.
use Rattle.std.proofs.Common.{ap, ◌∙◌}
use mir.Syntax.{w32}
use mir.Facts.{to_z-of_z}
use Rattle.face.specs.Face.{as_count}
use Rattle.call_quick.proofs.string_count.Goals as goal

pub returns : goal.returns
returns c =
    c.count_told.ensures ∙ ap as_count (rw (to_z-of_z {w = w32} c.ranges.trace) at c.count.ensures)
