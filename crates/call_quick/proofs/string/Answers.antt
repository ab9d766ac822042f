-- `call_quick::string` meets its contract. The answer of the function below it, as it crosses. Assumes nothing.
use Rattle.std.proofs.Common.{ap, ◌∙◌}
use mir.Syntax.{w32}
use mir.Facts.{to_z-of_z}
use Rattle.face_values.specs.FaceValues.{as_string}
use Rattle.call_quick.proofs.string.Goals as goal

pub returns : goal.returns
returns c =
    c.string_told.ensures ∙ ap as_string (rw (to_z-of_z {w = w32} c.ranges.trace) at c.string.ensures)
