-- `call_values::double` meets its contract. The answer of the function below it, as it crosses. Assumes nothing.
use Rattle.std.proofs.Common.{ap, ◌∙◌}
use mir.Syntax.{w32}
use mir.Facts.{to_z-of_z}
use Rattle.face_values.specs.FaceValues.{as_double}
use Rattle.call_values.proofs.double.Goals as goal

pub returns : goal.returns
returns c =
    c.double_told.ensures ∙ ap as_double (rw (to_z-of_z {w = w32} c.ranges.part) at
    c.double.ensures)
