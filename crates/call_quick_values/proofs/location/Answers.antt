-- `call_quick_values::location` meets its contract. The answer of the function below it, as it crosses. Assumes nothing.
use Rattle.std.proofs.Common.{ap, ◌∙◌}
use mir.Syntax.{w32}
use mir.Facts.{to_z-of_z}
use Rattle.face_values.specs.FaceValues.{as_location}
use Rattle.call_quick_values.proofs.location.Goals as goal

pub returns : goal.returns
returns c =
    c.location_told.ensures
    ∙ ap as_location (rw (to_z-of_z {w = w32} c.ranges.trace) at c.location.ensures)
