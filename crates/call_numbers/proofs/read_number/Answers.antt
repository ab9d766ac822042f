-- `call_numbers::read_number` meets its contract. The answer of the function below it, as it crosses. Assumes nothing.
use Rattle.std.proofs.Common.{ap, ◌∙◌}
use Rattle.face_values.specs.FaceValues.{as_number}
use Rattle.call_numbers.proofs.read_number.Goals as goal

pub returns : goal.returns
returns c =
    c.number_told.ensures ∙ ap as_number c.number.ensures
