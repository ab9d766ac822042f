-- `call_writers::add_integers` meets its contract. The answer of the function below it, as it crosses. Assumes nothing.
use Rattle.std.proofs.Common.{ap, ◌∙◌}
use Rattle.face.specs.Face.{as_length}
use Rattle.call_writers.proofs.add_integers.Goals as goal

pub returns : goal.returns
returns c =
    record { answer = c.length_told.ensures ∙ ap as_length c.add_integers.ensures.answer; left = c.add_integers.ensures.left }
