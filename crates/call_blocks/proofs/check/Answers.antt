-- `call_blocks::check` meets its contract. The answer of the function below it, as it crosses. Assumes nothing.
use Rattle.std.proofs.Common.{ap, ◌∙◌}
use Rattle.face.specs.Face.{as_verdict}
use Rattle.call_blocks.proofs.check.Goals as goal

pub returns : goal.returns
returns c =
    c.told.ensures ∙ ap as_verdict c.check.ensures
