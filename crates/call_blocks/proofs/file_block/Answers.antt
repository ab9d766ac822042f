-- `call_blocks::file_block` meets its contract. The answer of the function below it, as it crosses. Assumes nothing.
use Rattle.std.proofs.Common.{ap, ◌∙◌}
use Rattle.face.specs.Face.{as_file}
use Rattle.call_blocks.proofs.file_block.Goals as goal

pub returns : goal.returns
returns c =
    c.file_told.ensures ∙ ap as_file c.file_block.ensures
