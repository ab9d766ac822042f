-- `layout::put_file_block` meets its contract. Five pieces, one behind the other, are the file block. Assumes nothing.
use Rattle.layout.specs.Stores.{file_block_put}
use Rattle.layout.proofs.put_file_block.Goals as goal

pub returns : goal.returns
returns c =
    rw (← file_block_put _ _ _) cc
