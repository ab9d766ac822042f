-- `layout::put_block` meets its contract. Six pieces, one behind the other, are the trace block. Assumes nothing.
use Rattle.layout.specs.Stores.{block_put}
use Rattle.layout.proofs.put_block.Goals as goal

pub returns : goal.returns
returns c =
    rw (← block_put _ _ _ _ _ _) cc
