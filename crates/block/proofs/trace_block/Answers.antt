-- `block::trace_block` meets its contract. Assumes nothing.
use Rattle.std.proofs.Common.{◌∙◌}
use Rattle.block.specs.BlockLaws.{own_block}
use Rattle.block.proofs.trace_block.Goals as goal

pub returns : goal.returns
returns c =
    c.block_in.ensures.0 ∙ own_block _ _ _ _ c.pointer-p.ensures.0
