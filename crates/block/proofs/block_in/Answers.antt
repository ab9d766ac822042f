-- `block::block_in` meets its contract. Assumes nothing.
use Rattle.block.specs.Block.{block_size_of, data_size_of, sample_count_of, format_code_of, block_in}
use Rattle.block.proofs.block_in.Goals as goal

pub returns : goal.returns
unfolding block_size_of data_size_of sample_count_of format_code_of block_in
returns c = (
  rw (← c.word2.ensures.0, ← c.word4.ensures.0, ← c.word4-2.ensures.0),
  c.word2.ensures.1,
  c.word4.ensures.1,
  c.word4-2.ensures.1,
)
