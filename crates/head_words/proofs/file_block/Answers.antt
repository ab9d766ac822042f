-- `head_words::file_block` meets its contract. Assumes nothing.
use Rattle.head_words.specs.HeadWords.{file_block_of}
use Rattle.head_words.specs.HeadWords.{room_read, count_read}
use Rattle.head_words.proofs.file_block.Goals as goal

pub returns : goal.returns
unfolding file_block_of
returns c = (
  rw (
    ← c.is_high-high.ensures,
    room_read _ _ c.is_high-high.ensures _ c.word2-m.ensures.0,
    count_read _ _ c.is_high-high.ensures _ c.word2-n.ensures.0,
    c.wide.ensures.0,
    c.wide-2.ensures.0,
  ),
  c.word2-m.ensures.1,
  c.word2-n.ensures.1,
)
