-- `head::head` meets its contract. Each answer is the first row whose test holds. Assumes nothing.
use Rattle.std.proofs.Common.{ap, ◌∙◌, eq-eqb, ne_eqb, lt-ltb, le-ltb, Ok, Err}
use Rattle.head.specs.Head.{head_of, head_answer}
use Rattle.head.specs.HeadLaws.{block_room, block_count, block_revision}
use Rattle.head.proofs.head.Goals as goal

pub returns-then-word2-ne1 : goal.returns-then-word2-ne1
unfolding head_of head_answer
returns-then-word2-ne1 c = (
  ap Err c.of_file-then-word2-ne1.ensures ∙ rw (
    ← c.if-not-is_known.ensures,
    block_revision _ c.file_block-x.ensures.0 _ c.word2.ensures.0,
    ne_eqb _ _ c.if-word2-ne1.true,
  ),
  tt,
)

pub returns-then-is_bad_room : goal.returns-then-is_bad_room
unfolding head_of head_answer
returns-then-is_bad_room c = (
  ap Err c.of_file-then-is_bad_room.ensures ∙ rw (
    ← c.if-not-is_known.ensures,
    block_revision _ c.file_block-x.ensures.0 _ c.word2.ensures.0,
    eq-eqb _ _ c.if-word2-ne1.false,
    block_room _ c.file_block-x.ensures.0,
    ← c.if-is_bad_room.ensures,
  ),
  tt,
)

pub returns-then-is_bad_count : goal.returns-then-is_bad_count
unfolding head_of head_answer
returns-then-is_bad_count c = (
  ap Err c.of_file-then-is_bad_count.ensures ∙ rw (
    ← c.if-not-is_known.ensures,
    block_revision _ c.file_block-x.ensures.0 _ c.word2.ensures.0,
    eq-eqb _ _ c.if-word2-ne1.false,
    block_room _ c.file_block-x.ensures.0,
    ← c.if-is_bad_room.ensures,
    block_count _ c.file_block-x.ensures.0,
    ← c.if-is_bad_count.ensures,
  ),
  tt,
)

pub returns-then-not-is_good : goal.returns-then-not-is_good
unfolding head_of head_answer
returns-then-not-is_good c = (
  ap Err c.of_file-then-not-is_good.ensures ∙ rw (
    ← c.if-not-is_known.ensures,
    block_revision _ c.file_block-x.ensures.0 _ c.word2.ensures.0,
    eq-eqb _ _ c.if-word2-ne1.false,
    block_room _ c.file_block-x.ensures.0,
    ← c.if-is_bad_room.ensures,
    block_count _ c.file_block-x.ensures.0,
    ← c.if-is_bad_count.ensures,
    ← c.if-not-is_good.ensures,
  ),
  tt,
)

pub returns-then-is_bad_lines : goal.returns-then-is_bad_lines
unfolding head_of head_answer
returns-then-is_bad_lines c = (
  ap Err c.of_file-then-is_bad_lines.ensures ∙ rw (
    ← c.if-not-is_known.ensures,
    block_revision _ c.file_block-x.ensures.0 _ c.word2.ensures.0,
    eq-eqb _ _ c.if-word2-ne1.false,
    block_room _ c.file_block-x.ensures.0,
    ← c.if-is_bad_room.ensures,
    block_count _ c.file_block-x.ensures.0,
    ← c.if-is_bad_count.ensures,
    ← c.if-not-is_good.ensures,
    ← c.if-is_bad_lines.ensures,
  ),
  tt,
)

pub returns-then-end-x : goal.returns-then-end-x
unfolding head_of head_answer
returns-then-end-x c = (
  ap Err c.of_file-then-end-x.ensures ∙ rw (
    ← c.if-not-is_known.ensures,
    block_revision _ c.file_block-x.ensures.0 _ c.word2.ensures.0,
    eq-eqb _ _ c.if-word2-ne1.false,
    block_room _ c.file_block-x.ensures.0,
    ← c.if-is_bad_room.ensures,
    block_count _ c.file_block-x.ensures.0,
    ← c.if-is_bad_count.ensures,
    ← c.if-not-is_good.ensures,
    ← c.if-is_bad_lines.ensures,
    lt-ltb _ _ c.if-end-x.true,
  ),
  tt,
)

pub returns : goal.returns
unfolding head_of head_answer
returns c = (
  ap Ok c.file_block-x.ensures.0 ∙ rw (
    ← c.if-not-is_known.ensures,
    block_revision _ c.file_block-x.ensures.0 _ c.word2.ensures.0,
    eq-eqb _ _ c.if-word2-ne1.false,
    block_room _ c.file_block-x.ensures.0,
    ← c.if-is_bad_room.ensures,
    block_count _ c.file_block-x.ensures.0,
    ← c.if-is_bad_count.ensures,
    ← c.if-not-is_good.ensures,
    ← c.if-is_bad_lines.ensures,
    le-ltb _ _ c.if-end-x.false,
  ),
  (c.file_block-x.ensures.1, c.file_block-x.ensures.2),
)
