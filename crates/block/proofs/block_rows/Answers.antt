-- `block::block_rows` meets its contract. Each answer is the first row whose test holds. Assumes nothing.
use Rattle.std.proofs.Common.{ap, ◌∙◌, eq-eqb, ne_eqb, Ok, Err}
use Rattle.block.specs.Block.{mark_at, block_of, block_answer}
use Rattle.block.specs.BlockLaws.{block_size, block_data, block_samples, block_code}
use Rattle.block.proofs.block_rows.Goals as goal

pub returns-then-word2-ne17442 : goal.returns-then-word2-ne17442
unfolding mark_at block_of block_answer
returns-then-word2-ne17442 c =
    ap Err c.of_trace.ensures ∙ rw (
      ← c.word2.ensures.0,
      ne_eqb _ _ c.if-word2-ne17442.true,
    )

pub returns-then-is_bad_block : goal.returns-then-is_bad_block
unfolding mark_at block_of block_answer
returns-then-is_bad_block c =
    ap Err c.of_trace-then-is_bad_block.ensures ∙ rw (
      ← c.word2.ensures.0,
      eq-eqb _ _ c.if-word2-ne17442.false,
      block_size _ _ _ c.block_in-x.ensures.0,
      ← c.if-is_bad_block.ensures,
    )

pub returns-then-is_bad_data : goal.returns-then-is_bad_data
unfolding mark_at block_of block_answer
returns-then-is_bad_data c =
    ap Err c.of_trace-then-is_bad_data.ensures ∙ rw (
      ← c.word2.ensures.0,
      eq-eqb _ _ c.if-word2-ne17442.false,
      block_size _ _ _ c.block_in-x.ensures.0,
      ← c.if-is_bad_block.ensures,
      block_data _ _ _ c.block_in-x.ensures.0,
      ← c.if-is_bad_data.ensures,
    )

pub returns-then-is_bad_code : goal.returns-then-is_bad_code
unfolding mark_at block_of block_answer
returns-then-is_bad_code c =
    ap Err c.of_trace-then-is_bad_code.ensures ∙ rw (
      ← c.word2.ensures.0,
      eq-eqb _ _ c.if-word2-ne17442.false,
      block_size _ _ _ c.block_in-x.ensures.0,
      ← c.if-is_bad_block.ensures,
      block_data _ _ _ c.block_in-x.ensures.0,
      ← c.if-is_bad_data.ensures,
      block_code _ _ _ c.block_in-x.ensures.0,
      ← c.if-is_bad_code.ensures,
    )

pub returns-then-is_bad_samples : goal.returns-then-is_bad_samples
unfolding mark_at block_of block_answer
returns-then-is_bad_samples c =
    ap Err c.of_trace-then-is_bad_samples.ensures ∙ rw (
      ← c.word2.ensures.0,
      eq-eqb _ _ c.if-word2-ne17442.false,
      block_size _ _ _ c.block_in-x.ensures.0,
      ← c.if-is_bad_block.ensures,
      block_data _ _ _ c.block_in-x.ensures.0,
      ← c.if-is_bad_data.ensures,
      block_code _ _ _ c.block_in-x.ensures.0,
      ← c.if-is_bad_code.ensures,
      block_samples _ _ _ c.block_in-x.ensures.0,
      ← c.if-is_bad_samples.ensures,
    )

pub returns : goal.returns
unfolding mark_at block_of block_answer
returns c =
    ap Ok c.block_in-x.ensures.0 ∙ rw (
      ← c.word2.ensures.0,
      eq-eqb _ _ c.if-word2-ne17442.false,
      block_size _ _ _ c.block_in-x.ensures.0,
      ← c.if-is_bad_block.ensures,
      block_data _ _ _ c.block_in-x.ensures.0,
      ← c.if-is_bad_data.ensures,
      block_code _ _ _ c.block_in-x.ensures.0,
      ← c.if-is_bad_code.ensures,
      block_samples _ _ _ c.block_in-x.ensures.0,
      ← c.if-is_bad_samples.ensures,
    )
