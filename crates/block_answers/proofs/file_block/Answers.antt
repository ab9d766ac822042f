-- `block_answers::file_block` meets its contract. The image is the first bytes of the buffer. Assumes nothing.
use Rattle.std.proofs.Common.{sym, ◌∙◌, arith}
use Rattle.reader.specs.Reach.{checked}
use Rattle.reader.specs.Questions.{file_answer}
use Rattle.std.proofs.lemmas.Result.{err_from_is_err_and}
use Rattle.block_answers.proofs.file_block.Goals as goal

pub returns-in_err-check : goal.returns-in_err-check
unfolding file_answer
returns-in_err-check c =
    let p = err_from_is_err_and c.from_residual.result c.from_residual.ensures.1 in
    rw (p.1, p.2)
    (rw (sym c.in_err-check.ensures))

pub slice_bounds-file_block-end : goal.slice_bounds-file_block-end
unfolding file_answer
slice_bounds-file_block-end c =
    sym (checked _ _ _ (sym c.in_ok-check.ensures)).size

pub file_block-requires : goal.file_block-requires
unfolding file_answer
file_block-requires c =
    let k = checked _ _ _ (sym c.in_ok-check.ensures) in
    omega (arith, k.size, k.least)

pub returns : goal.returns
unfolding file_answer
returns c =
    rw (sym c.in_ok-check.ensures, c.file_block.ensures.0)
