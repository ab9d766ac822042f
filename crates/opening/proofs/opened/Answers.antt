-- `opening::opened` meets its contract. The check, row 24, then the rows of the sheet and its channel number. Assumes
-- nothing.
use Rattle.std.proofs.Common.{◌∙◌, refl, sym, arith}
use Rattle.std.proofs.lemmas.Result.{err_from_is_err_and}
use Rattle.head.specs.HeadLaws.{block_order, block_count}
use Rattle.opening.specs.OpeningLaws.{accepted, opened_bad, opened_full, opened_free}
use Rattle.opening.proofs.opened.Goals as goal

pub returns-in_err-checked : goal.returns-in_err-checked
returns-in_err-checked c =
    let p = err_from_is_err_and c.from_residual.result c.from_residual.ensures.1 in
    rw (p.1, p.2) (opened_bad _ _ _ c.in_err-checked.ensures refl)

pub slice_bounds-f-end : goal.slice_bounds-f-end
slice_bounds-f-end c =
    sym (accepted _ _ c.in_ok-checked.ensures refl).size

pub file_block-b-requires : goal.file_block-b-requires
file_block-b-requires c =
    let a = accepted _ _ c.in_ok-checked.ensures refl in omega (arith, a.size, a.low)

pub returns-then-b : goal.returns-then-b
returns-then-b c =
    rw c.of_file.ensures (opened_full _ _ _ c.in_ok-checked.ensures refl c.file_block-b.ensures.0 c.if-b.true)

pub taken-requires : goal.taken-requires
taken-requires c =
    let a = accepted _ _ c.in_ok-checked.ensures refl in
    let b = c.file_block-b.ensures.0 in
    (a.image, rw (block_count _ b), sym (block_order _ b))

pub returns : goal.returns
returns c =
    c.taken.ensures ∙ opened_free _ _ _ c.in_ok-checked.ensures refl c.file_block-b.ensures.0 c.if-b.false
