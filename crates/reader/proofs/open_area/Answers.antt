-- `reader::open_area` meets its contract. What the check has accepted is what the area asks. Assumes nothing.
use Rattle.std.proofs.Common.{sym, ◌∙◌, ℤ, take, w32, arith}
use Rattle.std.proofs.lemmas.Result.{err_from_is_err_and}
use Rattle.reader.specs.Reach.{checked}
use Rattle.reader.specs.Leaves.{opened_of, opened_or, opened_bad}
use Rattle.reader.specs.Questions.{area_asked}
use Rattle.word.specs.Signed.{handed}
use Rattle.reader.proofs.open_area.Goals as goal

pub slice_bounds-area_of-end : goal.slice_bounds-area_of-end
slice_bounds-area_of-end c =
    sym (checked _ _ _ (sym c.in_ok-check.ensures)).size

pub area_of-requires : goal.area_of-requires
area_of-requires c =
    let k = checked _ _ _ (sym c.in_ok-check.ensures) in
    (omega (arith, k.size, k.least), k.image)

pub returns-in_err-check : goal.returns-in_err-check
returns-in_err-check c =
    let p = err_from_is_err_and c.from_residual.result c.from_residual.ensures.1 in
    rw (p.1, p.2) (opened_bad _ _ _ _ _ (sym c.in_err-check.ensures))

pub returns : goal.returns
returns c =
    let args = c.args in
    let a = handed w32 (λ (z : ℤ). area_asked (take args.n args.buffer.now) z) args.part c.ranges.part.sfits c.area_of.ensures in
    c.ok_or.ensures.value ∙ rw (a, c.no_trace.ensures) (opened_or _ _ _ _ (sym c.in_ok-check.ensures))
