-- `string_answers::string` meets its contract. What was opened lies in the image. Assumes nothing.
use Rattle.std.proofs.Common.{refl, sym, ◌∙◌, arith}
use lib.IntN.{ℤ}
use mir.Syntax.{w32}
use Rattle.reader.specs.Reach.{reached}
use Rattle.reader.specs.Leaves.{opened_of, nth_bad, nth_told}
use Rattle.word.specs.Signed.{handed}
use Rattle.std.proofs.lemmas.Result.{err_from_is_err_and}
use Rattle.string_answers.proofs.string.Goals as goal

pub slice_bounds-f-end : goal.slice_bounds-f-end
slice_bounds-f-end c =
    let r = reached _ _ _ _ _ _ (sym c.in_ok-a.ensures) in sym r.known.size

pub is_high-high-requires : goal.is_high-high-requires
is_high-high-requires c =
    let r = reached _ _ _ _ _ _ (sym c.in_ok-a.ensures) in
    omega (arith, r.known.size, r.known.least)

pub string_end-t-requires : goal.string_end-t-requires
string_end-t-requires c =
    let r = reached _ _ _ _ _ _ (sym c.in_ok-a.ensures) in
    (omega (arith, r.known.size, r.known.least), r.good)

pub nth-requires : goal.nth-requires
nth-requires c =
    let r = reached _ _ _ _ _ _ (sym c.in_ok-a.ensures) in
    (r.low, r.end)

pub returns-in_err-a : goal.returns-in_err-a
returns-in_err-a c =
    let args = c.args in
    let p = err_from_is_err_and c.from_residual.result c.from_residual.ensures.1 in
    rw (p.1, p.2)
    (nth_bad _ _ _ _ _ _ (sym (handed w32 (λ (z : ℤ). opened_of args.how args.buffer.now args.n z) args.part c.ranges.part.sfits
    c.in_err-a.ensures)))

pub returns : goal.returns
returns c =
    let args = c.args in
    nth_told _ _ _ _ _ _ _ _
    (sym (handed w32 (λ (z : ℤ). opened_of args.how args.buffer.now args.n z) args.part c.ranges.part.sfits
    c.in_ok-a.ensures)) c.is_high-high.ensures c.string_end-t.ensures.result_value _ _ _ c.nth.ensures
    refl
