-- `quick::keyword` meets its contract. A string that was found is a yes. Assumes nothing.
use Rattle.std.proofs.Common.{sym, ap, ◌∙◌, ℤ, w32, Ok}
use Rattle.std.proofs.lemmas.Result.{err_from_is_err_and}
use Rattle.reader.specs.Leaves.{yes_told, yes_bad}
use Rattle.quick.specs.Quick.{quick_find, quick_keyword}
use Rattle.word.specs.Signed.{handed}
use Rattle.quick.proofs.keyword.Goals as goal

pub returns-in_err-find : goal.returns-in_err-find
unfolding quick_keyword
returns-in_err-find c =
    let args = c.args in
    let p = err_from_is_err_and c.from_residual.result c.from_residual.ensures.1 in
    rw (p.1, p.2)
    (yes_bad _ _ (sym (handed w32 (λ (z : ℤ). quick_find args.buffer.now args.n z args.key.now) args.trace c.ranges.trace.sfits c.in_err-find.ensures)))

pub returns : goal.returns
unfolding quick_keyword
returns c =
    let args = c.args in
    ap Ok c.is_some.ensures
    ∙ yes_told _ _ (sym (handed w32 (λ (z : ℤ). quick_find args.buffer.now args.n z args.key.now) args.trace c.ranges.trace.sfits c.in_ok-find.ensures))
