-- `image::own_strings` meets its contract: what was sought beside is not asked for. Assumes nothing.
use Rattle.std.proofs.Common.{sym}
use Rattle.std.proofs.lemmas.Result.{err_from_is_err_and}
use Rattle.seek.specs.Sought.{checked_refused, checked_has}
use Rattle.trace.specs.Trace.{area_verdict}
use Rattle.image.proofs.own_strings.Goals as goal

pub returns-in_err-check : goal.returns-in_err-check
unfolding area_verdict
returns-in_err-check c =
    let p = err_from_is_err_and c.from_residual.result c.from_residual.ensures.1 in
    rw (p.1, p.2) (sym (checked_refused _ _ _ _ _ _ _ _ _ (sym c.in_err-check.ensures)))

pub returns : goal.returns
unfolding area_verdict
returns c = sym (checked_has _ _ _ _ _ _ _ _ _ (sym c.in_ok-check.ensures)).0
