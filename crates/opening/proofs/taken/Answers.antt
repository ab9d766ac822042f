-- `opening::taken` meets its contract: the rows of the sheet, then row 35. Assumes nothing.
use Rattle.std.proofs.Common.{◌∙◌, refl, sym}
use Rattle.std.proofs.lemmas.Result.{err_from_is_err_and}
use Rattle.opening.specs.OpeningLaws.{taken_bad, taken_wrong, taken_size}
use Rattle.opening.proofs.taken.Goals as goal

pub returns-in_err-size : goal.returns-in_err-size
returns-in_err-size c =
    let p = err_from_is_err_and c.from_residual.result c.from_residual.ensures.1 in
    rw (p.1, p.2) (taken_bad _ _ c.in_err-size.ensures refl)

pub returns-then-is_wrong_channel : goal.returns-then-is_wrong_channel
returns-then-is_wrong_channel c =
    rw c.of_file.ensures (taken_wrong _ _ c.in_ok-size.ensures refl
    (sym c.is_wrong_channel.ensures ∙ c.if-is_wrong_channel.true))

pub returns : goal.returns
returns c =
    taken_size _ _ c.in_ok-size.ensures refl (sym c.is_wrong_channel.ensures ∙ c.if-is_wrong_channel.false)
