-- `digits::put_digits` meets its contract: the last digits of a number, as many as it has, are its digits. Assumes
-- nothing.
use Rattle.std.proofs.Common.{ap, ◌∙◌, ℕ}
use Rattle.digits.specs.LastDigits.{last_digits, all_last}
use Rattle.digits.proofs.put_digits.Goals as goal

pub put_last-requires : goal.put_last-requires
put_last-requires c =
    let e = ap (λ (k : ℕ). last_digits k c.args.n) c.digit_count.ensures.0 ∙ all_last c.args.n in
    rw e c.requires

pub returns : goal.returns
returns c =
    let n = c.args.n in
    let e = ap (λ (k : ℕ). last_digits k n) c.digit_count.ensures.0 ∙ all_last n in
    rw e at c.put_last.ensures
