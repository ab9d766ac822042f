-- `numeral_text::put_text` meets its contract: its four pieces, one behind the other. Assumes nothing.
use Rattle.std.proofs.Common.{ap, arith, length, rules, ℕ}
use Rattle.word.specs.Wrote.{joined}
use Rattle.digits.specs.Digits.{digits}
use Rattle.numeral_text.specs.NumeralText.{parts_with, spelling}
use Rattle.numeral_text.specs.Stored.{text_length}
use Rattle.numeral_text.proofs.put_text.Goals as goal

pub put_sign-a-requires : goal.put_sign-a-requires
unfolding spelling
put_sign-a-requires c =
    let args = c.args in
    let l = text_length (parts_with args.minus args.c args.k args.to.down args.to.far) in
    omega (arith, l, c.requires)

pub before_last-whole-requires : goal.before_last-whole-requires
unfolding spelling
before_last-whole-requires c =
    search rules

pub put_digits-b-requires : goal.put_digits-b-requires
unfolding spelling
put_digits-b-requires c =
    let args = c.args in
    let l = text_length (parts_with args.minus args.c args.k args.to.down args.to.far) in
    let w = ap (λ (n : ℕ). length (digits n)) c.before_last-whole.ensures in
    omega (arith, l, w, c.requires, c.put_sign-a.ensures.0)

pub put_point-d-requires : goal.put_point-d-requires
unfolding spelling
put_point-d-requires c =
    let args = c.args in
    let l = text_length (parts_with args.minus args.c args.k args.to.down args.to.far) in
    let w = ap (λ (n : ℕ). length (digits n)) c.before_last-whole.ensures in
    omega (arith, l, w, c.requires, c.put_sign-a.ensures.0, c.put_digits-b.ensures.0)

pub put_power-requires : goal.put_power-requires
unfolding spelling
put_power-requires c =
    let args = c.args in
    let l = text_length (parts_with args.minus args.c args.k args.to.down args.to.far) in
    let w = ap (λ (n : ℕ). length (digits n)) c.before_last-whole.ensures in
    omega (arith, l, w, c.requires, c.put_sign-a.ensures.0, c.put_digits-b.ensures.0, c.put_point-d.ensures.0)

pub shape_of-out : goal.shape_of-out
unfolding spelling
shape_of-out c =
    search rules

pub returns : goal.returns
unfolding spelling
returns c =
    joined _ _ _ _ _ _ _ _ c.put_sign-a.ensures
    (joined _ _ _ _ _ _ _ _ (rw c.before_last-whole.ensures at c.put_digits-b.ensures)
    (joined _ _ _ _ _ _ _ _ c.put_point-d.ensures c.put_power.ensures))
