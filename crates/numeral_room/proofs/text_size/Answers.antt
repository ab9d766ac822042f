-- `numeral_room::text_size` meets its contract: the sizes of its four pieces. Assumes nothing.
use Rattle.std.proofs.Common.{ap, ℕ, arith, length}
use Rattle.digits.specs.Digits.{digits}
use Rattle.numeral_text.specs.NumeralText.{parts_with}
use Rattle.numeral_text.specs.Stored.{text_length}
use Rattle.numeral_room.proofs.text_size.Goals as goal

pub returns : goal.returns
returns c =
    let args = c.args in
    let l = text_length (parts_with args.minus args.c args.k args.to.down args.to.far) in
    let w = ap (λ (n : ℕ). length (digits n)) c.before_last-whole.ensures in
    omega (
      arith,
      l,
      w,
      c.power_size.ensures.0,
      c.point_size.ensures.0,
      c.digit_count.ensures.0,
      c.sign_size.ensures.0,
    )
