-- A number answer as text for a sheet (document 02 §4): "exactly that many decimals, at least one digit before the
-- point and otherwise no leading zero, then E with the power plus the count where this is not 0". Any sign,
-- coefficient, power and count may be given. `Plain` says the same by the grammar, without digits being made.
-- Assumes nothing.
use Rattle.std.specs.Prelude.{◌&&◌, List, [], ◌∷◌, ℕ, ◌+◌, ℤ, pos, nat_abs, ◌+ℤ◌, length, ltb, eqb, Result}
use Rattle.std.specs.Int.Signed.{lt_z}
use Rattle.word.specs.Put.{put}
use Rattle.refusal.specs.declared.Rule.TheVariants.{NoNumber, Digits}
use Rattle.refusal.specs.Rows.{Rows, first}
use Rattle.refusal.specs.Writing.{refuse, on_written}
use Rattle.decimal_parts.specs.declared.Decimal.{Decimal}
use Rattle.decimal_parts.specs.Grammar.{Parts}
use Rattle.numeral_text.specs.NumeralText.{parts_with, spelling}
use Rattle.numeral_room.specs.Fitted.{fitted}
use Rattle.refusal.specs.declared.Refusal.{Refusal}

-- "the power plus the count"
abbrev pub raised : ℤ → ℕ → ℤ
raised power count = power +ℤ pos count

-- of a number answer: behind E stands "the power plus the count"
unfoldable pub parts_for : Decimal → Parts
parts_for n =
    let e = raised n.power n.decimals in
    parts_with n.minus n.coefficient n.decimals (lt_z e (pos 0)) (nat_abs e)

unfoldable pub numeral_of : Decimal → List ℕ
numeral_of n = spelling (parts_for n)

-- ---- "Refusals of this writing, place 0: 20 zero with minus, 21 more than 18 digits or more than 2 after E, 30 no
-- room, in that order"

abbrev pub numeral_rows : Decimal → Rows (Result ℕ Refusal)
numeral_rows n =
    let p = parts_for n in
    (n.minus && eqb n.coefficient 0, refuse NoNumber 0)
    ∷ (ltb 18 (length p.whole + length p.decimals), refuse Digits 0)
    ∷ (ltb 2 (length p.exponent), refuse Digits 0)
    ∷ []

-- the answer for so many bytes of room, and what is left in the lent bytes xs: the text at their start, and the rest as
-- it was; after a refusal all as it was
unfoldable pub numeral_answer : ℕ → Decimal → Result ℕ Refusal
numeral_answer room n = first (numeral_rows n) (fitted room (numeral_of n))

unfoldable pub numeral_left : List ℕ → Decimal → List ℕ
numeral_left xs n = on_written (numeral_answer (length xs) n) (put xs 0 (numeral_of n)) xs
