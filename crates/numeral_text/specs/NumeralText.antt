-- The text of a number (document 02 §4): "exactly that many decimals, at least one digit before the point and otherwise
-- no leading zero, then E .. where this is not 0". Any sign, coefficient, count and power behind E may be given.
-- Assumes nothing.
use Rattle.std.specs.Prelude.{Bool, true, false, List, [], ◌∷◌, ◌++◌, ℕ, zero, suc, ◌^◌, ◌/◌}
use Rattle.digits.specs.Digits.{digits}
use Rattle.decimal_parts.specs.Grammar.{Parts}
use Rattle.digits.specs.LastDigits.{last_digits}

-- ---- the parts of the text

-- "where this is not 0"
abbrev pub unless_zero : ℕ → List ℕ
unless_zero zero = []
unless_zero (suc k) = digits (suc k)

-- "exactly that many decimals, at least one digit before the point and otherwise no leading zero": behind the point
-- stand the coefficient's last digits, as many as the count says, before it what they leave
abbrev pub parts_with : Bool → ℕ → ℕ → Bool → ℕ → Parts
parts_with minus c k down far = record {
  minus = minus;
  whole = digits (c / 10 ^ k);
  decimals = last_digits k c;
  down = down;
  exponent = unless_zero far;
}

-- ---- the text of parts: document 01's grammar, as it is written

unfoldable pub sign_text : Bool → List ℕ
sign_text true = 45 ∷ []
sign_text false = []

unfoldable pub point_text : List ℕ → List ℕ
point_text [] = []
point_text (d ∷ ds) = 46 ∷ d ∷ ds

unfoldable pub power_text : Bool → List ℕ → List ℕ
power_text down [] = []
power_text down (e ∷ es) = 69 ∷ (sign_text down ++ (e ∷ es))

unfoldable pub spelling : Parts → List ℕ
spelling p = sign_text p.minus ++ (p.whole ++ (point_text p.decimals ++ power_text p.down p.exponent))
