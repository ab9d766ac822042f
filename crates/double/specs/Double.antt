-- Numbers as doubles (document 01, "As a double"), in the logic's account of IEEE 754: two exact doubles, and one
-- operation on them.
-- Assumes nothing.
use Rattle.std.specs.Prelude.{Bool, List, [], ◌∷◌, ℕ, ◌^◌, pos, nat_abs, ltb, eqb, Float, Result, Ok, Err}
use Rattle.std.specs.Int.Signed.{lt_z}
use Rattle.std.specs.Float.{binary64}
use Rattle.std.specs.Float.Ieee.{neg, mul, div, of_int}
use Rattle.refusal.specs.declared.Refusal.{Refusal}
use Rattle.refusal.specs.declared.Rule.TheVariants.{NoDouble}
use Rattle.refusal.specs.declared.Part.TheVariants.{File}
use Rattle.refusal.specs.Rows.{pick, first}
use Rattle.refusal.specs.Table.{refusal}
use Rattle.decimal_parts.specs.declared.Decimal.{Decimal}
use Rattle.decimal.specs.Number.{number_in}

-- a whole number as a double: exact up to 2^53 (`Rounded`)
abbrev pub exact : ℕ → Float
exact n = of_int binary64 (pos n)

-- "multiplied or divided once by ten to the absolute power (power 0: neither)"
unfoldable pub scaled_of : Bool → ℕ → ℕ → Float
scaled_of down c k =
    pick (eqb k 0) (exact c) (pick down (div binary64 (exact c) (exact (10 ^ k))) (mul binary64 (exact c) (exact (10 ^ k))))

-- "negated last if minus"
abbrev pub with_sign : Bool → Float → Float
with_sign minus x = pick minus (neg x) x

abbrev pub no_double : Result Float Refusal
no_double = Err (refusal NoDouble File 0)

-- "only if the coefficient is at most 9,007,199,254,740,991 and the power lies in -15 to 15"
unfoldable pub double_from : Decimal → Result Float Refusal
double_from n =
    first ((ltb 9007199254740991 n.coefficient, no_double) ∷ (ltb 15 (nat_abs n.power), no_double) ∷ [])
    (Ok (with_sign n.minus (scaled_of (lt_z n.power (pos 0)) n.coefficient (nat_abs n.power))))

-- 20 and 21 are the number's own
unfoldable pub on_number : Result Decimal Refusal → Result Float Refusal
on_number (Ok n) = double_from n
on_number (Err r) = Err r

unfoldable pub double_of : List ℕ → Result Float Refusal
double_of t = on_number (number_in t)
