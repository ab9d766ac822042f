-- The answer for the parts of a number (document 01, "Numbers in values"): sign, coefficient and power, unless there are
-- too many digits.
-- Assumes nothing.
use Rattle.std.specs.Prelude.{◌≡◌, Bool, ◌&&◌, List, [], ◌∷◌, ℕ, ◌+◌, ◌≤◌, ◌<◌, ltb, Result, Ok, Err}
use Rattle.std.proofs.Math.ListN.{length}
use Rattle.std.proofs.Common.{lt-ltb, le-ltb}
use Rattle.refusal.specs.Rows.{Rows, first}
use Rattle.refusal.specs.Table.{refusal}
use Rattle.refusal.specs.declared.Rule.TheVariants.{Digits}
use Rattle.refusal.specs.declared.Part.TheVariants.{File}
use Rattle.decimal_parts.specs.declared.Decimal.{Decimal}
use Rattle.digits.specs.Value.{value}
use Rattle.decimal_parts.specs.Grammar.{Parts}
use Rattle.decimal_power.specs.Power.{power_of}
use Rattle.refusal.specs.declared.Refusal.{Refusal}

abbrev pub parts_are : Bool → List ℕ → List ℕ → Bool → List ℕ → Parts
parts_are m w d down e = record { minus = m; whole = w; decimals = d; down = down; exponent = e }

-- "sign, coefficient as written and power of ten; zero has sign plus", and "how many digits stood after the point"
-- (document 02 §4)
unfoldable pub decimal_of : Parts → Decimal
decimal_of p = record {
  minus = p.minus && ltb 0 (value (value 0 p.whole) p.decimals);
  coefficient = value (value 0 p.whole) p.decimals;
  power = power_of p.down (value 0 p.exponent) (length p.decimals);
  decimals = length p.decimals;
}

-- a lone number's refusals have place 0; whoever asks for a number inside a text puts the place in
abbrev pub too_long : Result Decimal Refusal
too_long = Err (refusal Digits File 0)

-- "At most 18 digits before E, leading zeros counted, and at most 2 after it"
abbrev pub limits : Parts → Rows (Result Decimal Refusal)
limits p = (ltb 18 (length p.whole + length p.decimals), too_long) ∷ (ltb 2 (length p.exponent), too_long) ∷ []

unfoldable pub judged : Parts → Result Decimal Refusal
judged p = first (limits p) (Ok (decimal_of p))

-- ---- a law for each answer, with what the code found and tested

module _ (m : Bool) (w d : List ℕ) (n : Bool) (e : List ℕ) where
  pub long_before : 18 < length w + length d → too_long ≡ judged (parts_are m w d n e)
  unfolding judged
  long_before h = rw (lt-ltb 18 (length w + length d) h)

  module _ (few : length w + length d ≤ 18) where
    pub long_after : 2 < length e → too_long ≡ judged (parts_are m w d n e)
    unfolding judged
    long_after h = rw (le-ltb 18 (length w + length d) few, lt-ltb 2 (length e) h)

    pub within : length e ≤ 2 → Ok (decimal_of (parts_are m w d n e)) ≡ judged (parts_are m w d n e)
    unfolding judged
    within h = rw (le-ltb 18 (length w + length d) few, le-ltb 2 (length e) h)
