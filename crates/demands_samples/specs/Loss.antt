-- Demand 2, "save the low bits that 20-bit samples cannot hold": "the exponent is the smallest, found from the leading
-- zeros of the magnitude, that brings it to at most 32,767; low bits are cut toward zero; 0 is 0000h. So the value read
-- differs by less than 2 to the exponent, and by nothing up to 32,767" (document 01, "Samples"). What is read back is
-- said without the encoder, and there is one such value only: so rounding to nearest and any larger exponent are
-- excluded.
-- Assumes nothing.
use Rattle.std.specs.Prelude.{◌≡◌, ℕ, ◌+◌, ◌/◌, ◌^◌, ◌≤◌, ◌<◌, ℤ, pos, negsuc, neg_ℤ, nat_abs, ◌-ℤ◌, ◌*ℤ◌}
use Rattle.float20.specs.Float20.{mantissa_most}

-- y is what is read back of z
pub record LowBitsCut (z y : ℤ) : Type 0 where
  pub exponent : ℕ
  pub mantissa : ℤ
  -- "Value: mantissa times 2 to the exponent", the mantissa one of 16 bits
  pub value : y ≡ mantissa *ℤ pos (2 ^ exponent)
  pub fits : nat_abs mantissa ≤ mantissa_most
  -- "the smallest .. that brings it to at most 32,767"
  pub brings : nat_abs z / 2 ^ exponent ≤ mantissa_most
  pub smallest : (e : ℕ) → e < exponent → mantissa_most < nat_abs z / 2 ^ e
  -- "cut toward zero": y lies between 0 and z
  pub toward_zero : nat_abs y + nat_abs (z -ℤ y) ≡ nat_abs z
  -- "differs by less than 2 to the exponent"
  pub near : nat_abs (z -ℤ y) < 2 ^ exponent

-- a number between 0 and z is on z's side
abbrev pub alongside : ℤ → ℕ → ℤ
alongside (pos n) m = pos m
alongside (negsuc n) m = neg_ℤ (pos m)
