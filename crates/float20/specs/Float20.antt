-- A sample of code 3 by its exponent and its mantissa (document 01, "Samples" and "What we write").
-- Assumes nothing.
use Rattle.std.specs.Prelude.{cond, ℕ, zero, suc, ◌+◌, ◌-◌, ◌/◌, ◌^◌, ℤ, pos, negsuc, nat_abs, leb}
use Rattle.std.specs.Int.Signed.{quot_z}

-- the greatest mantissa: "at most 32,767"
abbrev pub mantissa_most : ℕ
mantissa_most = 32767

-- the first exponent from e on that brings n to at most that; where `left` more are not enough, the last of them
unfoldable pub smallest : ℕ → ℕ → ℕ → ℕ
smallest zero e n = e
smallest (suc left) e n = cond (leb (n / 2 ^ e) mantissa_most) e (smallest left (e + 1) n)

-- "the exponent is the smallest .. that brings it to at most 32,767; low bits are cut toward zero"
unfoldable pub exponent_of : ℤ → ℕ
exponent_of z = smallest 15 0 (nat_abs z)

unfoldable pub mantissa_of : ℤ → ℤ
mantissa_of z = quot_z z (pos (2 ^ exponent_of z))

-- one's complement of 16 bits: a negative number is all bits but those of its magnitude; 0 is 0000h
unfoldable pub ones_bits : ℤ → ℕ
ones_bits (pos n) = n
ones_bits (negsuc n) = 65535 - suc n
