-- What the bits of an integer sample mean, as figures B-1 to B-3 of the paper show (document 01, "Samples").
-- Assumes nothing.
use Rattle.std.specs.Prelude.{cond, ℕ, ◌-◌, ◌*◌, ◌/◌, ◌%◌, ◌^◌, ℤ, pos, neg_ℤ, ◌-ℤ◌, ◌*ℤ◌, ltb}

-- two's complement (figures B-1 and B-2): the sign bit weighs `half`, and where it is set the number is less by twice
-- that than its bits say
unfoldable pub twos : ℕ → ℕ → ℤ
twos half n = cond (ltb n half) (pos n) (pos n -ℤ pos (2 * half))

-- ---- code 3 (figure B-3)

-- the exponent of sample k of a group: bits 4k to 4k + 3 of the group's first word
unfoldable pub exponent_in : ℕ → ℕ → ℕ
exponent_in word k = word / 2 ^ (4 * k) % 16

-- one's complement of 16 bits: where the sign bit is set, minus the number whose bits are the others. So FFFFh is minus
-- 0, which is 0
unfoldable pub ones : ℕ → ℤ
ones n = cond (ltb n 32768) (pos n) (neg_ℤ (pos (65535 - n)))

-- "Value: mantissa times 2 to the exponent"
unfoldable pub scaled : ℕ → ℕ → ℤ
scaled exponent mantissa = ones mantissa *ℤ pos (2 ^ exponent)
