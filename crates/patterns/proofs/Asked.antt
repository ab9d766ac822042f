-- The codes of bits are 4 and 5, and the bytes of their samples are so many times the bytes of one.
-- Assumes nothing.
use Rattle.std.proofs.Common.{◌≡◌, true, ℕ, suc, zero, ◌*◌, ◌/◌, ◌<◌, ◌≤◌, refl, arith, le_trans, mul-le-mul_right, div-lt_iff_lt-mul, le-div_iff_mul-le}
use Rattle.sample.specs.Needed.{needed}
use Rattle.decode.specs.Sample.{bits_asked}

pub five : (code : ℕ) → bits_asked code ≡ true → (code ≡ 4 → ⊥) → code ≡ 5
five zero h n = cc
five (suc zero) h n = cc
five (suc (suc zero)) h n = cc
five (suc (suc (suc zero))) h n = cc
five (suc (suc (suc (suc zero)))) h n = absurd (n refl)
five (suc (suc (suc (suc (suc zero))))) h n = refl
five (suc (suc (suc (suc (suc (suc code)))))) h n = cc

pub one_needs : (code : ℕ) → bits_asked code ≡ true → 0 < needed code 1
unfolding needed
one_needs zero h = cc
one_needs (suc zero) h = cc
one_needs (suc (suc zero)) h = cc
one_needs (suc (suc (suc zero))) h = cc
one_needs (suc (suc (suc (suc zero)))) h = omega arith
one_needs (suc (suc (suc (suc (suc zero))))) h = omega arith
one_needs (suc (suc (suc (suc (suc (suc code)))))) h = cc

pub all_need : (code s : ℕ) → bits_asked code ≡ true → needed code s ≡ s * needed code 1
unfolding needed
all_need zero s h = cc
all_need (suc zero) s h = cc
all_need (suc (suc zero)) s h = cc
all_need (suc (suc (suc zero))) s h = cc
all_need (suc (suc (suc (suc zero)))) s h = omega arith
all_need (suc (suc (suc (suc (suc zero))))) s h = omega arith
all_need (suc (suc (suc (suc (suc (suc code)))))) s h = cc

-- a block of l bytes has not the bytes of s samples, or it has
pub too_few : (code s l : ℕ) → bits_asked code ≡ true → l / needed code 1 < s → l < needed code s
too_few code s l h k = rw (all_need code s h) ((div-lt_iff_lt-mul (one_needs code h)).0 k)

pub enough : (code s l : ℕ) → bits_asked code ≡ true → s ≤ l / needed code 1 → needed code s ≤ l
enough code s l h k = rw (all_need code s h) ((le-div_iff_mul-le (one_needs code h)).0 k)

-- the bytes of more samples are there, so those of fewer are
pub fewer : (code i s l : ℕ) → bits_asked code ≡ true → i ≤ s → needed code s ≤ l → needed code i ≤ l
fewer code i s l h k m = rw (all_need code i h) (le_trans (mul-le-mul_right (needed code 1) k) (rw (all_need code s h) at m))
