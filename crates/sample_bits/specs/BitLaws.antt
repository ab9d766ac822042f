-- The laws of a sample's bits, by the sign.
-- Assumes nothing.
use Rattle.std.specs.Prelude.{◌≡◌, ℕ, zero, suc, ◌-◌, ◌*◌, ◌^◌, ◌≤◌, ◌<◌, pos, negsuc, neg_ℤ, ◌-ℤ◌, ◌*ℤ◌}
use Rattle.std.proofs.Common.{sym, ap, ◌∙◌, zero-mul, arith, lt-ltb, le-ltb}
use Rattle.std.proofs.Math.IntN.{pos-*ℤ-pos, negsuc-*ℤ-pos, zero-*ℤ}
use Rattle.sample_bits.specs.SampleBits.{twos, ones, scaled}

-- ---- two's complement

pub twos_plus : (half n : ℕ) → n < half → twos half n ≡ pos n
unfolding twos
twos_plus half n h = simp (lt-ltb n half h)

pub minus_more : (n m : ℕ) → n < m → pos n -ℤ pos m ≡ negsuc (m - 1 - n)
minus_more n zero h = absurd (omega arith)
minus_more n (suc m) h = let e : suc m - suc n ≡ suc m - 1 - n = omega arith in simp (lt-ltb n (suc m) h) (ap negsuc e)

pub twos_minus : (half n : ℕ) → half ≤ n → n < 2 * half → twos half n ≡ negsuc (2 * half - 1 - n)
unfolding twos
twos_minus half n h k = simp (le-ltb n half h) (minus_more n (2 * half) k)

-- ---- code 3

-- a mantissa that is not negative, and one that is
pub ones_plus : (m : ℕ) → m < 32768 → ones m ≡ pos m
unfolding ones
ones_plus m h = rw (lt-ltb m 32768 h)

pub ones_minus : (m : ℕ) → 32768 ≤ m → ones m ≡ neg_ℤ (pos (65535 - m))
unfolding ones
ones_minus m h = rw (le-ltb m 32768 h)

pub scaled_plus : (e m : ℕ) → m < 32768 → scaled e m ≡ pos (m * 2 ^ e)
unfolding scaled
scaled_plus e m h = rw (ones_plus m h) (pos-*ℤ-pos m (2 ^ e))

pub minus_times : (a b : ℕ) → neg_ℤ (pos a) *ℤ pos b ≡ neg_ℤ (pos (a * b))
minus_times zero b = zero-*ℤ (pos b) ∙ ap (λ (n : ℕ). neg_ℤ (pos n)) (sym (zero-mul b))
minus_times (suc a) b = negsuc-*ℤ-pos a b
