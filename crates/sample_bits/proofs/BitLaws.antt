-- Theorems on what specs/BitLaws defines. They stand here, as a wrong definition there is to be refused and not to be unread.
-- Assumes nothing.
use Rattle.std.proofs.Common.{lt_of_not-le, arith}
use Rattle.std.specs.Prelude.{◌≡◌, ℕ, zero, suc, ◌-◌, ◌*◌, ◌^◌, ◌≤◌, ◌<◌, pos, neg_ℤ, nat_abs, ◌-ℤ◌}
use Rattle.std.proofs.Math.Decide.{dec_le}
use Rattle.sample_bits.specs.SampleBits.{ones, scaled}
use Rattle.sample_bits.specs.BitLaws.{minus_more, minus_times, ones_minus, ones_plus}

-- which is 65535 less than its bits say
pub ones_less : (m : ℕ) → 32768 ≤ m → m < 65536 → pos m -ℤ pos 65535 ≡ ones m
ones_less m h l = rw (ones_minus m h) (elim (dec_le 65535 m) [
  | yes k ↦ (let e : m ≡ 65535 = omega arith in rw e)
  | no k ↦ (let e : 65535 - m ≡ suc (65535 - 1 - m) = omega (arith, lt_of_not-le k) in rw e (minus_more m 65535 (lt_of_not-le k)))
])

-- 15 bits are left of it
pub ones_small : (m : ℕ) → nat_abs (ones m) < 32768
ones_small m =
    elim (dec_le 32768 m) [
      | yes h ↦ rw (ones_minus m h) (size (65535 - m) (omega arith))
      | no h ↦ (let l = lt_of_not-le h in rw (ones_plus m l) l)
    ]
  where
    size : (n : ℕ) → n < 32768 → nat_abs (neg_ℤ (pos n)) < 32768
    size zero h = h
    size (suc n) h = h

pub scaled_minus : (e m : ℕ) → 32768 ≤ m → scaled e m ≡ neg_ℤ (pos ((65535 - m) * 2 ^ e))
unfolding scaled
scaled_minus e m h = rw (ones_minus m h) (minus_times (65535 - m) (2 ^ e))
