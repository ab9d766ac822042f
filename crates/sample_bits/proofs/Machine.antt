-- The machine's bits, read as signed numbers, and shifts that lose nothing.
-- Assumes nothing.
use Rattle.std.proofs.Common.{◌≡◌, ℕ, suc, ◌+◌, ◌-◌, ◌*◌, ◌%◌, ◌^◌, ◌<◌, lt_of_lt_of_le, arith, negsuc, nat_abs, shl_lt, pow_mono, w32, to_z, of_z}
use Rattle.std.proofs.Common.{sym, ap, ◌∙◌, lt_of_not-le}
use Rattle.std.proofs.Math.Decide.{dec_le}
use Rattle.std.proofs.Math.Facts.{to_z_pos, to_z-neg}
use Rattle.std.specs.Int.{Width}
use mir.Val.{bits, hbits}
use Rattle.sample_bits.specs.SampleBits.{twos, ones, scaled}
use Rattle.sample_bits.specs.BitLaws.{twos_plus, twos_minus}
use Rattle.sample_bits.proofs.BitLaws.{ones_small}
use Rattle.word.specs.Signed.{halves, shifts}

-- the machine reads its bits in two's complement
pub signed_twos : (w : Width) (n : ℕ) → n < 2 ^ bits w → to_z w n ≡ twos (2 ^ hbits w) n
signed_twos w n h = elim (dec_le (2 ^ hbits w) n) [
  | yes l ↦ (let k = 2 ^ bits w - suc n in
      let e : n ≡ 2 ^ bits w - suc k = omega arith in
      let m : 2 * 2 ^ hbits w - 1 - n ≡ k = omega (arith, halves w) in
      ap (to_z w) e ∙ to_z-neg w k (omega (arith, halves w)) ∙ sym (twos_minus (2 ^ hbits w) n l (omega (arith, halves w)) ∙ ap negsuc m))
  | no l ↦ (let m = lt_of_not-le l in to_z_pos w m ∙ sym (twos_plus (2 ^ hbits w) n m))
]

-- a mantissa has 15 bits: shifted up by at most 15, nothing of it is lost
pub mantissa_shifts : (m e : ℕ) → e < 16 → to_z w32 (of_z w32 (ones m) * 2 ^ e % 4294967296) ≡ scaled e m
unfolding scaled
mantissa_shifts m e l =
    shifts w32 (ones m) e (lt_of_lt_of_le (shl_lt {a = nat_abs (ones m)} 15 e (ones_small m)) (pow_mono {i = 15 + e} {j = 31} (omega arith)))
