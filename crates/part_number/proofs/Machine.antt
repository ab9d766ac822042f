-- The machine's 32-bit patterns, read as signed numbers: a part number as it is tested and made a trace's 16 bits.
-- Assumes nothing.
use Rattle.std.specs.Prelude.{◌≡◌, refl, Bool, true, false, ℕ, zero, suc, ◌<◌, ℤ, pos, negsuc, nat_abs, ltb, Some, None}
use Rattle.std.proofs.Common.{arith, le-ltb, w32, to_z, of_z}
use Rattle.std.specs.Int.{FitsUnsignedBits}
use Rattle.std.specs.Int.Signed.{mag}
use Rattle.std.specs.Bool.{then_some}
use Rattle.word.specs.Signed.{kept}
use Rattle.refusal.specs.Rows.{pick}
use Rattle.part_number.specs.PartNumber.{whose_of}
use Rattle.refusal.specs.declared.Part.{Part}
use Rattle.refusal.specs.declared.Part.TheVariants.{File, Trace}

-- -1
pub whole : (z : ℤ) (n : ℕ) → mag z < 2147483648 → of_z w32 z ≡ 4294967295 → Some File ≡ whose_of z n
unfolding whose_of
whole (pos k) n h e = absurd (omega arith)
whole (negsuc zero) n h e = refl
whole (negsuc (suc k)) n h e = absurd (omega arith)

-- below -1, or past 16 bits, as no count of traces is
pub nobody : (z : ℤ) (n : ℕ) → mag z < 2147483648 → n < 65536 → (of_z w32 z ≡ 4294967295 → ⊥)
    → (FitsUnsignedBits 16 (to_z w32 (of_z w32 z)) → ⊥) → None ≡ whose_of z n
unfolding whose_of
nobody z n h l f g = go z f (rw (kept w32 z h) at g)
  where
    go : (y : ℤ) → (of_z w32 y ≡ 4294967295 → ⊥) → (FitsUnsignedBits 16 y → ⊥) → None ≡ whose_of y n
    go (pos k) f g = rw (le-ltb k n (omega (arith, g)))
    go (negsuc zero) f g = absurd (f refl)
    go (negsuc (suc k)) f g = refl

-- 0 and above: among n, or past them
pub somebody : (z : ℤ) (n : ℕ) {k : ℕ} → mag z < 2147483648 → FitsUnsignedBits 16 (to_z w32 (of_z w32 z))
    → k ≡ nat_abs (to_z w32 (of_z w32 z)) → then_some (ltb k n) (Trace k) ≡ whose_of z n
unfolding whose_of
somebody z n {k} h f e = rw (e, kept w32 z h) (go z (rw (kept w32 z h) at f))
  where
    asked : (b : Bool) (p : Part) → then_some b p ≡ pick b (Some p) None
    asked true p = refl
    asked false p = refl

    go : (y : ℤ) → FitsUnsignedBits 16 y → then_some (ltb (nat_abs y) n) (Trace (nat_abs y)) ≡ whose_of y n
    go (pos j) f = asked (ltb j n) (Trace j)
    go (negsuc j) f = absurd f
