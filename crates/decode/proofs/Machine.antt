-- The machine's 16 bits among its 32, read as signed numbers.
-- Assumes nothing.
use Rattle.std.proofs.Common.{◌≡◌, ◌<◌, arith, ℤ, w16, w32, to_z, of_z, SFits, to_z-of_z}
use Rattle.std.specs.Int.Signed.{mag}
use Rattle.word.specs.Signed.{kept}

-- 16 bits are among 32
pub fits16 : (z : ℤ) → mag z < 32768 → SFits w32 (to_z w16 (of_z w16 z))
fits16 z h = rw (to_z-of_z {w = w16} {z = z} (record { sfits = h })) (record { sfits = omega arith })

pub kept16 : (z : ℤ) → mag z < 32768 → to_z w32 (of_z w32 (to_z w16 (of_z w16 z))) ≡ z
kept16 z h = rw (to_z-of_z {w = w16} {z = z} (record { sfits = h })) (kept w32 z (omega arith))
