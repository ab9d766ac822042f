-- The machine's 32 bits of a signed number are its two's complement.
-- Assumes nothing.
use Rattle.std.proofs.Common.{◌≡◌, ◌<◌, arith, ℤ, pos, negsuc, w32, of_z}
use Rattle.std.specs.Int.Signed.{mag}
use Rattle.encode.specs.Write.{residue}

pub bits_residue : (v : ℤ) → mag v < 2147483648 → of_z w32 v ≡ residue 4294967296 v
unfolding residue
bits_residue (pos n) h = omega arith
bits_residue (negsuc n) h = omega arith
