-- Whom a part number names among n traces: -1 the file, 0 to n-1 a trace.
-- Assumes nothing.
use Rattle.std.specs.Prelude.{ℕ, zero, suc, ℤ, pos, negsuc, ltb, Option, Some, None}
use Rattle.refusal.specs.Rows.{pick}
use Rattle.refusal.specs.declared.Part.{Part}
use Rattle.refusal.specs.declared.Part.TheVariants.{File}
use Rattle.refusal.specs.declared.Part.TheVariants.{Trace}

unfoldable pub whose_of : ℤ → ℕ → Option Part
whose_of (pos k) n = pick (ltb k n) (Some (Trace k)) None
whose_of (negsuc zero) n = Some File
whose_of (negsuc (suc k)) n = None
