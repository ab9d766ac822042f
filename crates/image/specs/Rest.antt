-- What comes behind rows 2 to 7, by the walk as the code goes it (traces/Walk): the first pointer is judged once.
-- Assumes nothing.
use Rattle.std.specs.Prelude.{◌≡◌, Bool, List, length, eqb}
use Rattle.std.proofs.Math.Path.{sym}
use Rattle.std.proofs.Common.{◌∙◌, ne_eqb}
use Prim.Native.Nat.{ℕ, zero, suc, ◌+◌, ◌-◌}
use native.Mathlib.Omega.{arith}
use Rattle.refusal.specs.Rows.{pick_second}
use Rattle.refusal.specs.Verdicts.{and_then}
use Rattle.refusal.specs.FirstRow.{first_next, first_two}
use Rattle.refusal.specs.declared.Part.TheVariants.{File}
use Rattle.refusal.specs.declared.Refusal.{Refusal}
use Rattle.text.specs.declared.Manner.{Manner}
use Rattle.block.specs.Block.{pointer_of, pointer_row}
use Rattle.trace.specs.Trace.{area_verdict}
use Rattle.traces.specs.Traces.{traces_from}
use Rattle.traces.specs.Walk.{next_of, pointed_from, next_refused, next_passed, next_past}
use Rattle.image.specs.Image.{rest_of}
