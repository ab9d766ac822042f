use mathlib.Core.Path.{◌≡◌}
use Prim.Native.Nat.{◌≤◌, ◌-◌}
use lib.ListN.{length}
use Rattle.sheet_string.specs.StringBytes.{Noting}
use Rattle.sheet_string.proofs.write_lines.Given as goal

abbrev pub invariant-loop-at : goal.invariant-loop-at
invariant-loop-at l =
    (l.at ≤ length l.s) × (length l.part ≡ length l.initial.part) × Noting l.u l.s l.initial.part l.to l.at l.end l.part

abbrev pub decreases-loop-at : goal.decreases-loop-at
decreases-loop-at l =
    length l.s - l.at
