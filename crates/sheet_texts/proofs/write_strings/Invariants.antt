use mathlib.Core.Path.{◌≡◌}
use Prim.Native.Nat.{◌-◌, ◌≤◌}
use lib.ListN.{length}
use Rattle.sheet_texts.specs.Texts.{Strung}
use Rattle.sheet_texts.proofs.write_strings.Given as goal

abbrev pub invariant-loop-at : goal.invariant-loop-at
invariant-loop-at l =
    (l.at ≤ length l.sheet) × (length l.part ≡ length l.initial.part) × Strung l.high l.t l.u l.sheet l.initial.part l.at l.to l.part

abbrev pub decreases-loop-at : goal.decreases-loop-at
decreases-loop-at l =
    length l.sheet - l.at
