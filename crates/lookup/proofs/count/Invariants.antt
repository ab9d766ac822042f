use mathlib.Core.Path.{◌≡◌}
use Prim.Native.Nat.{ℕ, ◌≤◌, ◌+◌, ◌-◌}
use lib.ListN.{length}
use Rattle.word.specs.Part.{part}
use Rattle.strings.specs.Strings.{places_from, places_of}
use Rattle.lookup.proofs.count.Given as goal

abbrev pub invariant-loop-at : goal.invariant-loop-at
invariant-loop-at l =
    (l.a ≤ l.at) × (l.at ≤ l.e) × (l.n + l.a ≤ l.at) × ((m : ℕ) × (l.e - l.at ≤ m) × (l.n + length
    (places_from l.how m l.high l.t (part l.at l.e l.f) l.at) ≡ length (places_of l.how l.high l.t (part l.a l.e l.f) l.a)))

abbrev pub decreases-loop-at : goal.decreases-loop-at
decreases-loop-at l =
    l.e - l.at
