use mathlib.Core.Path.{◌≡◌}
use Prim.Native.Nat.{ℕ, ◌≤◌, ◌-◌}
use Rattle.word.specs.Part.{part}
use Rattle.strings.specs.Strings.{places_from, places_of, find_of}
use Rattle.lookup.proofs.find.Given as goal

abbrev pub invariant-loop-at : goal.invariant-loop-at
invariant-loop-at l =
    (l.a ≤ l.at) × (l.at ≤ l.e) × ((m : ℕ) × (l.e - l.at ≤ m) × (find_of l.how l.f (places_from l.how m l.high l.t
    (part l.at l.e l.f) l.at) l.key ≡ find_of l.how l.f (places_of l.how l.high l.t (part l.a l.e l.f) l.a) l.key))

abbrev pub decreases-loop-at : goal.decreases-loop-at
decreases-loop-at l =
    l.e - l.at
