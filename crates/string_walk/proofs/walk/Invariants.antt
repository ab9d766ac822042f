use mathlib.Core.Path.{◌≡◌}
use Prim.Native.Nat.{ℕ, ◌≤◌, ◌-◌}
use Rattle.word.specs.Part.{part}
use Rattle.until.specs.Until.{look_of, walk_from, walk_of}
use Rattle.string_walk.proofs.walk.Given as goal

abbrev pub invariant-loop-at : goal.invariant-loop-at
invariant-loop-at l =
    (l.a ≤ l.at) × (l.at ≤ l.e) × (l.k ≤ l.g) × (l.g ≤ l.e) × (l.j ≤ l.at) × ((m : ℕ) × (l.e - l.at ≤ m)
    × (walk_from (look_of l.ask l.key) m l.high l.t l.u l.whose l.j (part l.k l.g l.f) (part l.at l.e l.f) l.at
    ≡ walk_of (look_of l.ask l.key) l.high l.t l.u l.whose (part l.a l.e l.f) l.a))

abbrev pub decreases-loop-at : goal.decreases-loop-at
decreases-loop-at l =
    l.e - l.at
