use mathlib.Core.Path.{◌≡◌}
use Prim.Native.Nat.{ℕ, ◌≤◌, ◌-◌, ◌+◌, ◌*◌}
use lib.ListN.{length}
use Rattle.word.specs.Part.{part}
use Rattle.word.specs.Put.{put}
use Rattle.strings.specs.Strings.{places_from, places_of}
use Rattle.places.specs.Numbers.{numbers_of}
use Rattle.places.proofs.fill.Given as goal

abbrev pub invariant-loop-at : goal.invariant-loop-at
invariant-loop-at l =
    (l.a ≤ l.at) × (l.at ≤ l.e) × (length l.row ≡ length l.initial.row) × ((m : ℕ) × (l.e - l.at ≤ m)
    × (l.j + 4 * length (places_from l.how m l.high l.t (part l.at l.e l.f) l.at) ≡ length l.initial.row)
    × (put l.row l.j (numbers_of (places_from l.how m l.high l.t (part l.at l.e l.f) l.at))
    ≡ put l.initial.row 0 (numbers_of (places_of l.how l.high l.t (part l.a l.e l.f) l.a))))

abbrev pub decreases-loop-at : goal.decreases-loop-at
decreases-loop-at l =
    l.e - l.at
