use mathlib.Core.Path.{◌≡◌}
use Prim.Native.Nat.{ℕ, ◌≤◌, ◌-◌}
use Rattle.word.specs.Part.{part}
use Rattle.strings.specs.Strings.{strings_from, strings_of}
use Rattle.channel.specs.Channel.{channel_number}
use Rattle.seek.specs.Sought.{Sought}
use Rattle.strings_check.proofs.check.Given as goal

abbrev pub invariant-loop-at : goal.invariant-loop-at
invariant-loop-at l =
    (l.a ≤ l.at) × (l.at ≤ l.e) × (l.k ≤ l.g) × (l.g ≤ l.e) × ((m : ℕ) × (l.e - l.at ≤ m)
    × (strings_from l.how m l.high l.t l.u l.whose (part l.k l.g l.f) (part l.at l.e l.f) l.at ≡ strings_of l.how l.high l.t l.u l.whose (part l.a l.e l.f) l.a)
    × Sought l.how l.high l.t l.f channel_number l.a l.e l.at l.hit l.gap l.size m)

abbrev pub decreases-loop-at : goal.decreases-loop-at
decreases-loop-at l =
    l.e - l.at
