use mathlib.Core.Path.{◌≡◌}
use Prim.Native.Nat.{◌-◌, ◌≤◌, ◌<◌}
use Rattle.traces.specs.Traces.{with_channel}
use Rattle.traces.specs.Walk.{pointed_from, Stands}
use Rattle.traces.proofs.traces.Given as goal

abbrev pub invariant-loop-k : goal.invariant-loop-k
invariant-loop-k l =
    (l.k ≤ l.n) × Stands l.high l.f l.n l.k l.p × (pointed_from l.how l.high l.t l.u l.f (l.n - l.k) l.k ≡ pointed_from l.how l.high l.t l.u l.f l.n 0)
    × (0 < l.k → l.with ≡ with_channel l.how l.high l.t l.f)

abbrev pub decreases-loop-k : goal.decreases-loop-k
decreases-loop-k l =
    l.n - l.k
