use Rattle.std.proofs.Common.{◌-◌}
use Rattle.std.proofs.Common.{length}
use Rattle.string_lines.specs.Walks.{Lining}
use Rattle.string_lines.proofs.put_lines.Given as goal

abbrev pub invariant-loop-e : goal.invariant-loop-e
invariant-loop-e l =
    Lining l.initial.out l.at l.part l.key l.u l.v l.from l.to l.e l.out

abbrev pub decreases-loop-e : goal.decreases-loop-e
decreases-loop-e l =
    length l.v - l.from
