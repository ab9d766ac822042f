use Rattle.std.proofs.Common.{◌-◌}
use Rattle.string_lines.specs.Walks.{Stringing}
use Rattle.string_lines.proofs.put_strings.Given as goal

abbrev pub invariant-loop-s : goal.invariant-loop-s
invariant-loop-s l =
    Stringing l.initial.out l.at l.part l.f l.a l.e l.high l.t l.u l.s l.to l.out

abbrev pub decreases-loop-s : goal.decreases-loop-s
decreases-loop-s l =
    l.e - l.s
