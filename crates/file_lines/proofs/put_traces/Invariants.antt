use Rattle.file_lines.specs.Walks.{Tracing}
use Rattle.file_lines.proofs.put_traces.Given as goal

abbrev pub invariant-loop-k : goal.invariant-loop-k
invariant-loop-k l = Tracing l.initial.out l.at l.f l.n l.k l.to l.out
