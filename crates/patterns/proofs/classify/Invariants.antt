use Rattle.std.proofs.Common.{ℕ, get_or}
use Rattle.sample.specs.Run.{Filling}
use Rattle.decode.specs.Sample.{class_of}
use Rattle.patterns.proofs.classify.Given as goal

abbrev pub invariant-loop-i : goal.invariant-loop-i
invariant-loop-i g l = Filling (λ (k : ℕ). class_of g.row.CODE (get_or l.fn.row k 0)) l.initial.classes l.i l.classes
