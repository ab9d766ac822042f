use Rattle.std.proofs.Common.{not, eqb}
use Rattle.sample.specs.Run.{Filling}
use Rattle.decode.specs.Sample.{pattern_of}
use Rattle.patterns.proofs.patterns.Given as goal

abbrev pub invariant-loop-i : goal.invariant-loop-i
invariant-loop-i g l = Filling (pattern_of g.row.CODE (not (eqb g.row.HIGH 0)) l.block) l.initial.row l.i l.row
