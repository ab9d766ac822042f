use Rattle.sample.specs.Run.{Filling}
use Rattle.decode.specs.Sample.{sample_of}
use Rattle.decode.proofs.fill.Given as goal

abbrev pub invariant-loop-i : goal.invariant-loop-i
invariant-loop-i g l = Filling (sample_of g.row.CODE l.high l.block) l.initial.row l.i l.row
