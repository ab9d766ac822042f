use Rattle.std.proofs.Common.{◌*◌, not, eqb}
use Rattle.sample.specs.Run.{Filling}
use Rattle.decode.specs.Sample.{sample_of}
use Rattle.decode.proofs.read_groups.Given as goal

abbrev pub invariant-loop-g : goal.invariant-loop-g
invariant-loop-g g l = Filling (sample_of 3 (not (eqb g.row.HIGH 0)) l.block) l.initial.row (4 * l.g) l.row
