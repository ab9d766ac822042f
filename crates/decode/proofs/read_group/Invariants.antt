use Rattle.std.proofs.Common.{◌≡◌, ◌*◌}
use Rattle.word.specs.Put.{put}
use Rattle.sample.specs.Run.{values_from}
use Rattle.decode.specs.Sample.{sample_of}
use Rattle.decode.proofs.read_group.Given as goal

abbrev pub invariant-loop-k : goal.invariant-loop-k
invariant-loop-k l = l.row ≡ put l.initial.row (4 * l.g) (values_from (sample_of 3 l.high l.block) (4 * l.g) l.k)
