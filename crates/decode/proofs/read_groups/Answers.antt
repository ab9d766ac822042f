-- `decode::read_groups` meets its contract. The invariant is that of a row of which 4 * g places are filled. Assumes
-- nothing.
use Rattle.std.proofs.Common.{arith}
use Rattle.sample.specs.Needed.{needed}
use Rattle.sample.specs.Run.{fill_end}
use Rattle.decode.specs.SampleLaws.{fill_group}
use Rattle.decode.proofs.read_groups.Goals as goal

pub read_group-requires : goal.read_group-requires
unfolding needed
read_group-requires g c = (omega arith, omega arith)

pub loop-g-preserved : goal.loop-g-preserved
loop-g-preserved g c = fill_group c.loop-g.g c.loop-g.invariant (omega arith) c.read_group.ensures

pub returns : goal.returns
returns g c = fill_end c.loop-g.invariant (omega arith)
