-- `patterns::classify` meets its contract. The invariant: what is left to store, stored, makes the whole row. Assumes
-- nothing.
use Rattle.std.proofs.Common.{arith}
use Rattle.sample.specs.Run.{fill_one}
use Rattle.decode.specs.SampleLaws.{classes_end}
use Rattle.patterns.proofs.classify.Goals as goal

pub loop-i-preserved : goal.loop-i-preserved
loop-i-preserved g c = fill_one c.loop-i.invariant (omega arith) c.class.ensures

pub returns : goal.returns
returns g c = classes_end _ c.args.row.now c.loop-i.invariant (omega arith) c.requires.1
