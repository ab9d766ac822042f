-- `patterns::patterns` meets its contract. The invariant: what is left to store, stored, makes the whole row. Assumes
-- nothing.
use Rattle.std.proofs.Common.{arith}
use Rattle.sample.specs.Run.{fill_one, fill_end}
use Rattle.patterns.proofs.Asked.{fewer}
use Rattle.patterns.proofs.patterns.Goals as goal

pub pattern_at-requires : goal.pattern_at-requires
pattern_at-requires g c = (c.requires.0, fewer _ _ _ _ c.requires.0 (omega arith) c.requires.1)

pub loop-i-preserved : goal.loop-i-preserved
loop-i-preserved g c = fill_one c.loop-i.invariant (omega arith) c.pattern_at.ensures

pub returns : goal.returns
returns g c = fill_end c.loop-i.invariant (omega arith)
