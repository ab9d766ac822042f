-- `decode::read2` meets its contract: all or nothing. Assumes nothing.
use Rattle.std.proofs.Common.{refl, sym, arith}
use Rattle.sample.specs.Needed.{needed}
use Rattle.decode.specs.SampleLaws.{too_short, there, nothing_read}
use Rattle.decode.proofs.read2.Goals as goal

pub returns-then-block-row : goal.returns-then-block-row
unfolding needed
returns-then-block-row c =
    let e = nothing_read 2 _ _ _ (too_short 2 _ _ (omega arith)) in record { answer = e.0; filled = e.1 }

pub fill-requires : goal.fill-requires
unfolding needed
fill-requires c = there 2 _ _ refl (omega arith)

pub returns-clause-answer : goal.returns-clause-answer
unfolding needed
returns-clause-answer c = sym (there 2 _ _ refl (omega arith))
