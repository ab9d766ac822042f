-- `numeral_text::before_last` meets its contract: what is left, before the digits that are left, is what is asked. Assumes
-- nothing.
use Rattle.std.proofs.Common.{arith}
use Rattle.numeral_text.specs.Stored.{before_start, before_again, before_over}
use Rattle.numeral_text.proofs.before_last.Goals as goal

pub loop-init : goal.loop-init
loop-init c = before_start _ _

pub loop-preserved : goal.loop-preserved
loop-preserved c = before_again _ _ _ _ (omega arith) c.loop.invariant

pub returns : goal.returns
returns c = before_over _ _ _ _ (omega arith) (omega arith) c.loop.invariant
