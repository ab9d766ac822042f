-- `digits::put_last` meets its contract: the digits that are left, stored from here on, are all of them. Assumes
-- nothing.
use Rattle.std.proofs.Common.{arith, length-set}
use Rattle.digits.specs.LastDigits.{last_length, last_start, last_again, last_over}
use Rattle.digits.proofs.put_last.Goals as goal

pub loop-i-init : goal.loop-i-init
loop-i-init c =
    (omega (arith, last_length c.args.k c.args.c, c.requires), last_start _ _ _ _)

pub loop-i-preserved : goal.loop-i-preserved
loop-i-preserved c =
    (simp length-set (omega (arith, c.loop-i.invariant.0)), last_again c.loop-i.invariant.1 c.loop-i-test.true)

pub returns : goal.returns
returns c =
    last_over c.loop-i.invariant.1 c.loop-i-test.false
