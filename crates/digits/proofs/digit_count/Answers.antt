-- `digits::digit_count` meets its contract: those that are counted, and those of what is left, are one more than all.
-- Assumes nothing.
use Rattle.std.proofs.Common.{refl, arith}
use Rattle.digits.specs.Digits.{digits_some}
use Rattle.digits.specs.LastDigits.{counting_turn, counting_over, at_most_twenty}
use Rattle.digits.proofs.digit_count.Goals as goal

pub loop-left-init : goal.loop-left-init
loop-left-init c =
    (refl, at_most_twenty _ c.ranges.n.fits)

pub overflow_add-k : goal.overflow_add-k
overflow_add-k c =
    omega (arith, c.loop-left.invariant.0, c.loop-left.invariant.1, digits_some c.loop-left.left)

pub loop-left-smaller : goal.loop-left-smaller
loop-left-smaller c =
    omega arith

pub loop-left-preserved : goal.loop-left-preserved
loop-left-preserved c =
    (counting_turn _ _ _ c.loop-left.invariant.0 c.loop-left-test.true, c.loop-left.invariant.1)

pub returns : goal.returns
returns c =
    let e = counting_over _ _ _ c.loop-left.invariant.0 c.loop-left-test.false in (e, omega (arith, e, c.loop-left.invariant.1))
