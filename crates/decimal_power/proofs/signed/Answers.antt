-- `decimal_power::signed` meets its contract. Assumes nothing.
use Rattle.word.specs.Signed.{negates, negated}
use mir.Syntax.{w32}
use mir.Facts.{to_z_pos}
use Rattle.decimal_power.proofs.signed.Goals as goal

pub overflow_sub-result : goal.overflow_sub-result
overflow_sub-result c =
    negates w32 c.args.n c.requires

pub returns-then-minus : goal.returns-then-minus
returns-then-minus c =
    rw c.if-minus.true (negated w32 c.args.n c.requires)

pub returns-else-minus : goal.returns-else-minus
returns-else-minus c =
    rw c.if-minus.false (to_z_pos w32 c.requires)
