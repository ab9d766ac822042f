-- `key_order::is_less` meets its contract. The invariant: what is left compares as the whole does. Assumes nothing.
use Rattle.std.proofs.Common.{◌∙◌, arith}
use Rattle.key_order.proofs.Order.{less_other, less_same, less_rest}
use Rattle.key_order.proofs.is_less.Goals as goal

pub returns-then-p-i : goal.returns-then-p-i
returns-then-p-i c = less_other _ _ c.loop-i.i (omega arith) (omega arith) c.if-p-i.true ∙ c.loop-i.invariant

pub loop-i-preserved : goal.loop-i-preserved
loop-i-preserved c = less_same _ _ c.loop-i.i (omega arith) (omega arith) c.if-p-i.false ∙ c.loop-i.invariant

pub returns : goal.returns
returns c = less_rest _ _ c.loop-i.i (omega arith) (omega arith) (λ h g. omega arith) ∙ c.loop-i.invariant
