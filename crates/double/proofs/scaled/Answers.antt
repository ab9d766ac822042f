-- `double::scaled` meets its contract: multiplied or divided once, or neither. Assumes nothing.
use Rattle.std.proofs.Common.{eq-eqb, ne_eqb}
use Rattle.double.specs.Double.{scaled_of}
use Rattle.double.proofs.scaled.Goals as goal

pub returns-then-k-eq0 : goal.returns-then-k-eq0
unfolding scaled_of
returns-then-k-eq0 c =
    rw (eq-eqb _ _ c.if-k-eq0.true)

pub returns-then-down : goal.returns-then-down
unfolding scaled_of
returns-then-down c =
    rw (ne_eqb _ _ c.if-k-eq0.false, c.if-down.true, c.ten-y.ensures)

pub returns-else-down : goal.returns-else-down
unfolding scaled_of
returns-else-down c =
    rw (ne_eqb _ _ c.if-k-eq0.false, c.if-down.false, c.ten-y.ensures)
