-- `lines::put_order` meets its contract. The line of the order that it is. Assumes nothing.
use Rattle.lines.specs.Lines.{order}
use Rattle.lines.proofs.put_order.Goals as goal

pub put_bytes-requires : goal.put_bytes-requires
unfolding order
put_bytes-requires c =
    rw c.if-high.true at c.requires

pub returns-then-high : goal.returns-then-high
unfolding order
returns-then-high c =
    rw c.if-high.true c.put_bytes.ensures

pub put_bytes-requires-2 : goal.put_bytes-requires-2
unfolding order
put_bytes-requires-2 c =
    rw c.if-high.false at c.requires

pub returns : goal.returns
unfolding order
returns c =
    rw c.if-high.false c.put_bytes-2.ensures
