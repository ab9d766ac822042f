-- `lines::put_head` meets its contract. The order, N and M. Assumes nothing.
use Rattle.std.proofs.Common.{arith}
use Rattle.lines.specs.Lines.{head_line}
use Rattle.lines.specs.Sizes.{length_head}
use Rattle.word.specs.Wrote.{joined}
use Rattle.lines.proofs.put_head.Goals as goal

pub put_order-a-requires : goal.put_order-a-requires
unfolding head_line
put_order-a-requires c =
    let args = c.args in
    let l = length_head args.high args.n args.m in omega (arith, l, c.requires)

pub put_ended-b-requires : goal.put_ended-b-requires
unfolding head_line
put_ended-b-requires c =
    let args = c.args in
    let l = length_head args.high args.n args.m in omega (arith, l, c.requires, c.put_order-a.ensures.0)

pub put_ended-requires : goal.put_ended-requires
unfolding head_line
put_ended-requires c =
    let args = c.args in
    let l = length_head args.high args.n args.m in
    omega (arith, l, c.requires, c.put_order-a.ensures.0, c.put_ended-b.ensures.0)

pub returns : goal.returns
unfolding head_line
returns c =
    joined _ _ _ _ _ _ _ _ c.put_order-a.ensures (joined _ _ _ _ _ _ _ _ c.put_ended-b.ensures
    c.put_ended.ensures)
