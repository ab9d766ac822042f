-- `lines::put_trace_line` meets its contract. Trace, code and samples. Assumes nothing.
use Rattle.std.proofs.Common.{arith}
use Rattle.lines.specs.Lines.{trace_line}
use Rattle.lines.specs.Sizes.{length_trace}
use Rattle.word.specs.Wrote.{joined}
use Rattle.lines.proofs.put_trace_line.Goals as goal

pub put_bytes-a-requires : goal.put_bytes-a-requires
unfolding trace_line
put_bytes-a-requires c =
    let args = c.args in
    let l = length_trace args.k args.code args.s in omega (arith, l, c.requires)

pub put_ended-b-requires : goal.put_ended-b-requires
unfolding trace_line
put_ended-b-requires c =
    let args = c.args in
    let l = length_trace args.k args.code args.s in omega (arith, l, c.requires, c.put_bytes-a.ensures.0)

pub put_ended-c-requires : goal.put_ended-c-requires
unfolding trace_line
put_ended-c-requires c =
    let args = c.args in
    let l = length_trace args.k args.code args.s in
    omega (arith, l, c.requires, c.put_bytes-a.ensures.0, c.put_ended-b.ensures.0)

pub put_ended-requires : goal.put_ended-requires
unfolding trace_line
put_ended-requires c =
    let args = c.args in
    let l = length_trace args.k args.code args.s in
    omega (arith, l, c.requires, c.put_bytes-a.ensures.0, c.put_ended-b.ensures.0, c.put_ended-c.ensures.0)

pub returns : goal.returns
unfolding trace_line
returns c =
    joined _ _ _ _ _ _ _ _ c.put_bytes-a.ensures (joined _ _ _ _ _ _ _ _ c.put_ended-b.ensures
    (joined _ _ _ _ _ _ _ _ c.put_ended-c.ensures c.put_ended.ensures))
