-- `file_lines::put_traces` meets its contract. The invariant: the traces that are left, stored, make the whole. Assumes
-- nothing.
use Rattle.std.proofs.Common.{arith}
use Rattle.file_lines.specs.Walks.{tracing_start, tracing_over, tracing_room, tracing_turn}
use Rattle.file_lines.proofs.put_traces.Goals as goal

pub loop-k-init : goal.loop-k-init
loop-k-init c =
    let args = c.args in
    tracing_start args.out.now args.at args.f.now args.n

pub put_trace-to-requires : goal.put_trace-to-requires
put_trace-to-requires c =
    let args = c.args in (
      c.requires.0,
      c.requires.1,
      omega (arith, c.requires.2, c.loop-k-test.true),
      tracing_room args.out.now args.at
          args.f.now args.n c.loop-k.k c.loop-k.to c.loop-k.out c.loop-k.invariant c.loop-k-test.true
          c.requires.3,
    )

pub loop-k-preserved : goal.loop-k-preserved
loop-k-preserved c =
    let args = c.args in
    tracing_turn args.out.now args.at args.f.now args.n c.loop-k.k c.loop-k.to c.loop-k.out
    c.loop-k.invariant c.loop-k-test.true _ _ c.put_trace-to.ensures

pub shape_of-out : goal.shape_of-out
shape_of-out c =
    c.loop-k.invariant.1

pub returns : goal.returns
returns c =
    let args = c.args in
    tracing_over args.out.now args.at args.f.now args.n c.loop-k.k c.loop-k.to c.loop-k.out
    c.loop-k.invariant c.loop-k-test.false
