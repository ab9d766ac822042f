-- `string_lines::put_lines` meets its contract. The invariant: the lines that are left, stored, make the whole. Assumes
-- nothing.
use Rattle.std.proofs.Common.{arith}
use Rattle.string_lines.specs.Walks.{lining_start, lining_fits, lining_room, lining_turn, lining_last_room}
use Rattle.string_lines.specs.Walks.{lining_last}
use Rattle.string_lines.proofs.put_lines.Goals as goal

pub loop-e-init : goal.loop-e-init
loop-e-init c =
    let args = c.args in
    (lining_start args.out.now args.at args.part args.key.now args.u.now args.v.now _ c.line_end-e.ensures)

pub slice_bounds-put_line-count : goal.slice_bounds-put_line-count
slice_bounds-put_line-count c =
    let args = c.args in
    (let b = lining_fits args.out.now args.at args.part args.key.now args.u.now args.v.now c.loop-e.from c.loop-e.to
    c.loop-e.e c.loop-e.out c.loop-e.invariant c.requires.0 c.loop-e-test.true in omega
    (arith, b.0, b.1))

pub slice_bounds-put_line-start : goal.slice_bounds-put_line-start
slice_bounds-put_line-start c =
    let args = c.args in
    (let b = lining_fits args.out.now args.at args.part args.key.now args.u.now args.v.now c.loop-e.from c.loop-e.to
    c.loop-e.e c.loop-e.out c.loop-e.invariant c.requires.0 c.loop-e-test.true in omega
    (arith, b.0, b.1))

pub slice_bounds-put_line-end : goal.slice_bounds-put_line-end
slice_bounds-put_line-end c =
    let args = c.args in
    (let b = lining_fits args.out.now args.at args.part args.key.now args.u.now args.v.now c.loop-e.from c.loop-e.to
    c.loop-e.e c.loop-e.out c.loop-e.invariant c.requires.0 c.loop-e-test.true in omega
    (arith, b.0, b.1))

pub put_line-to-requires : goal.put_line-to-requires
put_line-to-requires c =
    let args = c.args in
    (lining_room args.out.now args.at args.part args.key.now args.u.now args.v.now c.loop-e.from
    c.loop-e.to c.loop-e.e c.loop-e.out c.loop-e.invariant c.requires.0 c.loop-e-test.true
    c.requires.1)

pub overflow_add-from : goal.overflow_add-from
overflow_add-from c =
    let args = c.args in
    (let b = lining_fits args.out.now args.at args.part args.key.now args.u.now args.v.now c.loop-e.from
    c.loop-e.to c.loop-e.e c.loop-e.out c.loop-e.invariant c.requires.0 c.loop-e-test.true in omega
    (arith, b.0, b.1))

pub loop-e-smaller : goal.loop-e-smaller
loop-e-smaller c =
    let args = c.args in
    (let b = lining_fits args.out.now args.at args.part args.key.now args.u.now args.v.now c.loop-e.from
    c.loop-e.to c.loop-e.e c.loop-e.out c.loop-e.invariant c.requires.0 c.loop-e-test.true in omega (
      arith,
      b.0,
      b.1,
      c.requires.0,
    ))

pub loop-e-preserved : goal.loop-e-preserved
loop-e-preserved c =
    let args = c.args in
    (lining_turn args.out.now args.at args.part args.key.now args.u.now args.v.now c.loop-e.from c.loop-e.to
    c.loop-e.e c.loop-e.out c.loop-e.invariant c.requires.0 c.loop-e-test.true _ _
    c.put_line-to.ensures _ c.line_end-e-in-loop-e.ensures)

pub slice_bounds-put_line-count-2 : goal.slice_bounds-put_line-count-2
slice_bounds-put_line-count-2 c =
    omega (arith, c.loop-e.invariant.1.0, c.loop-e.invariant.1.1)

pub slice_bounds-put_line-start-2 : goal.slice_bounds-put_line-start-2
slice_bounds-put_line-start-2 c =
    omega (arith, c.loop-e.invariant.1.0, c.loop-e.invariant.1.1)

pub put_line-requires : goal.put_line-requires
put_line-requires c =
    let args = c.args in
    (lining_last_room args.out.now args.at args.part args.key.now args.u.now args.v.now c.loop-e.from c.loop-e.to
    c.loop-e.e c.loop-e.out c.loop-e.invariant c.loop-e-test.false c.requires.1 _
    (omega (arith, c.loop-e.invariant.1.0)))

pub returns : goal.returns
returns c =
    let args = c.args in
    (lining_last args.out.now args.at args.part args.key.now args.u.now args.v.now c.loop-e.from c.loop-e.to
    c.loop-e.e c.loop-e.out c.loop-e.invariant c.loop-e-test.false _ _
    c.put_line.ensures)
