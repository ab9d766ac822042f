-- `string_lines::put_strings` meets its contract. The invariant: the strings that are left, stored, make the whole. Assumes
-- nothing.
use Rattle.std.proofs.Common.{sym, ◌∙◌, ◌+◌, ◌≤◌, ◌<◌, length, arith}
use Rattle.strings.specs.Strings.{PlaceIn}
use Rattle.string_lines.specs.Walks.{stringing_start, stringing_over, stringing_none, stringing_in}
use Rattle.string_lines.specs.Walks.{stringing_room, stringing_turn}
use Rattle.string_lines.proofs.put_strings.Goals as goal
use Rattle.string_lines.proofs.put_strings.Goals.{In-Some}

-- where the string that was found stands: in order, in the area, and so in the file
found : (c : In-Some)
    → let args = c.args in
    let q = c.in-Some.p in
    let s = c.loop-s.s in
    PlaceIn args.e q × (s < q.end + length args.t.now) × (q.end + length args.t.now ≤ args.e)
    × (args.e ≤ length args.f.now)
found c =
    let args = c.args in
    let b = stringing_in args.out.now args.at args.part args.f.now args.a args.e args.high args.t.now args.u.now
    c.loop-s.s c.loop-s.to c.loop-s.out c.loop-s.invariant c.loop-s-test.true c.requires.1 _
    (sym c.nth.ensures ∙ c.in-Some.is) in
    (b.0, b.1, b.2, c.requires.1)

pub loop-s-init : goal.loop-s-init
loop-s-init c =
    let args = c.args in
    stringing_start args.out.now args.at args.part args.f.now args.a args.e args.high args.t.now args.u.now
    c.requires.0 c.requires.1

pub nth-requires : goal.nth-requires
nth-requires c =
    (c.loop-s.invariant.0, c.requires.1)

pub shape_of-out-in_default : goal.shape_of-out-in_default
shape_of-out-in_default c =
    c.loop-s.invariant.1

pub returns-in_default : goal.returns-in_default
returns-in_default c =
    let args = c.args in
    stringing_none args.out.now args.at args.part args.f.now args.a args.e args.high args.t.now args.u.now
    c.loop-s.s c.loop-s.to c.loop-s.out c.loop-s.invariant c.loop-s-test.true c.requires.1
    (sym c.nth.ensures ∙ c.in_default.is)

pub slice_bounds-put_string-count : goal.slice_bounds-put_string-count
slice_bounds-put_string-count c =
    let b = found (goal.at.slice_bounds-put_string-count c).In-Some in omega (arith, b.0.0, b.0.1, b.0.2, b.0.3, b.1, b.2, b.3)

pub slice_bounds-put_string-start : goal.slice_bounds-put_string-start
slice_bounds-put_string-start c =
    let b = found (goal.at.slice_bounds-put_string-start c).In-Some in omega (arith, b.0.0, b.0.1, b.0.2, b.0.3, b.1, b.2, b.3)

pub slice_bounds-put_string-end : goal.slice_bounds-put_string-end
slice_bounds-put_string-end c =
    let b = found (goal.at.slice_bounds-put_string-end c).In-Some in omega (arith, b.0.0, b.0.1, b.0.2, b.0.3, b.1, b.2, b.3)

pub slice_bounds-put_string-count-in-loop-s : goal.slice_bounds-put_string-count-in-loop-s
slice_bounds-put_string-count-in-loop-s c =
    let b = found (goal.at.slice_bounds-put_string-count-in-loop-s c).In-Some in omega (arith, b.0.0, b.0.1, b.0.2, b.0.3, b.1, b.2, b.3)

pub slice_bounds-put_string-start-in-loop-s : goal.slice_bounds-put_string-start-in-loop-s
slice_bounds-put_string-start-in-loop-s c =
    let b = found (goal.at.slice_bounds-put_string-start-in-loop-s c).In-Some in omega (arith, b.0.0, b.0.1, b.0.2, b.0.3, b.1, b.2, b.3)

pub slice_bounds-put_string-end-in-loop-s : goal.slice_bounds-put_string-end-in-loop-s
slice_bounds-put_string-end-in-loop-s c =
    let b = found (goal.at.slice_bounds-put_string-end-in-loop-s c).In-Some in omega (arith, b.0.0, b.0.1, b.0.2, b.0.3, b.1, b.2, b.3)

pub put_string-to-requires : goal.put_string-to-requires
put_string-to-requires c =
    let args = c.args in (
      c.requires.2,
      stringing_room args.out.now args.at args.part args.f.now args.a args.e args.high args.t.now
          args.u.now c.loop-s.s c.loop-s.to c.loop-s.out c.loop-s.invariant c.loop-s-test.true
          c.requires.1
          _ (sym c.nth.ensures ∙ c.in-Some.is) c.requires.3,
    )

pub overflow_add-s : goal.overflow_add-s
overflow_add-s c =
    let b = found (goal.at.overflow_add-s c).In-Some in omega (arith, b.0.0, b.0.1, b.0.2, b.0.3, b.1, b.2, b.3)

pub loop-s-smaller : goal.loop-s-smaller
loop-s-smaller c =
    let b = found (goal.at.loop-s-smaller c).In-Some in omega (arith, b.0.0, b.0.1, b.0.2, b.0.3, b.1, b.2, b.3)

pub loop-s-preserved : goal.loop-s-preserved
loop-s-preserved c =
    let args = c.args in
    stringing_turn args.out.now args.at args.part args.f.now args.a args.e args.high args.t.now args.u.now
    c.loop-s.s c.loop-s.to c.loop-s.out c.loop-s.invariant c.loop-s-test.true c.requires.1 _
    (sym c.nth.ensures ∙ c.in-Some.is) _ _ c.put_string-to.ensures

pub shape_of-out : goal.shape_of-out
shape_of-out c =
    c.loop-s.invariant.1

pub returns : goal.returns
returns c =
    let args = c.args in
    stringing_over args.out.now args.at args.part args.f.now args.a args.e args.high args.t.now args.u.now
    c.loop-s.s c.loop-s.to c.loop-s.out c.loop-s.invariant c.loop-s-test.false
