-- `strings_check::check` meets its contract. The invariant: the check from here answers as the check of the whole area, and
-- the keyword that is sought was seen at `hit` or is to be seen from here on. Assumes nothing.
use Rattle.std.proofs.Common.{rules, ◌≡◌, ◌≤◌, ◌<◌, ◌∙◌, length, ◌+◌, ◌-◌, ap, sym, arith, Ok, Some}
use Rattle.std.proofs.Math.Nat.{le_of_eq}
use Rattle.std.proofs.lemmas.Result.{err_from_is_err_and}
use Rattle.word.specs.Part.{part, length_part}
use Rattle.strings.specs.Strings.{step_of}
use Rattle.strings.specs.Walks.{turn_bad, turn_done, walk_start}
use Rattle.strings.proofs.Walks.{turn_fits, turn_next, walk_over}
use Rattle.seek.specs.Sought.{sought_start, sought_done, sought_over, sought_next}
use Rattle.seek.specs.Sought.{checked_bad, checked_seen, checked_none}
use Rattle.strings_check.proofs.check.Goals as goal
use Rattle.strings_check.proofs.check.Goals.{In-Some}

-- a string is passed
passing : (c : In-Some)
    → let s = c.args in
    let l = c.loop-at in
    step_of s.how s.high s.t.now s.u.now s.whose (part l.k l.g s.f.now) (part l.at s.e s.f.now) l.at ≡ Ok (Some (c.in-Some.o, c.in-Some.n))
passing c = sym (ap Ok (sym c.in-Some.is) ∙ c.in_ok-step.ensures)

-- it has bytes, and it and its keyword end in the area
fits : (c : In-Some)
    → let e = c.args.e in
    (0 < c.in-Some.o) × (c.loop-at.at + c.in-Some.o ≤ e) × (c.loop-at.at + 2 + c.in-Some.n ≤ e)
fits c =
    turn_fits _ _ _ _ _ c.args.f.now c.args.e c.loop-at.at c.loop-at.k c.loop-at.g c.loop-at.invariant.4.0
    c.loop-at-test.true c.requires.1 c.loop-at.invariant.4.1 _ _ (passing c)

pub returns-then-e-a : goal.returns-then-e-a
returns-then-e-a c =
    let args = c.args in
    checked_none _ _ _ _ _ args.f.now args.a args.e _ c.if-e-a.true c.seen.ensures

pub loop-at-init : goal.loop-at-init
loop-at-init c =
    let s = c.args in (
      search rules,
      search rules,
      search rules,
      search rules,
      (
        length (part s.a s.e s.f.now),
        le_of_eq (sym (length_part s.a s.e s.f.now c.requires.1)),
        walk_start _ _ _ _ _
            s.f.now s.a s.e c.if-e-a.false c.requires.1,
        sought_start _ _ _ _ _ _ _,
      ),
    )

pub returns-in_err-step : goal.returns-in_err-step
returns-in_err-step c =
    let args = c.args in
    let p = err_from_is_err_and c.from_residual.result c.from_residual.ensures.1 in
    rw (p.1, p.2)
    (checked_bad _ _ _ _ _ args.f.now args.a args.e _
    (turn_bad _ _ _ _ _ args.f.now args.e c.loop-at.at c.loop-at.k c.loop-at.g c.loop-at.invariant.4.0
    c.loop-at-test.true c.requires.1 c.loop-at.invariant.4.1 _ (sym c.in_err-step.ensures)
    ∙ c.loop-at.invariant.4.2))

pub returns-in_default : goal.returns-in_default
returns-in_default c =
    let args = c.args in
    let i = c.loop-at.invariant.4 in
    let h = sym (ap Ok (sym c.in_default.is) ∙ c.in_ok-step.ensures) in
    checked_seen _ _ _ _ _ args.f.now args.a args.e _
    (turn_done _ _ _ _ _ args.f.now args.e c.loop-at.at c.loop-at.k c.loop-at.g i.0 c.loop-at-test.true
    c.requires.1 i.1 h ∙ i.2)
    (sought_done _ _ _ args.f.now _ args.a args.e c.loop-at.at c.loop-at.hit c.loop-at.gap c.loop-at.size i.0 i.3
    _ _ _ c.loop-at-test.true c.requires.1 i.1 h)
    c.seen-in_default.ensures

pub overflow_add-g : goal.overflow_add-g
overflow_add-g c =
    let b = fits (goal.at.overflow_add-g c).In-Some in omega (arith, b.0, b.1, b.2)

pub slice_bounds-is_sought-end : goal.slice_bounds-is_sought-end
slice_bounds-is_sought-end c =
    let b = fits (goal.at.slice_bounds-is_sought-end c).In-Some in omega (arith, b.0, b.1, b.2)

pub overflow_add-at : goal.overflow_add-at
overflow_add-at c =
    let b = fits (goal.at.overflow_add-at c).In-Some in omega (arith, b.0, b.1, b.2)

pub loop-at-smaller : goal.loop-at-smaller
loop-at-smaller c =
    let b = fits (goal.at.loop-at-smaller c).In-Some in omega (arith, b.0, b.1, b.2)

pub loop-at-preserved : goal.loop-at-preserved
loop-at-preserved c =
    let args = c.args in
    let i = c.loop-at.invariant.4 in
    let h = passing (goal.at.loop-at-preserved c).In-Some in
    let b = fits (goal.at.loop-at-preserved c).In-Some in (
      omega (arith, b.1),
      b.1,
      omega arith,
      b.2,
      (
        i.0 - 1,
        omega (arith, b.0),
        turn_next _ _ _ _ _ args.f.now args.e c.loop-at.at c.loop-at.k c.loop-at.g i.0 c.loop-at-test.true
            c.requires.1 i.1 _ _ h ∙ i.2,
        sought_next _ _ _ args.f.now _ args.a args.e c.loop-at.at c.loop-at.hit c.loop-at.gap c.loop-at.size i.0
            i.3 _ _ _ _ _ c.loop-at-test.true c.requires.1 i.1 h c.is_sought.ensures c.choose-hit.ensures
            c.choose-gap.ensures c.choose-size.ensures,
      ),
    )

pub returns-then-ends : goal.returns-then-ends
returns-then-ends c =
    let s = c.args in
    let i = c.loop-at.invariant.4 in
    let w = walk_over _ _ _ _ _ _ s.f.now s.e c.loop-at.at i.0 c.loop-at-test.false ∙ i.2 in
    checked_seen _ _ _ _ _ s.f.now s.a s.e _ (rw (sym c.open_end-ends.ensures ∙ c.if-ends.true) at w)
    (sought_over _ _ _ s.f.now _ s.a s.e c.loop-at.at c.loop-at.hit c.loop-at.gap c.loop-at.size i.0 i.3
    c.loop-at-test.false)
    c.seen-then-ends.ensures

pub returns : goal.returns
returns c =
    let s = c.args in
    let i = c.loop-at.invariant.4 in
    let w = walk_over _ _ _ _ _ _ s.f.now s.e c.loop-at.at i.0 c.loop-at-test.false ∙ i.2 in
    checked_bad _ _ _ _ _ s.f.now s.a s.e _ (rw (sym c.open_end-ends.ensures ∙ c.if-ends.false) at w)
