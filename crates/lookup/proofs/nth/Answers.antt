-- `lookup::nth` meets its contract. The invariant: the k-th of those that are left is the i-th of all. Assumes nothing.
use Rattle.std.proofs.Common.{refl, sym, ◌∙◌, ◌≤◌, ◌-◌, ◌+◌, ◌<◌, length, rules, arith}
use Rattle.std.proofs.Math.Nat.{le_of_eq}
use Rattle.word.specs.Part.{part, length_part}
use Rattle.strings.specs.Strings.{places_of, PlaceIn}
use Rattle.strings.specs.Walks.{place_next, place_stop}
use Rattle.strings.proofs.Walks.{place_bounds}
use Rattle.strings.proofs.Walks.{place_over}
use Rattle.lookup.specs.Lists.{nth_none, nth_first, nth_later}
use Rattle.lookup.proofs.nth.Goals as goal
use Rattle.lookup.proofs.nth.Goals.{In_ok-p}

-- the string that the walk is at has bytes, and it stands in the area, its parts in order
bounds : (c : In_ok-p)
    → let e = c.args.e in
    (0 < c.in_ok-p.o) × (c.loop-at.at + c.in_ok-p.o ≤ e) × PlaceIn e c.in_ok-p.p
bounds c =
    place_bounds _ _ _ c.args.f.now c.args.e c.loop-at.at c.loop-at.invariant.2.0 c.loop-at-test.true
    c.requires.1 c.loop-at.invariant.2.1 _ _ (sym c.in_ok-p.ensures)

pub loop-at-init : goal.loop-at-init
unfolding places_of
loop-at-init c =
    let args = c.args in (
      search rules,
      search rules,
      (
        length (part args.a args.e args.f.now),
        le_of_eq (sym (length_part args.a
            args.e args.f.now c.requires.1)),
        refl,
      ),
    )

pub entry_at-requires : goal.entry_at-requires
unfolding places_of
entry_at-requires c =
    let args = c.args in
    let w = length_part c.loop-at.at args.e args.f.now c.requires.1 in omega arith

pub returns-in_err-p : goal.returns-in_err-p
unfolding places_of
returns-in_err-p c =
    let args = c.args in
    rw c.from_residual.ensures
    (nth_none _ _ (place_stop _ _ _ args.f.now args.e c.loop-at.at c.loop-at.invariant.2.0 c.loop-at-test.true
    c.requires.1 c.loop-at.invariant.2.1 (sym c.in_err-p.ensures)) ∙ c.loop-at.invariant.2.2)

pub returns-then-here : goal.returns-then-here
unfolding places_of
returns-then-here c =
    let args = c.args in
    nth_first _ _ _ _ (place_next _ _ _ args.f.now args.e c.loop-at.at c.loop-at.invariant.2.0 c.loop-at-test.true
    c.requires.1 c.loop-at.invariant.2.1 _ _ (sym c.in_ok-p.ensures)) c.if-here.true ∙
    c.loop-at.invariant.2.2

pub overflow_sub-k : goal.overflow_sub-k
unfolding places_of
overflow_sub-k c =
    omega (arith, c.if-here.false)

pub overflow_add-at : goal.overflow_add-at
unfolding places_of
overflow_add-at c =
    let b = bounds (goal.at.overflow_add-at c).In_ok-p in omega (arith, b.0, b.1, b.2.0, b.2.1, b.2.2, b.2.3)

pub loop-at-smaller : goal.loop-at-smaller
unfolding places_of
loop-at-smaller c =
    let b = bounds (goal.at.loop-at-smaller c).In_ok-p in omega (arith, b.0, b.1, b.2.0, b.2.1, b.2.2, b.2.3)

pub loop-at-preserved : goal.loop-at-preserved
unfolding places_of
loop-at-preserved c =
    let args = c.args in
    let b = bounds (goal.at.loop-at-preserved c).In_ok-p in (
      omega (arith, b.1),
      b.1,
      (
        c.loop-at.invariant.2.0 - 1,
        omega (arith, b.0),
        nth_later _ _ _ _ (place_next _ _ _ args.f.now
            args.e c.loop-at.at c.loop-at.invariant.2.0 c.loop-at-test.true c.requires.1 c.loop-at.invariant.2.1 _ _
            (sym c.in_ok-p.ensures)) c.if-here.false ∙ c.loop-at.invariant.2.2,
      ),
    )

pub returns : goal.returns
unfolding places_of
returns c =
    let args = c.args in
    nth_none _ _ (place_over _ _ _ args.f.now args.e c.loop-at.at c.loop-at.invariant.2.0 c.loop-at-test.false) ∙
    c.loop-at.invariant.2.2
