-- `lookup::find` meets its contract. The invariant: what is found among those that are left is found among all. Assumes
-- nothing.
use Rattle.std.proofs.Common.{refl, sym, ◌∙◌, ◌≤◌, ◌-◌, ◌+◌, ◌<◌, length, rules, arith}
use Rattle.std.proofs.Math.Nat.{le_of_eq}
use Rattle.word.specs.Part.{part, length_part}
use Rattle.strings.specs.Strings.{places_of, PlaceIn}
use Rattle.strings.specs.Walks.{place_next, place_stop}
use Rattle.strings.proofs.Walks.{place_bounds}
use Rattle.strings.proofs.Walks.{place_over}
use Rattle.lookup.specs.Lists.{find_none, find_here, find_later}
use Rattle.lookup.proofs.find.Goals as goal
use Rattle.lookup.proofs.find.Goals.{In_ok-p}

-- the string that the walk is at has bytes, and it stands in the area, its parts in order
bounds : (c : In_ok-p)
    → let e = c.args.e in
    (0 < c.in_ok-p.o) × (c.loop-at.at + c.in_ok-p.o ≤ e) × PlaceIn e c.in_ok-p.p
bounds c =
    place_bounds _ _ _ c.args.f.now c.args.e c.loop-at.at c.loop-at.invariant.2.0 c.loop-at-test.true
    c.requires.1 c.loop-at.invariant.2.1 _ _ (sym c.in_ok-p.ensures)

pub loop-at-init : goal.loop-at-init
unfolding places_of
loop-at-init c =
    let args = c.args in (
      search rules,
      search rules,
      (
        length (part args.a args.e args.f.now),
        le_of_eq (sym (length_part args.a
            args.e args.f.now c.requires.1)),
        refl,
      ),
    )

pub entry_at-requires : goal.entry_at-requires
unfolding places_of
entry_at-requires c =
    let args = c.args in
    let w = length_part c.loop-at.at args.e args.f.now c.requires.1 in omega arith

pub returns-in_err-p : goal.returns-in_err-p
unfolding places_of
returns-in_err-p c =
    let args = c.args in
    rw c.from_residual.ensures
    (find_none _ _ _ _ (place_stop _ _ _ args.f.now args.e c.loop-at.at c.loop-at.invariant.2.0 c.loop-at-test.true
    c.requires.1 c.loop-at.invariant.2.1 (sym c.in_err-p.ensures)) ∙ c.loop-at.invariant.2.2)

pub slice_bounds-is_named-count : goal.slice_bounds-is_named-count
unfolding places_of
slice_bounds-is_named-count c =
    let b = bounds (goal.at.slice_bounds-is_named-count c).In_ok-p in omega (arith, b.0, b.1, b.2.0, b.2.1, b.2.2, b.2.3)

pub slice_bounds-is_named-start : goal.slice_bounds-is_named-start
unfolding places_of
slice_bounds-is_named-start c =
    let b = bounds (goal.at.slice_bounds-is_named-start c).In_ok-p in omega (arith, b.0, b.1, b.2.0, b.2.1, b.2.2, b.2.3)

pub slice_bounds-is_named-end : goal.slice_bounds-is_named-end
unfolding places_of
slice_bounds-is_named-end c =
    let b = bounds (goal.at.slice_bounds-is_named-end c).In_ok-p in omega (arith, b.0, b.1, b.2.0, b.2.1, b.2.2, b.2.3)

pub returns-then-is_named : goal.returns-then-is_named
unfolding places_of
returns-then-is_named c =
    let args = c.args in
    find_here _ args.f.now _ _ _ _ (place_next _ _ _ args.f.now args.e c.loop-at.at c.loop-at.invariant.2.0
    c.loop-at-test.true c.requires.1 c.loop-at.invariant.2.1 _ _ (sym c.in_ok-p.ensures)) (sym
    c.is_named.ensures ∙ c.if-is_named.true) ∙ c.loop-at.invariant.2.2

pub overflow_add-at : goal.overflow_add-at
unfolding places_of
overflow_add-at c =
    let b = bounds (goal.at.overflow_add-at c).In_ok-p in omega (arith, b.0, b.1, b.2.0, b.2.1, b.2.2, b.2.3)

pub loop-at-smaller : goal.loop-at-smaller
unfolding places_of
loop-at-smaller c =
    let b = bounds (goal.at.loop-at-smaller c).In_ok-p in omega (arith, b.0, b.1, b.2.0, b.2.1, b.2.2, b.2.3)

pub loop-at-preserved : goal.loop-at-preserved
unfolding places_of
loop-at-preserved c =
    let args = c.args in
    let b = bounds (goal.at.loop-at-preserved c).In_ok-p in (
      omega (arith, b.1),
      b.1,
      (
        c.loop-at.invariant.2.0 - 1,
        omega (arith, b.0),
        find_later _ args.f.now _ _ _ _ (place_next _ _ _
            args.f.now args.e c.loop-at.at c.loop-at.invariant.2.0 c.loop-at-test.true c.requires.1
            c.loop-at.invariant.2.1 _
            _ (sym c.in_ok-p.ensures)) (sym c.is_named.ensures ∙ c.if-is_named.false) ∙
            c.loop-at.invariant.2.2,
      ),
    )

pub returns : goal.returns
unfolding places_of
returns c =
    let args = c.args in
    find_none _ _ _ _ (place_over _ _ _ args.f.now args.e c.loop-at.at c.loop-at.invariant.2.0 c.loop-at-test.false) ∙
    c.loop-at.invariant.2.2
