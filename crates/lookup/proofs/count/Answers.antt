-- `lookup::count` meets its contract. The invariant: the strings passed and those that are left are all. Assumes
-- nothing.
use Rattle.std.proofs.Common.{sym, ap, ◌∙◌, ◌≤◌, ◌+◌, ◌-◌, ◌<◌, length, rules, arith}
use Rattle.std.proofs.Math.Nat.{le_of_eq}
use Rattle.word.specs.Part.{part, length_part}
use Rattle.strings.specs.Strings.{places_of, PlaceIn}
use Rattle.strings.specs.Walks.{place_next, place_stop}
use Rattle.strings.proofs.Walks.{place_bounds}
use Rattle.strings.proofs.Walks.{place_over}
use Rattle.lookup.proofs.count.Goals as goal
use Rattle.lookup.proofs.count.Goals.{In-Some}

-- the string that the walk is at has bytes, and it stands in the area, its parts in order
bounds : (c : In-Some)
    → let e = c.args.e in
    (0 < c.in-Some.o) × (c.loop-at.at + c.in-Some.o ≤ e) × PlaceIn e c.in-Some.field-0-0
bounds c =
    place_bounds _ _ _ c.args.f.now c.args.e c.loop-at.at c.loop-at.invariant.3.0 c.loop-at-test.true
    c.requires.1 c.loop-at.invariant.3.1 _ _ (sym c.in-Some.ensures)

pub loop-at-init : goal.loop-at-init
unfolding places_of
loop-at-init c =
    let args = c.args in (
      search rules,
      search rules,
      search rules,
      (
        length (part args.a args.e args.f.now),
        le_of_eq (sym (length_part
            args.a args.e args.f.now c.requires.1)),
        omega arith,
      ),
    )

pub entry_at-requires : goal.entry_at-requires
unfolding places_of
entry_at-requires c =
    let args = c.args in
    let w = length_part c.loop-at.at args.e args.f.now c.requires.1 in omega arith

pub returns-in_default : goal.returns-in_default
unfolding places_of
returns-in_default c =
    let args = c.args in
    let q = ap length (place_stop _ _ _ args.f.now args.e c.loop-at.at c.loop-at.invariant.3.0 c.loop-at-test.true
    c.requires.1 c.loop-at.invariant.3.1 (sym c.in_default.ensures)) in omega
    (arith, c.loop-at.invariant.3.2)

pub overflow_add-n : goal.overflow_add-n
unfolding places_of
overflow_add-n c =
    let b = bounds (goal.at.overflow_add-n c).In-Some in omega (arith, b.0, b.1, b.2.0, b.2.1, b.2.2, b.2.3)

pub overflow_add-at : goal.overflow_add-at
unfolding places_of
overflow_add-at c =
    let b = bounds (goal.at.overflow_add-at c).In-Some in omega (arith, b.0, b.1, b.2.0, b.2.1, b.2.2, b.2.3)

pub loop-at-smaller : goal.loop-at-smaller
unfolding places_of
loop-at-smaller c =
    let b = bounds (goal.at.loop-at-smaller c).In-Some in omega (arith, b.0, b.1, b.2.0, b.2.1, b.2.2, b.2.3)

pub loop-at-preserved : goal.loop-at-preserved
unfolding places_of
loop-at-preserved c =
    let args = c.args in
    let b = bounds (goal.at.loop-at-preserved c).In-Some in
    let q = ap length (place_next _ _ _ args.f.now args.e c.loop-at.at c.loop-at.invariant.3.0 c.loop-at-test.true
    c.requires.1 c.loop-at.invariant.3.1 _ _ (sym c.in-Some.ensures)) in (
      omega (arith, b.1),
      b.1,
      omega (arith, b.0, b.1),
      (
        c.loop-at.invariant.3.0 - 1,
        omega (arith, b.0),
        omega (arith, c.loop-at.invariant.3.2),
      ),
    )

pub returns : goal.returns
unfolding places_of
returns c =
    let args = c.args in
    let q = ap length (place_over args.how args.high args.t.now args.f.now args.e c.loop-at.at
    c.loop-at.invariant.3.0 c.loop-at-test.false) in omega (arith, c.loop-at.invariant.3.2)
