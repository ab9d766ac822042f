-- `places::fill` meets its contract. The invariant: the row with what is left stored from j on is the whole row.
-- Assumes nothing.
use Rattle.std.proofs.Common.{◌≡◌, refl, sym, ap, ◌∙◌, ◌∷◌, ◌≤◌, ◌-◌, ◌+◌, ◌<◌, arith, length, rules}
use Rattle.std.proofs.Math.Nat.{le_of_eq}
use Rattle.word.specs.Part.{part, length_part}
use Rattle.word.specs.Put.{length_put}
use Rattle.strings.specs.Strings.{places_from, places_of, PlaceIn}
use Rattle.strings.specs.Walks.{place_next, place_stop}
use Rattle.strings.proofs.Walks.{place_bounds}
use Rattle.strings.proofs.Walks.{place_over}
use Rattle.places.specs.Numbers.{numbers_none, numbers_next, numbers_all}
use Rattle.places.proofs.fill.Goals as goal
use Rattle.places.proofs.fill.Goals.{In-Some}

-- the string that the walk is at has bytes, and it stands in the area, its parts in order
bounds : (c : In-Some)
    → let e = c.args.e in
    (0 < c.in-Some.o) × (c.loop-at.at + c.in-Some.o ≤ e) × PlaceIn e c.in-Some.p
bounds c =
    let l = c.loop-at in
    place_bounds _ _ _ c.args.f.now c.args.e l.at l.invariant.3.0 c.loop-at-test.true c.requires.1 l.invariant.3.1 _ _
    (sym c.in-Some.ensures)

-- the strings that are left are this one and those behind it
next : (c : In-Some)
    → let l = c.loop-at in
    let args = c.args in
    places_from args.how l.invariant.3.0 args.high args.t.now (part l.at args.e args.f.now) l.at
    ≡ c.in-Some.p ∷ places_from args.how (l.invariant.3.0 - 1) args.high args.t.now (part (l.at + c.in-Some.o) args.e args.f.now)
    (l.at + c.in-Some.o)
next c =
    let l = c.loop-at in
    place_next _ _ _ c.args.f.now c.args.e l.at l.invariant.3.0 c.loop-at-test.true c.requires.1 l.invariant.3.1 _ _
    (sym c.in-Some.ensures)

pub loop-at-init : goal.loop-at-init
unfolding places_of
loop-at-init c =
    let args = c.args in (
      search rules,
      search rules,
      refl,
      (
        length (part args.a args.e args.f.now),
        le_of_eq (sym (length_part args.a args.e args.f.now c.requires.1)),
        omega (arith, c.requires.2),
        refl,
      ),
    )

pub entry_at-requires : goal.entry_at-requires
unfolding places_of
entry_at-requires c =
    let args = c.args in
    let w = length_part c.loop-at.at args.e args.f.now c.requires.1 in omega arith

pub returns-in_default : goal.returns-in_default
unfolding places_of
returns-in_default c =
    let l = c.loop-at in
    let args = c.args in
    numbers_none _ l.row l.j (place_stop _ _ _ args.f.now args.e l.at l.invariant.3.0 c.loop-at-test.true
    c.requires.1 l.invariant.3.1 (sym c.in_default.ensures))
    ∙ l.invariant.3.3 ∙ numbers_all _ args.row.now c.requires.2

pub write-requires : goal.write-requires
unfolding places_of
write-requires c =
    let l = c.loop-at in
    let n = ap length (next (goal.at.write-requires c).In-Some) in
    (omega (arith, n, l.invariant.3.2, l.invariant.2), (bounds (goal.at.write-requires c).In-Some).2)

pub overflow_add-j : goal.overflow_add-j
unfolding places_of
overflow_add-j c =
    let l = c.loop-at in
    let n = ap length (next (goal.at.overflow_add-j c).In-Some) in
    omega (arith, n, l.invariant.3.2, l.invariant.2, c.requires.3)

pub overflow_add-at : goal.overflow_add-at
unfolding places_of
overflow_add-at c =
    let b = bounds (goal.at.overflow_add-at c).In-Some in omega (arith, b.0, b.1)

pub loop-at-smaller : goal.loop-at-smaller
unfolding places_of
loop-at-smaller c =
    let b = bounds (goal.at.loop-at-smaller c).In-Some in omega (arith, b.0, b.1)

pub loop-at-preserved : goal.loop-at-preserved
unfolding places_of
loop-at-preserved c =
    let l = c.loop-at in
    let b = bounds (goal.at.loop-at-preserved c).In-Some in
    let n = ap length (next (goal.at.loop-at-preserved c).In-Some) in (
      omega (arith, b.1),
      b.1,
      ap length c.write.ensures ∙ length_put l.row l.j _ ∙ l.invariant.2,
      (
        l.invariant.3.0 - 1,
        omega (arith, b.0),
        omega (arith, n, l.invariant.3.2),
        numbers_next _ _ _ l.row _ l.j (next (goal.at.loop-at-preserved c).In-Some) c.write.ensures ∙ l.invariant.3.3,
      ),
    )

pub returns : goal.returns
unfolding places_of
returns c =
    let l = c.loop-at in
    let args = c.args in
    numbers_none _ l.row l.j (place_over _ _ _ args.f.now args.e l.at l.invariant.3.0 c.loop-at-test.false)
    ∙ l.invariant.3.3 ∙ numbers_all _ args.row.now c.requires.2
