-- `string_walk::walk` meets its contract. The invariant: the walk from here answers as the walk along the whole area.
-- Assumes nothing.
use Rattle.std.proofs.Common.{◌≡◌, sym, ap, ◌∙◌, ◌≤◌, ◌-◌, ◌+◌, ◌<◌, arith, length, rules}
use Rattle.std.proofs.Math.Nat.{le_of_eq}
use Rattle.word.specs.Part.{part, length_part}
use Rattle.text.specs.declared.Manner.TheVariants.{Strict}
use Rattle.strings.specs.Strings.{step_of}
use Rattle.strings.proofs.Walks.{turn_fits}
use Rattle.strings.proofs.Passed.{seen_lies}
use Rattle.until.specs.Turns.{walk_start, walk_none, walk_past, walk_bad, walk_done, walk_here, walk_gone, walk_on}
use Rattle.std.proofs.lemmas.Result.{err_from_is_err_and}
use Rattle.string_walk.proofs.walk.Goals as goal
use Rattle.string_walk.proofs.walk.Goals.{In-Some}
use Rattle.std.specs.Prelude.{Ok, Some}
use Rattle.until.specs.declared.Walked.TheVariants as walked

-- the step past a string, as it was answered
passing : (c : In-Some)
    → let args = c.args in
    let l = c.loop-at in
    step_of Strict args.high args.t.now args.u.now args.whose (part l.k l.g args.f.now) (part l.at args.e args.f.now) l.at
    ≡ Ok (Some (c.in-Some.o, c.in-Some.n))
passing c = sym (ap Ok (sym c.in-Some.is) ∙ c.in_ok-step.ensures)

-- the string has bytes, and it and its keyword end in the area
fits : (c : In-Some)
    → let e = c.args.e in
    (0 < c.in-Some.o) × (c.loop-at.at + c.in-Some.o ≤ e) × (c.loop-at.at + 2 + c.in-Some.n ≤ e)
fits c =
    let l = c.loop-at in
    turn_fits _ _ _ _ _ c.args.f.now c.args.e l.at l.k l.g l.invariant.5.0 c.loop-at-test.true c.requires.1
    l.invariant.5.1 _ _ (passing c)

pub returns-then-e-a : goal.returns-then-e-a
returns-then-e-a c =
    let args = c.args in
    walk_none _ _ _ _ _ args.f.now args.e args.a c.if-e-a.true

pub loop-at-init : goal.loop-at-init
loop-at-init c =
    let s = c.args in (
      search rules,
      search rules,
      search rules,
      search rules,
      search rules,
      (
        length (part s.a s.e s.f.now),
        le_of_eq (sym (length_part s.a s.e s.f.now c.requires.1)),
        walk_start _ _ _ _ _ s.f.now s.e s.a c.if-e-a.false c.requires.1,
      ),
    )

pub returns-in_err-step : goal.returns-in_err-step
returns-in_err-step c =
    let l = c.loop-at in
    let p = err_from_is_err_and c.from_residual.result c.from_residual.ensures.1 in
    rw (p.1, p.2)
    (walk_bad _ _ _ _ _ c.args.f.now c.args.e l.at l.k l.g _ l.invariant.5.0 c.loop-at-test.true c.requires.1
    l.invariant.5.1 (sym c.in_err-step.ensures)
    ∙ l.invariant.5.2)

pub returns-in_default : goal.returns-in_default
returns-in_default c =
    let l = c.loop-at in
    walk_done _ _ _ _ _ c.args.f.now c.args.e l.at l.k l.g _ l.invariant.5.0 c.loop-at-test.true c.requires.1
    l.invariant.5.1 (sym (ap Ok (sym c.in_default.is) ∙ c.in_ok-step.ensures))
    ∙ l.invariant.5.2

pub overflow_add-k : goal.overflow_add-k
overflow_add-k c =
    let b = fits (goal.at.overflow_add-k c).In-Some in omega (arith, b.0, b.1, b.2)

pub overflow_add-g : goal.overflow_add-g
overflow_add-g c =
    let b = fits (goal.at.overflow_add-g c).In-Some in omega (arith, b.0, b.1, b.2)

pub slice_bounds-look-count : goal.slice_bounds-look-count
slice_bounds-look-count c =
    let b = fits (goal.at.slice_bounds-look-count c).In-Some in omega (arith, b.0, b.1, b.2)

pub slice_bounds-look-start : goal.slice_bounds-look-start
slice_bounds-look-start c =
    let b = fits (goal.at.slice_bounds-look-start c).In-Some in omega (arith, b.0, b.1, b.2)

pub slice_bounds-look-end : goal.slice_bounds-look-end
slice_bounds-look-end c =
    let b = fits (goal.at.slice_bounds-look-end c).In-Some in omega (arith, b.0, b.1, b.2)

pub place-requires : goal.place-requires
place-requires c =
    (c.requires.1, seen_lies _ _ _ _ _ _ c.args.f.now c.args.e c.loop-at.at _ _ c.requires.1 (passing (goal.at.place-requires c).In-Some))

pub returns-in-Here : goal.returns-in-Here
returns-in-Here c =
    let l = c.loop-at in
    ap (λ a. Ok (walked.At a)) c.place.ensures
    ∙ walk_here _ _ _ _ _ c.args.f.now c.args.e l.at l.k l.g _ l.invariant.5.0 c.loop-at-test.true c.requires.1
    l.invariant.5.1 _ _ (passing (goal.at.returns-in-Here c).In-Some) (sym c.look.ensures ∙ c.in-Here.is)
    ∙ l.invariant.5.2

pub returns-in-Gone : goal.returns-in-Gone
returns-in-Gone c =
    let l = c.loop-at in
    walk_gone _ _ _ _ _ c.args.f.now c.args.e l.at l.k l.g _ l.invariant.5.0 c.loop-at-test.true c.requires.1
    l.invariant.5.1 _ _ (passing (goal.at.returns-in-Gone c).In-Some) (sym c.look.ensures ∙ c.in-Gone.is)
    ∙ l.invariant.5.2

pub overflow_add-at : goal.overflow_add-at
overflow_add-at c =
    let b = fits (goal.at.overflow_add-at c).In-Some in omega (arith, b.0, b.1, b.2)

pub overflow_add-j : goal.overflow_add-j
overflow_add-j c =
    let b = fits (goal.at.overflow_add-j c).In-Some in omega (arith, b.0, b.1, b.2)

pub loop-at-smaller : goal.loop-at-smaller
loop-at-smaller c =
    let b = fits (goal.at.loop-at-smaller c).In-Some in omega (arith, b.0, b.1, b.2)

pub loop-at-preserved : goal.loop-at-preserved
loop-at-preserved c =
    let l = c.loop-at in
    let b = fits (goal.at.loop-at-preserved c).In-Some in (
      omega (arith, b.1),
      b.1,
      omega arith,
      b.2,
      omega (arith, b.0),
      (
        l.invariant.5.0 - 1,
        omega (arith, b.0),
        walk_on _ _ _ _ _ c.args.f.now c.args.e l.at l.k l.g _ l.invariant.5.0 c.loop-at-test.true c.requires.1
            l.invariant.5.1 _ _ (passing (goal.at.loop-at-preserved c).In-Some) (sym c.look.ensures ∙ c.in-On.is) ∙ l.invariant.5.2,
      ),
    )

pub returns : goal.returns
returns c =
    let l = c.loop-at in
    walk_past _ _ _ _ _ c.args.f.now c.args.e _ l.at _ l.invariant.5.0 c.loop-at-test.false ∙ l.invariant.5.2
