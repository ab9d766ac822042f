-- `sheet::measure` meets its contract. The invariant: the check from here answers as the check of the sheet, and what
-- was counted with what is to come is the whole size. Assumes nothing.
use Rattle.std.proofs.Common.{rules, ◌≡◌, ◌+◌, ◌<◌, ◌∙◌, length, sym, arith}
use Rattle.std.proofs.lemmas.Result.{err_from_is_err_and}
use Rattle.word.specs.Part.{part_rest}
use Rattle.sheet.specs.Counting.{turn_fits, counted_turn, counted_bad, counted_large, counted_size}
use Rattle.sheet.proofs.Counting.{counted_start}
use Rattle.sheet.proofs.measure.Goals as goal
use Rattle.sheet.proofs.measure.Goals.{In_ok-o}

-- the line that a step has passed: its keyword is shorter than it, and it ends before the sheet does
fits : (c : In_ok-o)
    → (c.in_ok-o.w < c.in_ok-o.o) × (c.loop-at.at + c.in_ok-o.o < length c.args.sheet.now)
fits c =
    turn_fits _ c.args.sheet.now c.loop-at.at _ _ c.loop-at-test.true
    (rw part_rest at (sym c.in_ok-o.ensures))

pub loop-at-init : goal.loop-at-init
loop-at-init c =
    (search rules, search rules, search rules, search rules, counted_start _ _ _)

pub returns-in_err-o : goal.returns-in_err-o
returns-in_err-o c =
    let p = err_from_is_err_and c.from_residual.result c.from_residual.ensures.1 in
    rw (p.1, p.2)
    (counted_bad _ _ c.args.sheet.now c.loop-at.at c.loop-at.k c.loop-at.g c.loop-at.n c.loop-at.invariant.4
    c.loop-at-test.true _ (rw part_rest at (sym c.in_err-o.ensures)))

pub overflow_add-e : goal.overflow_add-e
overflow_add-e c =
    let b = fits c in omega (arith, b.0, b.1)

pub slice_bounds-is_continued-end-in-loop-at : goal.slice_bounds-is_continued-end-in-loop-at
slice_bounds-is_continued-end-in-loop-at c =
    let b = fits (goal.at.slice_bounds-is_continued-end-in-loop-at c).In_ok-o in omega (arith, b.0, b.1)

pub overflow_sub-o : goal.overflow_sub-o
overflow_sub-o c =
    let b = fits (goal.at.overflow_sub-o c).In_ok-o in omega (arith, b.0)

pub overflow_sub-o-in-loop-at : goal.overflow_sub-o-in-loop-at
overflow_sub-o-in-loop-at c =
    let b = fits (goal.at.overflow_sub-o-in-loop-at c).In_ok-o in omega (arith, b.0)

pub overflow_add-at : goal.overflow_add-at
overflow_add-at c =
    let b = fits (goal.at.overflow_add-at c).In_ok-o in omega (arith, b.1)

pub overflow_add-at-in-loop-at : goal.overflow_add-at-in-loop-at
overflow_add-at-in-loop-at c =
    let b = fits (goal.at.overflow_add-at-in-loop-at c).In_ok-o in omega (arith, b.1)

pub loop-at-preserved : goal.loop-at-preserved
loop-at-preserved c =
    let at = c.loop-at.at in
    let o = c.in_ok-o.o in
    let q : at + (o + 1) ≡ at + o + 1 = omega arith in
    let b = fits (goal.at.loop-at-preserved c).In_ok-o in (
      omega (arith, b.1),
      omega arith,
      omega (arith, b.0, b.1),
      c.grown-n.ensures.1,
      rw q (counted_turn _ _ c.args.sheet.now at c.loop-at.k c.loop-at.g c.loop-at.n c.loop-at.invariant.4
          c.loop-at-test.true _ _ _ (rw part_rest at (sym c.in_ok-o.ensures))
          (c.grown-n.ensures.0 ∙ rw c.is_continued-more.ensures)),
    )

pub returns-then-over : goal.returns-then-over
returns-then-over c =
    rw c.of_file.ensures (counted_large _ _ c.args.sheet.now c.loop-at.at c.loop-at.k c.loop-at.g
    c.loop-at.n c.loop-at.invariant.4 c.loop-at-test.false (rw c.round_up-size.ensures at c.if-over.true))

pub returns : goal.returns
returns c =
    rw c.round_up-size.ensures (counted_size _ _ c.args.sheet.now c.loop-at.at c.loop-at.k c.loop-at.g
    c.loop-at.n c.loop-at.invariant.4 c.loop-at-test.false (rw c.round_up-size.ensures at c.if-over.false))
