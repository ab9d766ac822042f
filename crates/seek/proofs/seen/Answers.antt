-- `seek::seen` meets its contract: a string that was seen lies in the area, and its separators are counted. Assumes
-- nothing.
use Prim.Native.Nat.{◌+◌, ◌-◌}
use lib.ListN.{length}
use borrow.Author.Tests.{le-leb, lt-leb}
use Rattle.word.specs.Part.{length_part}
use Rattle.strings.specs.Strings.{gap_len}
use Rattle.seek.specs.Sought.{span_of, seen_of}
use borrow.Author.Rules.{rules}
use native.Mathlib.Omega.{arith}
use Rattle.seek.proofs.seen.Goals as goal

pub returns-then-e-hit : goal.returns-then-e-hit
unfolding seen_of span_of gap_len
returns-then-e-hit c =
    rw (le-leb _ _ c.if-e-hit.true)

pub overflow_sub-end : goal.overflow_sub-end
unfolding seen_of span_of gap_len
overflow_sub-end c =
    let l = c.requires.1 c.if-e-hit.false in omega (arith, l.0)

pub overflow_add-end : goal.overflow_add-end
unfolding seen_of span_of gap_len
overflow_add-end c =
    let l = c.requires.1 c.if-e-hit.false in omega (arith, l.0, l.3)

pub slice_bounds-run-count : goal.slice_bounds-run-count
unfolding seen_of span_of gap_len
slice_bounds-run-count c =
    let l = c.requires.1 c.if-e-hit.false in omega (arith, l.0, l.2, l.3)

pub slice_bounds-run-start : goal.slice_bounds-run-start
unfolding seen_of span_of gap_len
slice_bounds-run-start c =
    let l = c.requires.1 c.if-e-hit.false in omega (arith, l.0, l.2, l.3)

pub slice_bounds-run-end : goal.slice_bounds-run-end
unfolding seen_of span_of gap_len
slice_bounds-run-end c =
    let l = c.requires.1 c.if-e-hit.false in omega (arith, l.0, l.2, l.3)

pub run-requires : goal.run-requires
unfolding seen_of span_of gap_len
run-requires c =
    search rules

pub overflow_add-result : goal.overflow_add-result
unfolding seen_of span_of gap_len
overflow_add-result c =
    let args = c.args in
    let l = c.requires.1 c.if-e-hit.false in
    let n = length_part args.gap (args.hit + (args.size - length args.t.now)) args.f.now (omega (arith, l.3)) in
    omega (arith, l.0, l.2, l.3, c.run.ensures.1)

pub returns : goal.returns
unfolding seen_of span_of gap_len
returns c =
    rw (lt-leb _ _ c.if-e-hit.false, ← c.run.ensures.0)
