-- `samples::integers` meets its contract. The block of a trace of an accepted image fits it. Assumes nothing.
use mathlib.Core.Path.{sym, ◌∙◌}
use native.Mathlib.Omega.{arith}
use lib.IntN.{ℤ}
use mir.Syntax.{w32}
use Rattle.samples.specs.Samples.{integers_bad, integers_answer_lem, integers_left_lem}
use Rattle.reader.specs.Reach.{told, told_fits}
use Rattle.reader.specs.Questions.{trace_answer}
use Rattle.word.specs.Signed.{handed}
use Rattle.std.proofs.lemmas.Result.{err_from_is_err_and}
use Rattle.samples.proofs.integers.Goals as goal

pub slice_bounds-integers-end : goal.slice_bounds-integers-end
slice_bounds-integers-end c =
    let args = c.args in
    let h = told _ _ _ _ _ (sym (handed w32 (λ (z : ℤ). trace_answer args.how args.buffer.now args.n z)
    args.trace c.ranges.trace.sfits
    c.in_ok-t.ensures)) in
    sym h.known.size

pub integers-requires : goal.integers-requires
integers-requires c =
    let args = c.args in
    let h = told _ _ _ _ _ (sym (handed w32 (λ (z : ℤ). trace_answer args.how args.buffer.now args.n z)
    args.trace c.ranges.trace.sfits
    c.in_ok-t.ensures)) in
    (omega (arith, h.known.size, h.known.least), told_fits _ _ _ _ _ h)

pub returns-in_err-t : goal.returns-in_err-t
returns-in_err-t c =
    let args = c.args in let e = integers_bad _ _ _ _ _ (sym (handed w32 (λ (z : ℤ). trace_answer args.how args.buffer.now args.n z)
    args.trace c.ranges.trace.sfits
    c.in_err-t.ensures)) _ in
    let p = err_from_is_err_and c.from_residual.result c.from_residual.ensures.1 in record { answer = rw (p.1, p.2) e.0; row = e.1 }

pub returns : goal.returns
returns c =
    let args = c.args in let h = told _ _ _ _ _ (sym (handed w32 (λ (z : ℤ). trace_answer args.how args.buffer.now args.n z)
    args.trace c.ranges.trace.sfits
    c.in_ok-t.ensures)) in record {
      answer = c.integers.ensures.answer ∙ integers_answer_lem _ _ _ _ _ h _;
      row = c.integers.ensures.row ∙ integers_left_lem _ _ _ _ _ h _;
    }
