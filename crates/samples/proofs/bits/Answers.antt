-- `samples::bits` meets its contract. The block of a trace of an accepted image fits it. Assumes nothing.
use mathlib.Core.Path.{sym, ◌∙◌}
use native.Mathlib.Omega.{arith}
use lib.IntN.{ℤ}
use mir.Syntax.{w32}
use Rattle.samples.specs.Samples.{bits_bad, bits_answer_lem, patterns_left_lem, classes_left_lem}
use Rattle.reader.specs.Reach.{told, told_fits}
use Rattle.reader.specs.Questions.{trace_answer}
use Rattle.word.specs.Signed.{handed}
use Rattle.std.proofs.lemmas.Result.{err_from_is_err_and}
use Rattle.samples.proofs.bits.Goals as goal

pub slice_bounds-bits-end : goal.slice_bounds-bits-end
slice_bounds-bits-end c =
    let args = c.args in
    let h = told _ _ _ _ _ (sym (handed w32 (λ (z : ℤ). trace_answer args.how args.buffer.now args.n z)
    args.trace c.ranges.trace.sfits
    c.in_ok-x.ensures)) in
    sym h.known.size

pub bits-requires : goal.bits-requires
bits-requires c =
    let args = c.args in
    let h = told _ _ _ _ _ (sym (handed w32 (λ (z : ℤ). trace_answer args.how args.buffer.now args.n z)
    args.trace c.ranges.trace.sfits
    c.in_ok-x.ensures)) in
    (omega (arith, h.known.size, h.known.least), told_fits _ _ _ _ _ h)

pub returns-in_err-x : goal.returns-in_err-x
returns-in_err-x c =
    let args = c.args in let e = bits_bad _ _ _ _ _ (sym (handed w32 (λ (z : ℤ). trace_answer args.how args.buffer.now args.n z)
    args.trace c.ranges.trace.sfits
    c.in_err-x.ensures)) _ _ in
    let p = err_from_is_err_and c.from_residual.result c.from_residual.ensures.1 in record { answer = rw (p.1, p.2) e.0; row = e.1.0; classes = e.1.1 }

pub returns : goal.returns
returns c =
    let args = c.args in let h = told _ _ _ _ _ (sym (handed w32 (λ (z : ℤ). trace_answer args.how args.buffer.now args.n z)
    args.trace c.ranges.trace.sfits
    c.in_ok-x.ensures)) in record {
      answer = c.bits.ensures.answer ∙ bits_answer_lem _ _ _ _ _ h _ _;
      row = c.bits.ensures.row ∙ patterns_left_lem _ _ _ _ _ h _ _;
      classes = c.bits.ensures.classes ∙ classes_left_lem _ _ _ _ _ h _ _;
    }
