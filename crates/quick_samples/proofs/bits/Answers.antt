-- `quick_samples::bits` meets its contract. A block that passed its rows lies in the image. Assumes nothing.
use mathlib.Core.Path.{◌≡◌, sym, ◌∙◌}
use native.Mathlib.Omega.{arith}
use lib.IntN.{ℤ}
use mir.Syntax.{w32}
use Rattle.word.specs.Signed.{handed}
use Rattle.one_trace.specs.Alone.{block_alone}
use Rattle.quick.specs.QuickLaws.{shown}
use Rattle.quick_samples.specs.Told.{bits_bad, own_fits, bits_answer_lem, patterns_left_lem, classes_left_lem}
use Rattle.std.proofs.lemmas.Result.{err_from_is_err_and}
use Rattle.quick_samples.proofs.bits.Goals as goal
use Rattle.quick_samples.proofs.bits.Goals.{In_ok-x}
use Rattle.std.specs.Prelude.{Ok}

-- the block that was answered
read : (c : In_ok-x)
    → let args = c.args in
    block_alone args.buffer.now args.n args.trace ≡ Ok c.in_ok-x.x
read c =
    let args = c.args in
    sym (handed w32 (λ (z : ℤ). block_alone args.buffer.now args.n z) args.trace c.ranges.trace.sfits c.in_ok-x.ensures)

pub slice_bounds-bits-end : goal.slice_bounds-bits-end
slice_bounds-bits-end c =
    sym (shown _ _ _ _ (read (goal.at.slice_bounds-bits-end c).In_ok-x)).size

pub bits-requires : goal.bits-requires
bits-requires c =
    let e = read (goal.at.bits-requires c).In_ok-x in
    let a = shown _ _ _ _ e in
    (omega (arith, a.size, a.least), own_fits _ _ _ _ e)

pub returns-in_err-x : goal.returns-in_err-x
returns-in_err-x c =
    let args = c.args in let e = bits_bad _ _ _ _
    (sym (handed w32 (λ (z : ℤ). block_alone args.buffer.now args.n z) args.trace c.ranges.trace.sfits
    c.in_err-x.ensures)) _ _ in
    let p = err_from_is_err_and c.from_residual.result c.from_residual.ensures.1 in record { answer = rw (p.1, p.2) e.0; row = e.1.0; classes = e.1.1 }

pub returns : goal.returns
returns c =
    let e = read (goal.at.returns c).In_ok-x in record {
      answer = c.bits.ensures.answer ∙ bits_answer_lem _ _ _ _ e _ _;
      row = c.bits.ensures.row ∙ patterns_left_lem _ _ _ _ e _ _;
      classes = c.bits.ensures.classes ∙ classes_left_lem _ _ _ _ e _ _;
    }
