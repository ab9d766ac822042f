-- `quick_samples::integers` meets its contract. A block that passed its rows lies in the image. Assumes nothing.
use mathlib.Core.Path.{◌≡◌, sym, ◌∙◌}
use native.Mathlib.Omega.{arith}
use lib.IntN.{ℤ}
use mir.Syntax.{w32}
use Rattle.word.specs.Signed.{handed}
use Rattle.one_trace.specs.Alone.{block_alone}
use Rattle.quick.specs.QuickLaws.{shown}
use Rattle.quick_samples.specs.Told.{integers_bad, own_fits, integers_answer_lem, integers_left_lem}
use Rattle.std.proofs.lemmas.Result.{err_from_is_err_and}
use Rattle.quick_samples.proofs.integers.Goals as goal
use Rattle.quick_samples.proofs.integers.Goals.{In_ok-t}
use Rattle.std.specs.Prelude.{Ok}

-- the block that was answered
read : (c : In_ok-t)
    → let args = c.args in
    block_alone args.buffer.now args.n args.trace ≡ Ok c.in_ok-t.t
read c =
    let args = c.args in
    sym (handed w32 (λ (z : ℤ). block_alone args.buffer.now args.n z) args.trace c.ranges.trace.sfits c.in_ok-t.ensures)

pub slice_bounds-integers-end : goal.slice_bounds-integers-end
slice_bounds-integers-end c =
    sym (shown _ _ _ _ (read (goal.at.slice_bounds-integers-end c).In_ok-t)).size

pub integers-requires : goal.integers-requires
integers-requires c =
    let e = read (goal.at.integers-requires c).In_ok-t in
    let a = shown _ _ _ _ e in
    (omega (arith, a.size, a.least), own_fits _ _ _ _ e)

pub returns-in_err-t : goal.returns-in_err-t
returns-in_err-t c =
    let args = c.args in let e = integers_bad _ _ _ _
    (sym (handed w32 (λ (z : ℤ). block_alone args.buffer.now args.n z) args.trace c.ranges.trace.sfits
    c.in_err-t.ensures)) _ in
    let p = err_from_is_err_and c.from_residual.result c.from_residual.ensures.1 in record { answer = rw (p.1, p.2) e.0; row = e.1 }

pub returns : goal.returns
returns c =
    let e = read (goal.at.returns c).In_ok-t in record {
      answer = c.integers.ensures.answer ∙ integers_answer_lem _ _ _ _ e _;
      row = c.integers.ensures.row ∙ integers_left_lem _ _ _ _ e _;
    }
