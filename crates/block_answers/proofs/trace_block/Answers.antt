-- `block_answers::trace_block` meets its contract. Each trace of an accepted image lies in it. Assumes nothing.
use Rattle.std.proofs.Common.{ap, Some, sym, ◌∙◌, arith, take}
use lib.IntN.{ℤ}
use mir.Syntax.{w32}
use Rattle.head_words.specs.HeadWords.{count_of}
use Rattle.reader.specs.Reach.{checked, whose_trace, pointer_slot, trace_pointed}
use Rattle.part_number.specs.PartNumber.{whose_of}
use Rattle.reader.specs.Questions.{trace_answer}
use Rattle.word.specs.Signed.{handed}
use Rattle.std.proofs.lemmas.Result.{err_from_is_err_and}
use Rattle.block_answers.proofs.trace_block.Goals as goal

pub returns-in_err-check : goal.returns-in_err-check
unfolding trace_answer
returns-in_err-check c =
    let p = err_from_is_err_and c.from_residual.result c.from_residual.ensures.1 in
    rw (p.1, p.2)
    (rw (sym c.in_err-check.ensures))

pub slice_bounds-f-end : goal.slice_bounds-f-end
unfolding trace_answer
slice_bounds-f-end c =
    sym (checked _ _ _ (sym c.in_ok-check.ensures)).size

pub whose_in-requires : goal.whose_in-requires
unfolding trace_answer
whose_in-requires c =
    let k = checked _ _ _ (sym c.in_ok-check.ensures) in
    omega (arith, k.size, k.least)

pub is_high-requires : goal.is_high-requires
unfolding trace_answer
is_high-requires c =
    let k = checked _ _ _ (sym c.in_ok-check.ensures) in
    omega (arith, k.size, k.least)

pub trace_block-requires : goal.trace_block-requires
unfolding trace_answer
trace_block-requires c =
    let k = checked _ _ _ (sym c.in_ok-check.ensures) in
    let l = (whose_trace _ _ _ (sym c.whose_in.ensures ∙ c.in-Some-Trace.is ∙ ap Some c.in-Some-Trace.field-0-is)).1 in
    (pointer_slot _ _ k.image _ l, rw c.is_high.ensures (trace_pointed _ _ k.image _ l).fits)

pub returns-in-Some-Trace : goal.returns-in-Some-Trace
unfolding trace_answer
returns-in-Some-Trace c =
    let args = c.args in
    rw (
      (sym c.in_ok-check.ensures),
      (sym (handed w32 (λ (z : ℤ). whose_of z (count_of (take args.n args.buffer.now))) args.trace c.ranges.trace.sfits
          c.whose_in.ensures) ∙ c.in-Some-Trace.is ∙ ap Some c.in-Some-Trace.field-0-is),
      c.trace_block.ensures,
      c.is_high.ensures,
    )

pub returns-in-Some-File : goal.returns-in-Some-File
unfolding trace_answer
returns-in-Some-File c =
    let args = c.args in
    rw (
      (sym c.in_ok-check.ensures),
      (sym (handed w32 (λ (z : ℤ). whose_of z (count_of (take args.n args.buffer.now))) args.trace c.ranges.trace.sfits
          c.whose_in.ensures) ∙ c.in-Some-File.is ∙ ap Some c.in-Some-File.field-0-is),
      c.no_trace.ensures,
    )

pub returns-in-None : goal.returns-in-None
unfolding trace_answer
returns-in-None c =
    let args = c.args in
    rw (
      (sym c.in_ok-check.ensures),
      (sym (handed w32 (λ (z : ℤ). whose_of z (count_of (take args.n args.buffer.now))) args.trace c.ranges.trace.sfits
          c.whose_in.ensures) ∙ c.in-None.is),
      c.no_trace-in-None.ensures,
    )
