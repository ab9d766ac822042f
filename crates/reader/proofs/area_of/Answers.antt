-- `reader::area_of` meets its contract. Each trace of an accepted image lies in it, and one is there. Assumes nothing.
use Rattle.std.proofs.Common.{sym, ap, ◌∙◌, ℤ, w32, arith, Some}
use Rattle.head_words.specs.HeadWords.{count_of}
use Rattle.reader.specs.Reach.{whose_trace, some_trace, pointer_slot, trace_pointed}
use Rattle.reader.specs.Leaves.{area_whole, area_one}
use Rattle.part_number.specs.PartNumber.{whose_of}
use Rattle.reader.specs.Questions.{area_named}
use Rattle.word.specs.Signed.{handed}
use Rattle.reader.proofs.area_of.Goals as goal
use Rattle.std.specs.Prelude.{Option}
use Rattle.refusal.specs.declared.Part.{Part}

pub pointer-requires : goal.pointer-requires
unfolding area_named
pointer-requires c =
    pointer_slot _ _ c.requires.1 0 (some_trace _ _ c.requires.1)

pub pointer-p-requires : goal.pointer-p-requires
unfolding area_named
pointer-p-requires c =
    omega (arith, pointer_slot _ _ c.requires.1 _ (whose_trace _ _ _ (sym c.whose_in.ensures ∙ c.in-Some-Trace.is ∙ ap Some c.in-Some-Trace.field-0-is)).1)

pub word2-requires-in-Some-Trace : goal.word2-requires-in-Some-Trace
unfolding area_named
word2-requires-in-Some-Trace c =
    let q = trace_pointed _ _ c.requires.1 _ (whose_trace _ _ _ (sym c.whose_in.ensures ∙ c.in-Some-Trace.is ∙ ap Some c.in-Some-Trace.field-0-is)).1 in omega (
      arith,
      q.fits,
      (rw c.is_high-high.ensures at c.pointer-p.ensures.0),
    )

pub returns-in-None : goal.returns-in-None
unfolding area_named
returns-in-None c =
    let args = c.args in
    ap (λ (w : Option Part). area_named args.f.now w) (sym c.in-None.is ∙ handed w32 (λ (z : ℤ). whose_of z (count_of
    args.f.now)) args.part c.ranges.part.sfits c.whose_in.ensures)

pub returns-in-Some-File : goal.returns-in-Some-File
unfolding area_named
returns-in-Some-File c =
    let args = c.args in
    area_whole _ _ _ _ c.is_high-high.ensures c.word2.ensures.0 c.pointer.ensures.0 ∙ ap (λ (w : Option Part). area_named
    args.f.now w) (sym (c.in-Some-File.is ∙ ap Some c.in-Some-File.field-0-is) ∙ handed w32 (λ (z : ℤ). whose_of z (count_of args.f.now))
    args.part c.ranges.part.sfits c.whose_in.ensures)

pub returns-in-Some-Trace : goal.returns-in-Some-Trace
unfolding area_named
returns-in-Some-Trace c =
    let args = c.args in
    area_one _ _ _ _ _ c.is_high-high.ensures c.pointer-p.ensures.0 c.word2-in-Some-Trace.ensures.0 ∙ ap (λ (w : Option Part). area_named
    args.f.now w) (sym (c.in-Some-Trace.is ∙ ap Some c.in-Some-Trace.field-0-is) ∙ handed w32 (λ (z : ℤ). whose_of z (count_of args.f.now)) args.part
    c.ranges.part.sfits c.whose_in.ensures)
