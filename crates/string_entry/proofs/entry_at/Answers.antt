-- `string_entry::entry_at` meets its contract. Each answer follows from the frame. Assumes nothing.
use Rattle.std.proofs.Common.{◌∙◌, sym, ap, arith, length, ◌-◌, Ok}
use Rattle.std.proofs.Math.Nat.{le_refl}
use Rattle.word.specs.Part.{part, length_part, part_rest}
use Rattle.strings.specs.Strings.{body, key_len, gap_len, on_text, entry_of}
use Rattle.strings.specs.Walks.{in_frame}
use Rattle.string_entry.proofs.entry_at.Goals as goal

pub overflow_sub-end : goal.overflow_sub-end
unfolding body key_len gap_len on_text entry_of
overflow_sub-end c =
    let i = in_frame _ _ _ _ _ (sym c.framed.ensures ∙ c.in-Ok-Some.is ∙ ap Ok c.in-Ok-Some.field-0-is) in omega (arith, i.low, i.fit)

pub slice_bounds-b-count : goal.slice_bounds-b-count
unfolding body key_len gap_len on_text entry_of
slice_bounds-b-count c =
    let i = in_frame _ _ _ _ _ (sym c.framed.ensures ∙ c.in-Ok-Some.is ∙ ap Ok c.in-Ok-Some.field-0-is) in omega (arith, i.low, i.fit)

pub slice_bounds-b-start : goal.slice_bounds-b-start
unfolding body key_len gap_len on_text entry_of
slice_bounds-b-start c =
    let i = in_frame _ _ _ _ _ (sym c.framed.ensures ∙ c.in-Ok-Some.is ∙ ap Ok c.in-Ok-Some.field-0-is) in omega (arith, i.low, i.fit)

pub slice_bounds-b-end : goal.slice_bounds-b-end
unfolding body key_len gap_len on_text entry_of
slice_bounds-b-end c =
    let i = in_frame _ _ _ _ _ (sym c.framed.ensures ∙ c.in-Ok-Some.is ∙ ap Ok c.in-Ok-Some.field-0-is) in omega (arith, i.low, i.fit)

pub overflow_add-key : goal.overflow_add-key
unfolding body key_len gap_len on_text entry_of
overflow_add-key c =
    let i = in_frame _ _ _ _ _ (sym c.framed.ensures ∙ c.in-Ok-Some.is ∙ ap Ok c.in-Ok-Some.field-0-is) in omega (arith, i.low, i.fit)

pub overflow_add-gap : goal.overflow_add-gap
unfolding body key_len gap_len on_text entry_of
overflow_add-gap c =
    let args = c.args in
    let i = in_frame _ _ _ _ _ (sym c.framed.ensures ∙ c.in-Ok-Some.is ∙ ap Ok c.in-Ok-Some.field-0-is) in
    let b = part 2 (c.in-Ok-Some.o - length args.t.now) args.l.now in
    let x = length_part 2 (c.in-Ok-Some.o - length args.t.now) args.l.now (omega (arith, i.low, i.fit)) in
    let y = length_part c.run-n.result (length b) b (le_refl (length b)) in
    omega (arith, i.low, i.fit, c.run-n.ensures.1, c.run-m.ensures.1)

pub overflow_add-place : goal.overflow_add-place
unfolding body key_len gap_len on_text entry_of
overflow_add-place c =
    let args = c.args in
    let i = in_frame _ _ _ _ _ (sym c.framed.ensures ∙ c.in-Ok-Some.is ∙ ap Ok c.in-Ok-Some.field-0-is) in
    let b = part 2 (c.in-Ok-Some.o - length args.t.now) args.l.now in
    let x = length_part 2 (c.in-Ok-Some.o - length args.t.now) args.l.now (omega (arith, i.low, i.fit)) in
    let y = length_part c.run-n.result (length b) b (le_refl (length b)) in
    omega (arith, i.low, i.fit, c.run-n.ensures.1, c.run-m.ensures.1)

pub overflow_add-place-in-Ok-Some : goal.overflow_add-place-in-Ok-Some
unfolding body key_len gap_len on_text entry_of
overflow_add-place-in-Ok-Some c =
    let i = in_frame _ _ _ _ _ (sym c.framed.ensures ∙ c.in-Ok-Some.is ∙ ap Ok c.in-Ok-Some.field-0-is) in omega (arith, i.low, i.fit)

pub returns-in-Ok-None : goal.returns-in-Ok-None
unfolding body key_len gap_len on_text entry_of
returns-in-Ok-None c =
    rw (sym c.framed.ensures ∙ c.in-Ok-None.is ∙ ap Ok c.in-Ok-None.field-0-is)

pub returns-in-Err : goal.returns-in-Err
unfolding body key_len gap_len on_text entry_of
returns-in-Err c =
    rw (sym c.framed.ensures ∙ c.in-Err.is)

pub returns-in-Ok-Some : goal.returns-in-Ok-Some
unfolding body key_len gap_len on_text entry_of
returns-in-Ok-Some c =
    rw ((sym c.framed.ensures ∙ c.in-Ok-Some.is ∙ ap Ok c.in-Ok-Some.field-0-is), ← c.run-n.ensures.0, ← (rw part_rest at c.run-m.ensures.0))
