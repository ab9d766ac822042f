-- `sheet_texts::write_strings` meets its contract. The invariant: what is left to store, stored, makes the whole. Assumes
-- nothing.
use Rattle.std.proofs.Common.{◌≡◌, refl, sym, ◌∙◌, ◌+◌, ◌<◌, length, rules, arith}
use Rattle.word.specs.Part.{part, part_rest}
use Rattle.word.specs.Put.{length_put}
use Rattle.sheet_texts.specs.Texts.{texts_room, strung_start, line_fits, strung_fits, strung_room, strung_turn}
use Rattle.sheet_texts.specs.Texts.{strung_headed, strung_note_room, strung_note, strung_over}
use Rattle.sheet_texts.proofs.write_strings.Goals as goal
use Rattle.sheet_texts.proofs.write_strings.Goals.{After-key_run-w, After-line_len-n}

-- the line that the walk is at ends before the sheet does
ends : (c : After-line_len-n)
    → c.loop-at.at + c.line_len-n.result < length c.args.sheet.now
ends c =
    line_fits _ _ _ _ _ c.loop-at.at _ _ c.loop-at.invariant.2 c.loop-at-test.true _
    (rw part_rest at c.line_len-n.ensures.0)

-- its keyword is shorter than it, and it is as long as what is lent of it
fits : (c : After-key_run-w)
    → let n = c.line_len-n.result in
    let sheet = c.args.sheet.now in
    let line = part c.loop-at.at (c.loop-at.at + n) sheet in
    (c.key_run-w.result < n) × (c.loop-at.at + n < length sheet) × (c.key_run-w.result < length line) × (length line ≡ n)
fits c =
    strung_fits _ _ _ _ _ c.loop-at.at _ _ c.loop-at.invariant.2 c.loop-at-test.true _
    (rw part_rest at c.line_len-n.ensures.0) _ c.key_run-w.ensures.0

pub loop-at-init : goal.loop-at-init
loop-at-init c =
    (search rules, refl, strung_start _ _ _ _ _ _ c.requires)

pub overflow_add-e : goal.overflow_add-e
overflow_add-e c =
    omega (arith, ends (goal.at.overflow_add-e c).After-line_len-n)

pub slice_bounds-key_run-count : goal.slice_bounds-key_run-count
slice_bounds-key_run-count c =
    omega (arith, ends (goal.at.slice_bounds-key_run-count c).After-line_len-n)

pub slice_bounds-key_run-start : goal.slice_bounds-key_run-start
slice_bounds-key_run-start c =
    omega (arith, ends (goal.at.slice_bounds-key_run-start c).After-line_len-n)

pub slice_bounds-key_run-end : goal.slice_bounds-key_run-end
slice_bounds-key_run-end c =
    omega (arith, ends (goal.at.slice_bounds-key_run-end c).After-line_len-n)

pub overflow_add-k : goal.overflow_add-k
overflow_add-k c =
    let b = fits (goal.at.overflow_add-k c).After-key_run-w in omega (arith, b.0, b.1, b.2, b.3)

pub slice_bounds-is_note-count : goal.slice_bounds-is_note-count
slice_bounds-is_note-count c =
    let b = fits (goal.at.slice_bounds-is_note-count c).After-key_run-w in omega (arith, b.0, b.1, b.2, b.3)

pub slice_bounds-is_note-start : goal.slice_bounds-is_note-start
slice_bounds-is_note-start c =
    let b = fits (goal.at.slice_bounds-is_note-start c).After-key_run-w in omega (arith, b.0, b.1, b.2, b.3)

pub slice_bounds-is_note-end : goal.slice_bounds-is_note-end
slice_bounds-is_note-end c =
    let b = fits (goal.at.slice_bounds-is_note-end c).After-key_run-w in omega (arith, b.0, b.1, b.2, b.3)

pub write_note-requires : goal.write_note-requires
write_note-requires c =
    let r = (texts_room c.args.high _ _ _ _ c.requires) in
    let q = strung_note_room _ _ _ _ _ c.loop-at.at _ _ c.loop-at.invariant.2 c.loop-at-test.true _
    (rw part_rest at c.line_len-n.ensures.0) _ c.key_run-w.ensures.0
    (sym c.is_note.ensures ∙ c.if-is_note.true) in
    rw part_rest (
      strung_headed _ _ _ _ _ c.loop-at.at _ _ c.loop-at.invariant.2 c.loop-at-test.true _
          (rw part_rest at c.line_len-n.ensures.0) _ c.key_run-w.ensures.0
          (sym c.is_note.ensures ∙ c.if-is_note.true),
      omega (arith, r.0, r.1),
      omega (arith, r.0, r.1, c.loop-at.invariant.1),
    )

pub returns-then-is_note : goal.returns-then-is_note
returns-then-is_note c =
    strung_note _ _ _ _ _ c.loop-at.at _ _ c.loop-at.invariant.2 c.loop-at-test.true _
    (rw part_rest at c.line_len-n.ensures.0) _ c.key_run-w.ensures.0
    (sym c.is_note.ensures ∙ c.if-is_note.true) _ _ (rw part_rest at c.write_note.ensures.0)
    (rw part_rest at c.write_note.ensures.1)

pub slice_bounds-write_line-count : goal.slice_bounds-write_line-count
slice_bounds-write_line-count c =
    let b = fits (goal.at.slice_bounds-write_line-count c).After-key_run-w in omega (arith, b.0, b.1, b.2, b.3)

pub slice_bounds-write_line-start : goal.slice_bounds-write_line-start
slice_bounds-write_line-start c =
    let b = fits (goal.at.slice_bounds-write_line-start c).After-key_run-w in omega (arith, b.0, b.1, b.2, b.3)

pub slice_bounds-write_line-end : goal.slice_bounds-write_line-end
slice_bounds-write_line-end c =
    let b = fits (goal.at.slice_bounds-write_line-end c).After-key_run-w in omega (arith, b.0, b.1, b.2, b.3)

pub write_line-to-requires : goal.write_line-to-requires
write_line-to-requires c =
    let b = strung_fits _ _ _ _ _ c.loop-at.at _ _ c.loop-at.invariant.2 c.loop-at-test.true _
    (rw part_rest at c.line_len-n.ensures.0) _ c.key_run-w.ensures.0 in
    let r = (texts_room c.args.high _ _ _ _ c.requires) in
    let q = strung_room _ _ _ _ _ c.loop-at.at _ _ c.loop-at.invariant.2 c.loop-at-test.true _
    (rw part_rest at c.line_len-n.ensures.0) _ c.key_run-w.ensures.0
    (sym c.is_note.ensures ∙ c.if-is_note.false) in
    (b.2, omega (arith, r.0, r.1), omega (arith, r.0, r.1, c.loop-at.invariant.1))

pub overflow_add-at : goal.overflow_add-at
overflow_add-at c =
    let b = strung_fits _ _ _ _ _ c.loop-at.at _ _ c.loop-at.invariant.2
    c.loop-at-test.true _
    (rw part_rest at c.line_len-n.ensures.0) _
    c.key_run-w.ensures.0 in
    omega (arith, b.0, b.1, b.2, b.3)

pub loop-at-smaller : goal.loop-at-smaller
loop-at-smaller c =
    let b = fits (goal.at.loop-at-smaller c).After-key_run-w in omega (arith, b.0, b.1, b.2, b.3)

pub loop-at-preserved : goal.loop-at-preserved
loop-at-preserved c =
    let b = strung_fits _ _ _ _ _ c.loop-at.at _ _ c.loop-at.invariant.2 c.loop-at-test.true _
    (rw part_rest at c.line_len-n.ensures.0) _ c.key_run-w.ensures.0 in (
      omega (arith, b.1),
      rw (c.write_line-to.ensures.1, length_put) c.loop-at.invariant.1,
      strung_turn _ _ _ _ _ c.loop-at.at _
          _ c.loop-at.invariant.2 c.loop-at-test.true _ (rw part_rest at c.line_len-n.ensures.0) _
          c.key_run-w.ensures.0 (sym c.is_note.ensures ∙ c.if-is_note.false) _ _ c.write_line-to.ensures.0
          c.write_line-to.ensures.1,
    )

pub returns : goal.returns
returns c =
    strung_over _ _ _ _ _ _ _ _ c.loop-at.invariant.2 c.loop-at-test.false
