-- `sheet_string::write_note` meets its contract. The stores make the string, the offset last. Assumes nothing.
use Rattle.std.proofs.Common.{refl, ◌+◌, ◌≤◌, ◌<◌, length, arith}
use Rattle.word.specs.Part.{part_rest}
use Rattle.strings.specs.Spelled.{size_of}
use Rattle.sheet.specs.Lines.{sheet_lines}
use Rattle.sheet.specs.Area.{note_of}
use Rattle.sheet_string.specs.StringBytes.{NoteAt, note_at, note_written}
use Rattle.sheet_string.proofs.write_note.Goals as goal
use Rattle.sheet_string.proofs.write_note.Goals.{After-line_len-n}

-- the NOTE's first line, once its length is known, and the room that the buffer has
noted : (c : After-line_len-n)
    → NoteAt c.args.u.now c.args.s.now c.line_len-n.result
    × (size_of c.args.t.now (note_of c.args.u.now (sheet_lines c.args.s.now)) < 65536)
    × (c.args.to + size_of c.args.t.now (note_of c.args.u.now (sheet_lines c.args.s.now)) ≤ length c.args.part.now)
noted c =
    (note_at c.args.u.now c.args.s.now _ c.requires.0 c.line_len-n.ensures.0, c.requires.1, c.requires.2)

pub slice_bounds-copy-start : goal.slice_bounds-copy-start
slice_bounds-copy-start c =
    let a = noted (goal.at.slice_bounds-copy-start c).After-line_len-n in omega (arith, a.0.low, a.0.fits, a.0.long, a.0.size, a.1, a.2)

pub copy-requires-2 : goal.copy-requires-2
copy-requires-2 c =
    let a = noted (goal.at.copy-requires-2 c).After-line_len-n in
    omega (arith, a.0.low, a.0.fits, a.0.long, a.0.size, a.1, a.2)

pub slice_bounds-write_lines-count : goal.slice_bounds-write_lines-count
slice_bounds-write_lines-count c =
    let a = noted (goal.at.slice_bounds-write_lines-count c).After-line_len-n in
    omega (arith, a.0.low, a.0.fits, a.0.long, a.0.size, a.1, a.2)

pub slice_bounds-write_lines-start : goal.slice_bounds-write_lines-start
slice_bounds-write_lines-start c =
    let a = noted (goal.at.slice_bounds-write_lines-start c).After-line_len-n in
    omega (arith, a.0.low, a.0.fits, a.0.long, a.0.size, a.1, a.2)

pub write_lines-e-requires : goal.write_lines-e-requires
write_lines-e-requires c =
    let a = noted (goal.at.write_lines-e-requires c).After-line_len-n in
    rw part_rest (a.0.noted, omega (arith, a.0.low, a.0.fits, a.0.long, a.0.size, a.1, a.2))

pub copy-requires-3 : goal.copy-requires-3
copy-requires-3 c =
    let a = noted (goal.at.copy-requires-3 c).After-line_len-n in
    let e = rw part_rest at c.write_lines-e.ensures.0 in
    omega (arith, a.0.low, a.0.fits, a.0.long, a.0.size, a.1, a.2)

pub overflow_add-end : goal.overflow_add-end
overflow_add-end c =
    let a =
    noted (goal.at.overflow_add-end c).After-line_len-n in
    let e = rw part_rest at c.write_lines-e.ensures.0 in
    omega (arith, a.0.low, a.0.fits, a.0.long, a.0.size, a.1, a.2, e)

pub overflow_cast-end : goal.overflow_cast-end
overflow_cast-end c =
    let a =
    noted (goal.at.overflow_cast-end c).After-line_len-n in
    let e = rw part_rest at c.write_lines-e.ensures.0 in
    omega (arith, a.0.low, a.0.fits, a.0.long, a.0.size, a.1, a.2, e)

pub returns : goal.returns
returns c =
    let a = (noted (goal.at.returns c).After-line_len-n).0 in
    let e = rw part_rest at c.write_lines-e.ensures.0 in (
      omega (arith, a.size),
      note_written _ _ _ _ _ _ _ _ _ _ _ _ a _ _ _ _ _ refl refl refl e (omega (arith, a.size)) c.copy.ensures
          c.copy-2.ensures (rw part_rest at c.write_lines-e.ensures.1) c.copy-3.ensures c.put2.ensures,
    )

pub slice_bounds-copy-count : goal.slice_bounds-copy-count
slice_bounds-copy-count c =
    let a = noted (goal.at.slice_bounds-copy-count c).After-line_len-n in
    omega (arith, a.0.low, a.0.fits, a.0.long, a.0.size, a.1, a.2)
