-- `string_lines::put_string` meets its contract. Only a NOTE has lines. Assumes nothing.
use Rattle.std.proofs.Common.{sym, ◌∙◌}
use Rattle.string_lines.specs.Turns.{values_note, values_plain, lines_one}
use Rattle.string_lines.proofs.put_string.Goals as goal

pub put_lines-requires : goal.put_lines-requires
put_lines-requires c =
    let args = c.args in (
      c.requires.0,
      (rw (values_note args.u.now args.key.now args.v.now (sym c.is_note.ensures ∙ c.if-is_note.true)) at
          c.requires.1),
    )

pub returns-then-is_note : goal.returns-then-is_note
returns-then-is_note c =
    let args = c.args in
    rw (values_note args.u.now args.key.now args.v.now (sym c.is_note.ensures ∙ c.if-is_note.true))
    c.put_lines.ensures

pub put_line-requires : goal.put_line-requires
put_line-requires c =
    let args = c.args in
    (rw (values_plain args.u.now args.key.now args.v.now (sym c.is_note.ensures ∙ c.if-is_note.false), lines_one) at
    c.requires.1)

pub returns : goal.returns
returns c =
    let args = c.args in
    rw (values_plain args.u.now args.key.now args.v.now (sym c.is_note.ensures ∙ c.if-is_note.false), lines_one)
    c.put_line.ensures
