-- `one_string::is_value` meets its contract. Assumes nothing.
use mathlib.Core.Path.{sym, ◌∙◌}
use Rattle.note.specs.Note.{value_ok}
use borrow.Author.Rules.{rules}
use Rattle.one_string.proofs.is_value.Goals as goal

pub is_note-requires : goal.is_note-requires
unfolding value_ok
is_note-requires c =
    search rules

pub all_lines-requires : goal.all_lines-requires
unfolding value_ok
all_lines-requires c =
    search rules

pub returns-then-is_note : goal.returns-then-is_note
unfolding value_ok
returns-then-is_note c =
    c.all_lines.ensures ∙ rw (sym c.is_note.ensures ∙ c.if-is_note.true)

pub all-requires : goal.all-requires
unfolding value_ok
all-requires c =
    search rules

pub returns : goal.returns
unfolding value_ok
returns c =
    c.all.ensures ∙ rw (sym c.is_note.ensures ∙ c.if-is_note.false)
