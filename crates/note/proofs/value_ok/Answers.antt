-- `note::value_ok` meets its contract. Assumes nothing.
use mathlib.Core.Path.{sym, ◌∙◌}
use Rattle.note.specs.Note.{value_ok}
use Rattle.note.proofs.value_ok.Goals as goal

pub returns-then-is_named_note : goal.returns-then-is_named_note
unfolding value_ok
returns-then-is_named_note c =
    c.all_lines.ensures ∙ rw (sym c.is_named_note.ensures ∙ c.if-is_named_note.true)

pub returns : goal.returns
unfolding value_ok
returns c =
    c.all_value.ensures ∙ rw (sym c.is_named_note.ensures ∙ c.if-is_named_note.false)
