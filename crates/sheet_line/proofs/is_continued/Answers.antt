-- `sheet_line::is_continued` meets its contract. Assumes nothing.
use Rattle.sheet_line.specs.SheetLine.{continues}
use Rattle.sheet_line.proofs.is_continued.Goals as goal

pub returns : goal.returns
unfolding continues
returns c =
    rw (← c.is_note.ensures, ← c.is_note-2.ensures)
