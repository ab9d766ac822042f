-- `sheet_line::line_len` meets its contract. Assumes nothing.
use Rattle.sheet_line.specs.SheetLine.{line_len}
use Rattle.sheet_line.proofs.line_len.Goals as goal

pub returns : goal.returns
unfolding line_len
returns c =
    c.run.ensures
