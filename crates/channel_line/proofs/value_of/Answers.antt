-- `channel_line::value_of` meets its contract. Assumes nothing.
use Rattle.sheet_line.specs.SheetLine.{line_key_len}
use Rattle.channel_line.proofs.value_of.Goals as goal

pub returns : goal.returns
unfolding line_key_len
returns c =
    rw (c.behind.ensures.result_value, c.key_run.ensures.0)
