-- `channel_line::is_channel` meets its contract. Assumes nothing.
use Rattle.sheet_line.specs.SheetLine.{line_key_len}
use Rattle.channel_line.proofs.is_channel.Goals as goal

pub returns : goal.returns
unfolding line_key_len
returns c =
    rw (c.is_same.ensures, c.key_run-n.ensures.0)
