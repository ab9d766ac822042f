-- The channel number of a sheet (document 02, §7, refusal 35): "for a bad value, a missing one, or one where the file's
-- traces have none"; "the first addition is free to choose".
-- Assumes nothing.
use Rattle.std.specs.Prelude.{Bool, List, ℕ}
use Rattle.refusal.specs.Rows.{pick}
use Rattle.sheet.specs.Lines.{sheet_lines}
use Rattle.channel_line.specs.ChannelLine.{has_line, value_of_line}
use Rattle.channel.specs.Channel.{channel_number, bad_channel}

-- a sheet that breaks the rule: `free` tells whether it is the first to be added, `with` whether the file's traces have
-- the string
unfoldable pub bad_sheet : Bool → Bool → List ℕ → Bool
bad_sheet free with s =
    let has = has_line (sheet_lines s) channel_number in
    bad_channel (pick free has with) has (value_of_line (sheet_lines s) channel_number)
