-- A law for each answer of row 35, l being the line that was found.
-- Assumes nothing.
use Rattle.std.specs.Prelude.{◌≡◌, Bool, not, ◌&&◌, ◌||◌, List, ℕ, length}
use Rattle.std.proofs.Math.Path.{sym}
use Rattle.std.proofs.Common.{◌∙◌, arith}
use Rattle.std.proofs.Math.Bool.{true, false}
use borrow.Author.Tests.{lt-ltb, le-ltb}
use Rattle.sheet_line.specs.SheetLine.{line_value}
use Rattle.sheet.specs.Lines.{sheet_lines}
use Rattle.channel.specs.Channel.{channel_number, bad_channel}
use Rattle.channel_line.specs.ChannelLine.{has_line}
use Rattle.channel_line.specs.Finding.{IsLine}
use Rattle.sheet_channel.specs.SheetChannel.{bad_sheet}

module _ (free with : Bool) (s l : List ℕ) (i : IsLine channel_number s l) where
  pub sheet_without : length l ≡ 0 → (not free && with) ≡ bad_sheet free with s
  unfolding bad_sheet bad_channel
  sheet_without h = go free
    where
      none_has : has_line (sheet_lines s) channel_number ≡ false
      none_has = sym i.0 ∙ le-ltb 0 (length l) (omega arith)

      go : (f : Bool) → (not f && with) ≡ bad_sheet f with s
      go true = rw none_has
      go false = rw none_has

  pub sheet_with : (length l ≡ 0 → ⊥) → bad_channel (free || with) true (line_value l) ≡ bad_sheet free with s
  unfolding bad_sheet
  sheet_with h = go free
    where
      one_has : has_line (sheet_lines s) channel_number ≡ true
      one_has = sym i.0 ∙ lt-ltb 0 (length l) (omega arith)

      go : (f : Bool) → bad_channel (f || with) true (line_value l) ≡ bad_sheet f with s
      go true = rw (one_has, i.1)
      go false = rw (one_has, i.1)
