-- The file and the sheet of an addition, before its samples (document 01, rows 1 to 17 and 24 to 27; document 02, rows
-- 34 and 35). xs is the buffer, n the length given beside it, f the image: the first n bytes.
-- Assumes nothing.
use Rattle.std.specs.Prelude.{Bool, List, ℕ, ◌+◌, ◌*◌, take, ltb, eqb, Result, Ok, Err}
use Rattle.refusal.specs.declared.Rule.TheVariants.{NoSlot, SheetChannel}
use Rattle.refusal.specs.declared.Part.TheVariants.{File}
use Rattle.refusal.specs.Table.{refusal}
use Rattle.refusal.specs.Rows.{pick}
use Rattle.refusal.specs.Verdicts.{asked}
use Rattle.text.specs.declared.Manner.TheVariants.{Strict}
use Rattle.head_limits.specs.declared.Purpose.TheVariants.{Grow}
use Rattle.sheet.specs.Area.{measured_of}
use Rattle.sheet_channel.specs.SheetChannel.{bad_sheet}
use Rattle.head_words.specs.HeadWords.{high_first, room_of, count_of}
use Rattle.terminators.specs.Terminators.{string_end, line_end}
use Rattle.image.specs.Image.{with_channel, check_of}
use Rattle.refusal.specs.declared.Refusal.{Refusal}

-- "1 to 17, then 24 no free slot (place 0), 25 bad sheet line, 26 sheet order, 27 area too large (0)"

abbrev pub no_slot : ℕ → ℕ → Bool
no_slot m n = ltb m (4 * n + 4)

-- 35 "in the addition, after 27, place 0, for a bad value, a missing one, or one where the file's traces have none";
-- "the first addition is free to choose" (document 02 §7)
unfoldable pub wrong_channel : List ℕ → List ℕ → Bool
wrong_channel f sheet = bad_sheet (eqb (count_of f) 0) (with_channel Strict (high_first f) (string_end f) f) sheet

abbrev pub with_row : Bool → Result ℕ Refusal → Result ℕ Refusal
with_row bad (Ok b) = pick bad (Err (refusal SheetChannel File 0)) (Ok b)
with_row bad (Err r) = Err r

unfoldable pub taken_of : List ℕ → List ℕ → Result ℕ Refusal
taken_of f sheet = with_row (wrong_channel f sheet) (measured_of (string_end f) (line_end f) sheet)

-- the size of the area, or the first of these rows
unfoldable pub area_answer : List ℕ → ℕ → List ℕ → Result ℕ Refusal
area_answer xs n sheet =
    let f = take n xs in
    asked Err (check_of Strict Grow xs n)
    (pick (no_slot (room_of f) (count_of f)) (Err (refusal NoSlot File 0)) (taken_of f sheet))
