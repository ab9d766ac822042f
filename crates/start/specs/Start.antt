-- What starting a file answers, and what is left in the lent buffer xs (document 01, "What we write" and rows 25 to 27,
-- 30 and 31); and what it answers of the room that it needs, without a buffer.
-- Assumes nothing.
use Rattle.std.specs.Prelude.{Bool, ◌||◌, List, ℕ, length, ltb, eqb, Result, Ok, Err}
use Rattle.word.specs.Put.{put}
use Rattle.refusal.specs.declared.Rule.TheVariants.{NoRoom, StartValues}
use Rattle.refusal.specs.Rows.{pick}
use Rattle.refusal.specs.Writing.{refuse, on_written}
use Rattle.head.specs.Head.{maximum}
use Rattle.sheet.specs.Area.{measured_of}
use Rattle.layout.specs.Layout.{nul, line_feed, slots_most, start_image, start_size}
use Rattle.refusal.specs.declared.Refusal.{Refusal}

-- 30 "new length over the buffer or the maximum", else the new length
abbrev pub within : ℕ → ℕ → Result ℕ Refusal
within size end = pick (ltb size end || ltb maximum end) (refuse NoRoom 0) (Ok end)

-- the same of a length that is within the maximum, and a refusal as it is
abbrev pub roomed : ℕ → Result ℕ Refusal → Result ℕ Refusal
roomed space (Ok end) = pick (ltb space end) (refuse NoRoom 0) (Ok end)
roomed space (Err r) = Err r

-- a sheet's refusal, 25 to 27, else what comes behind it
abbrev pub on_measured : Result ℕ Refusal → Result ℕ Refusal → Result ℕ Refusal
on_measured (Ok b) more = more
on_measured (Err r) more = Err r

-- ---- starting: 31 "slots outside 1 to 16,383 or order not 0 or 1 (place 0), 25, 26, 27, 30"

abbrev pub bad_start : ℕ → ℕ → Bool
bad_start order slots = ltb 1 order || (ltb slots 1 || ltb slots_most slots)

-- into so many bytes of room
unfoldable pub start_into : ℕ → ℕ → ℕ → List ℕ → Result ℕ Refusal
start_into space order slots sheet =
    pick (bad_start order slots) (refuse StartValues 0)
    (on_measured (measured_of nul line_feed sheet) (within space (start_size slots sheet)))

unfoldable pub start_answer : List ℕ → ℕ → ℕ → List ℕ → Result ℕ Refusal
start_answer xs order slots sheet = start_into (length xs) order slots sheet

-- the room that a start needs: what it answers into as many bytes as a file may have
unfoldable pub start_needs : ℕ → ℕ → List ℕ → Result ℕ Refusal
start_needs order slots sheet = start_into maximum order slots sheet

unfoldable pub start_left : List ℕ → ℕ → ℕ → List ℕ → List ℕ
start_left xs order slots sheet = on_written (start_answer xs order slots sheet) (put xs 0 (start_image (eqb order 1) slots sheet)) xs
