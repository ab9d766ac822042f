-- What the listing program prints (document 01, the end of "Worked values"), byte by byte.
-- Assumes nothing.
use Rattle.std.specs.Prelude.{List, ℕ, ◌+◌, ◌*◌, ◌≤◌, length, ltb, Ok, Err, Option, Some, None}
use Rattle.head_limits.specs.declared.Purpose.TheVariants.{Read}
use Rattle.text.specs.declared.Manner.TheVariants.{Strict}
use Rattle.word.specs.Put.{put}
use Rattle.refusal.specs.Rows.{pick}
use Rattle.refusal.specs.Table.{refusal}
use Rattle.refusal.specs.declared.Rule.TheVariants.{InputSize}
use Rattle.refusal.specs.declared.Part.TheVariants.{File}
use Rattle.image.specs.Image.{check_of}
use Rattle.lines.specs.Lines.{refusal_line}
use Rattle.file_lines.specs.FileLines.{file_text}
use Rattle.refusal.specs.Verdicts.{Verdict}

unfoldable pub checked_text : Verdict → List ℕ → List ℕ
checked_text (Ok _) f = file_text f
checked_text (Err r) f = refusal_line r

-- "A refusal prints one line only: R, number, part (F for -1), place"
unfoldable pub listing_of : List ℕ → List ℕ
listing_of input = checked_text (check_of Strict Read input (length input)) input

-- "19 the listing program's input exceeds 65,536 bytes, place 0"; "19 comes before all others"
unfoldable pub program_of : List ℕ → List ℕ
program_of input = pick (ltb 65536 (length input)) (refusal_line (refusal InputSize File 0)) (listing_of input)

-- ---- the answer where an input prints a text: how many bytes were stored, or that the row lent may be too short.
-- 16 bytes for each of the input's and 64 more are enough
abbrev pub room_for : ℕ → ℕ
room_for n = 16 * n + 64

unfoldable pub print_answer : List ℕ → List ℕ → ℕ → Option ℕ
print_answer text input room = pick (ltb room (room_for (length input))) None (Some (length text))

abbrev pub list_answer : List ℕ → ℕ → Option ℕ
list_answer input room = print_answer (listing_of input) input room

abbrev pub program_answer : List ℕ → ℕ → Option ℕ
program_answer input room = print_answer (program_of input) input room

-- the listing lies in the row
abbrev pub Within : Option ℕ → ℕ → Type 0
Within (Some n) room = n ≤ room
Within None room = Unit {0}

-- and what the row then holds
unfoldable pub print_left : List ℕ → List ℕ → List ℕ → List ℕ
print_left text input out = pick (ltb (length out) (room_for (length input))) out (put out 0 text)

abbrev pub list_left : List ℕ → List ℕ → List ℕ
list_left input out = print_left (listing_of input) input out

abbrev pub program_left : List ℕ → List ℕ → List ℕ
program_left input out = print_left (program_of input) input out
