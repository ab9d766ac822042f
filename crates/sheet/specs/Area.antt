-- What a sheet means and is written as: "Each string is written as keyword, one space, value; NOTE lines are joined by
-- the line terminator; then the end mark 0 (for an empty list too), then zeros to a multiple of 4. An area is at most
-- 65,500 bytes" (document 01, "What we write"; row 27). `high` is the byte order, t the string terminator, u the line
-- terminator.
-- Assumes nothing.
use Rattle.std.specs.Prelude.{Bool, List, [], ◌∷◌, ℕ, ◌+◌, ◌-◌, replicate, ltb, Result, Ok, Err}
use Rattle.word.specs.Round.{round4}
use Rattle.refusal.specs.declared.Rule.TheVariants.{AreaSize}
use Rattle.refusal.specs.declared.Part.TheVariants.{File}
use Rattle.refusal.specs.Verdicts.{asked}
use Rattle.refusal.specs.Table.{refusal}
use Rattle.refusal.specs.Rows.{pick}
use Rattle.chars.specs.Chars.{note}
use Rattle.chars.specs.Runs.{same}
use Rattle.note.specs.Note.{with_ends}
use Rattle.strings.specs.Spelled.{Str, size_of, written}
use Rattle.sheet.specs.Lines.{Line, sheet_lines, lines_verdict}
use Rattle.refusal.specs.declared.Refusal.{Refusal}

-- ---- the strings that lines mean

-- "keyword, one space, value"
abbrev pub str_of : Line → Str
str_of l = record { key = l.key; gap = 32 ∷ []; value = l.value }

abbrev pub values : List Line → List (List ℕ)
values [] = []
values (l ∷ ls) = l.value ∷ values ls

-- "NOTE lines are joined by the line terminator"
abbrev pub note_of : List ℕ → List Line → Str
note_of u ls = record { key = note; gap = 32 ∷ []; value = with_ends u (values ls) }

-- a string for each line, and one for all from the first NOTE on: in a sheet that is let through nothing but NOTE lines
-- follow it
unfoldable pub joined : List ℕ → List Line → List Str
joined u [] = []
joined u (l ∷ ls) = pick (same l.key note) (note_of u (l ∷ ls) ∷ []) (str_of l ∷ joined u ls)

-- the list of strings that a sheet means
unfoldable pub sheet_strings : List ℕ → List ℕ → List Str
sheet_strings u s = joined u (sheet_lines s)

-- ---- the area

-- the bytes of strings with the end mark
unfoldable pub text_size : List ℕ → List Str → ℕ
text_size t [] = 2
text_size t (s ∷ ss) = size_of t s + text_size t ss

-- "then zeros to a multiple of 4"
abbrev pub padding : ℕ → List ℕ
padding n = replicate (round4 n - n) 0

unfoldable pub area_of : Bool → List ℕ → List ℕ → List ℕ → List ℕ
area_of high t u s = written high t (sheet_strings u s) (padding (text_size t (sheet_strings u s)))

-- how long it is, in either order (`length_area` of Sizes)
unfoldable pub area_size : List ℕ → List ℕ → List ℕ → ℕ
area_size t u s = round4 (text_size t (sheet_strings u s))

-- ---- what a sheet answers: 25 and 26 of its lines, then 27 "area too large", else the area's size

-- "An area is at most 65,500 bytes"
abbrev pub area_most : ℕ
area_most = 65500

abbrev pub sized : ℕ → Result ℕ Refusal
sized n = pick (ltb area_most n) (Err (refusal AreaSize File 0)) (Ok n)

unfoldable pub measured_of : List ℕ → List ℕ → List ℕ → Result ℕ Refusal
measured_of t u s = asked Err (lines_verdict s) (sized (area_size t u s))
