-- The lines of strings in a listing (document 01, the end of "Worked values"): each string its own, a NOTE one for each
-- of its lines.
-- Assumes nothing.
use Rattle.std.specs.Prelude.{List, [], ◌∷◌, ◌++◌, ℕ, length}
use Rattle.refusal.specs.Rows.{pick}
use Rattle.refusal.specs.declared.Part.{Part}
use Rattle.chars.specs.Chars.{note}
use Rattle.chars.specs.Runs.{same}
use Rattle.note.specs.Note.{lines_of}
use Rattle.strings.specs.Spelled.{Str}
use Rattle.lines.specs.Lines.{string_line}

unfoldable pub lines_text : Part → List ℕ → List (List ℕ) → List ℕ
lines_text p key [] = []
lines_text p key (v ∷ vs) = string_line p key v ++ lines_text p key vs

-- "each NOTE line (a part between line terminators, also an empty one) as its own S line"; u is the line terminator
unfoldable pub values_of : List ℕ → List ℕ → List ℕ → List (List ℕ)
values_of u key value = pick (same key note) (lines_of (length value) u value) (value ∷ [])

unfoldable pub strings_text : Part → List ℕ → List Str → List ℕ
strings_text p u [] = []
strings_text p u (s ∷ ss) = lines_text p s.key (values_of u s.key s.value) ++ strings_text p u ss
