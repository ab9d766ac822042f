-- The line of a sheet that has a keyword, as CHANNEL_NUMBER (document 02, §7).
-- Assumes nothing.
use Rattle.std.specs.Prelude.{Bool, true, false, List, [], ◌∷◌, ℕ}
use Rattle.refusal.specs.Rows.{pick}
use Rattle.chars.specs.Runs.{same}
use Rattle.sheet.specs.Lines.{Line}

-- whether lines have one with a keyword, and the value of the first, empty where there is none
unfoldable pub has_line : List Line → List ℕ → Bool
has_line [] key = false
has_line (l ∷ ls) key = pick (same l.key key) true (has_line ls key)

unfoldable pub value_of_line : List Line → List ℕ → List ℕ
value_of_line [] key = []
value_of_line (l ∷ ls) key = pick (same l.key key) l.value (value_of_line ls key)
