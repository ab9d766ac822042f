-- The bytes read of a trace's strings, said of the list that they spell: "its strings in order only until the keyword is
-- found or passed (that string is read whole and checked); NOTE is sought to the end" (document 02 §5), or up to the i-th,
-- or all. Read has it as the walk goes; here it is the sizes of the strings up to the first that ends the walk.
-- Assumes nothing.
use Rattle.std.specs.Prelude.{List, [], ◌∷◌, ℕ, ◌+◌}
use Rattle.strings.specs.Spelled.{Str, size_of}
use Rattle.until.specs.declared.Turn.{Turn}
use Rattle.until.specs.Until.{on_turn}

-- the bytes of each string, j standing before it, and none behind that which ends the walk; where none does, all of them and
-- the two bytes of the end mark
unfoldable pub list_read : (ℕ → List ℕ → Turn) → List ℕ → ℕ → List Str → ℕ
list_read look t j [] = 2
list_read look t j (s ∷ ss) = size_of t s + on_turn (look j s.key) 0 0 (list_read look t (j + 1) ss)
