-- The terminators of strings and of lines (document 01, "The file block" and row 6). f is the image, the bytes that are
-- the file, or no more than its first 32.
-- Assumes nothing.
use Rattle.std.specs.Prelude.{Bool, not, ◌&&◌, ◌||◌, List, ℕ, ◌+◌, get_or, eqb}
use Rattle.word.specs.Part.{part}
use Rattle.chars.specs.Chars.{control}
use Rattle.chars.specs.Runs.{all}

-- "8 length of the string terminator with characters in 9-10, 11 length of the line terminator with characters in
-- 12-13": the one whose length stands at a place. The unused second byte of a one-byte terminator is ignored
unfoldable pub terminator_at : List ℕ → ℕ → List ℕ
terminator_at f at = part (at + 1) (at + 1 + get_or f at 0) f

-- from where to where its characters stand
abbrev pub terminator_span : List ℕ → ℕ → ℕ × ℕ
terminator_span f at = (at + 1, at + 1 + get_or f at 0)

abbrev pub string_end : List ℕ → List ℕ
string_end f = terminator_at f 8

abbrev pub line_end : List ℕ → List ℕ
line_end f = terminator_at f 11

-- "each terminator's length is 1 or 2 (any other is bad)", and its characters are a terminator's
unfoldable pub good_terminator : List ℕ → ℕ → Bool
good_terminator f at = (eqb (get_or f at 0) 1 || eqb (get_or f at 0) 2) && all control (terminator_at f at)

-- "and the two share no character"
abbrev pub lacks : List ℕ → ℕ → Bool
lacks u b = all (λ x. not (eqb x b)) u

unfoldable pub apart : List ℕ → List ℕ → Bool
apart t u = all (lacks u) t

-- a line terminator that may not be used beside a good string terminator
abbrev pub bad_lines : List ℕ → Bool
bad_lines f = not (good_terminator f 11) || not (apart (string_end f) (line_end f))
