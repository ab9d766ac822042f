-- The strings that a listing prints are those that the format's own words give the part: the list that its bytes spell.
-- Assumes nothing.
use Rattle.std.specs.Prelude.{◌≡◌, List, ℕ, ◌≤◌, length}
use Rattle.text.specs.declared.Manner.TheVariants.{Strict}
use Rattle.word.specs.Part.{part}
use Rattle.strings.specs.Spelled.{Str, Spells}
use Rattle.strings.proofs.Paper.{spelled_places}
use Rattle.head_words.specs.HeadWords.{high_first}
use Rattle.terminators.specs.Terminators.{string_end, line_end}
use Rattle.file_lines.specs.FileLines.{strings_in}

pub printed : (f : List ℕ) (a e : ℕ) (ss : List Str) → a ≤ e → e ≤ length f → Spells Strict (high_first f) (string_end f) (line_end f) ss (part a e f)
    → strings_in f a e ≡ ss
unfolding strings_in
printed f a e ss low fits s = spelled_places Strict f (string_end f) (line_end f) (high_first f) a e ss low fits s
