-- What never is a double or a location: a text with any byte but blanks and those of numbers. So a comma is refused
-- there too, wherever it stands.
-- Assumes nothing.
use Rattle.std.specs.Prelude.{◌≡◌, Bool, ◌||◌, List, [], ◌∷◌, ◌++◌, ℕ, Err}
use Rattle.chars.specs.Chars.{blank}
use Rattle.front_bytes.specs.Run.{All}
use Rattle.decimal.specs.Marks.{mark, comma}
use Rattle.refusal.specs.declared.Rule.TheVariants.{NoNumber}
use Rattle.refusal.specs.declared.Part.TheVariants.{File}
use Rattle.refusal.specs.Table.{refusal}
use Rattle.double.specs.Double.{on_number, double_of}
use Rattle.location.specs.Values.{Value}

-- a comma is in no double
pub comma_double : (before after : List ℕ) → double_of (before ++ 44 ∷ after) ≡ Err (refusal NoNumber File 0)
unfolding double_of on_number
comma_double before after = rw (comma before after)

abbrev pub spot : ℕ → Bool
spot b = mark b || blank b

-- every value is a number's bytes
abbrev pub Marked : List Value → Type 0
Marked [] = Unit {0}
Marked (v ∷ vs) = All mark v.1 × Marked vs
