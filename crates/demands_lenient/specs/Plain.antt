-- The rules of the lenient reading in plain words (document 02 §11: "it takes lower-case keyword letters as upper case,
-- accepts any order and repeats, and ends a list where no byte of the area is left"), without the manner of reading, and
-- that what `Spells` asks in the lenient manner is just this. Rules out a manner that forgives more or less than the text.
-- Assumes nothing.
use Rattle.std.specs.Prelude.{◌≡◌, Bool, true, List, [], ◌∷◌, ◌⊎◌, ℕ, ◌+◌, ◌≤◌, ◌<◌, length}
use Rattle.chars.specs.Chars.{blank, note}
use Rattle.chars.specs.Runs.{all, Stops}
use Rattle.note.specs.Note.{Characters, Lines}
use Rattle.strings.specs.Spelled.{Str, size_of, texts, marked_end}

-- a byte that may stand in a keyword: 33 to 126, so the lower-case letters too
abbrev pub KeyByte : ℕ → Type 0
KeyByte b = (33 ≤ b) × (b ≤ 126)

abbrev pub Each : (ℕ → Type 0) → List ℕ → Type 0
Each P [] = Unit {0}
Each P (b ∷ bs) = P b × Each P bs

-- a keyword that is the word k (of upper-case letters), each letter in upper or in lower case
abbrev pub AnyCase : List ℕ → List ℕ → Type 0
AnyCase [] [] = Unit {0}
AnyCase [] (c ∷ cs) = ⊥
AnyCase (b ∷ bs) [] = ⊥
AnyCase (b ∷ bs) (c ∷ cs) = ((c ≡ b) ⊎ (c ≡ b + 32)) × AnyCase bs cs

-- a string, as `GoodString` has it but for its keyword
pub record OldString (t u : List ℕ) (s : Str) : Type 0 where
  pub some : 0 < length s.key
  pub keys : Each KeyByte s.key
  pub blanks : all blank s.gap ≡ true
  pub starts : Stops blank s.value
  pub apart : s.gap ≡ [] → s.value ≡ []
  pub values : (AnyCase note s.key → ⊥) → Characters s.value
  pub lines : AnyCase note s.key → Lines u s.value
  pub small : size_of t s < 65536

-- in any order, each as often as it likes
abbrev pub AllOld : List ℕ → List ℕ → List Str → Type 0
AllOld t u [] = Unit {0}
AllOld t u (s ∷ ss) = OldString t u s × AllOld t u ss

-- these bytes are this list of strings: no bytes and no strings, or one string behind the other and then the end mark and
-- whatever follows, or no byte at all
pub data OldSpells (high : Bool) (t u : List ℕ) : List Str → List ℕ → Type 0 where
  nothing : OldSpells high t u [] []
  marked : {ss : List Str} (rest : List ℕ) → AllOld t u ss → OldSpells high t u ss (texts high t ss (marked_end high rest))
  unmarked : {ss : List Str} → AllOld t u ss → OldSpells high t u ss (texts high t ss [])

-- a letter that counts as one of A to Z is that letter, or the small one
abbrev pub Capital : ℕ → Type 0
Capital b = (65 ≤ b) × (b ≤ 90)
