-- The strings of an area without any order of checking: which bytes a list of strings is written as (document 01,
-- "Strings"; paper, III.C).
-- Assumes nothing.
use Rattle.std.specs.Prelude.{◌≡◌, Bool, true, false, List, [], ◌∷◌, ◌++◌, ℕ, zero, suc, ◌+◌, ◌<◌, length}
use Rattle.word.specs.Part.{part}
use Rattle.word.specs.Word.{bytes_of}
use Rattle.refusal.specs.Rows.{pick}
use Rattle.strings.specs.declared.Place.{Place}
use Rattle.text.specs.declared.Manner.{Manner}
use Rattle.chars.specs.Chars.{blank, note}
use Rattle.chars.specs.Runs.{all, same, Stops}
use Rattle.note.specs.Note.{Characters, Lines}
use Rattle.text.specs.Manner.{open_end, letter, named, follows}
use Rattle.strings.specs.Strings.{key_in, value_in}

-- a keyword, the separators after it, and the value
pub record Str : Type 0 where
  pub key : List ℕ
  pub gap : List ℕ
  pub value : List ℕ

abbrev pub text_of : Str → List ℕ
text_of s = s.key ++ (s.gap ++ s.value)

-- the offset, the text and the terminator
abbrev pub size_of : List ℕ → Str → ℕ
size_of t s = 2 + length (text_of s) + length t

-- a string that may be written, `how` being the manner of reading. Its value "uses 32 to 126 and tab, in NOTE also
-- whole line terminators", in any order
pub record GoodString (how : Manner) (t u : List ℕ) (s : Str) : Type 0 where
  pub some : 0 < length s.key
  pub keys : all (letter how) s.key ≡ true
  pub blanks : all blank s.gap ≡ true
  pub starts : Stops blank s.value
  pub apart : s.gap ≡ [] → s.value ≡ []
  pub values : (named how s.key ≡ note → ⊥) → Characters s.value
  pub lines : named how s.key ≡ note → Lines u s.value
  pub small : size_of t s < 65536

-- each may be written, and each keyword may follow the one before
abbrev pub Rising : Manner → List ℕ → List ℕ → List ℕ → List Str → Type 0
Rising how t u prev [] = Unit {0}
Rising how t u prev (s ∷ ss) = GoodString how t u s × (follows how prev s.key ≡ true) × Rising how t u s.key ss

-- the bytes of a list of strings: of each its size, its text and the terminator; then what ends the list
unfoldable pub texts : Bool → List ℕ → List Str → List ℕ → List ℕ
texts high t [] end = end
texts high t (s ∷ ss) end = bytes_of 2 high (size_of t s) ++ (text_of s ++ (t ++ texts high t ss end))

-- the end mark 0 and whatever follows
abbrev pub marked_end : Bool → List ℕ → List ℕ
marked_end high rest = bytes_of 2 high 0 ++ rest

abbrev pub written : Bool → List ℕ → List Str → List ℕ → List ℕ
written high t ss rest = texts high t ss (marked_end high rest)

-- what may end a list: the mark, or no byte where the manner of reading lets it
pub data Ends (how : Manner) (high : Bool) : List ℕ → Type 0 where
  mark : (rest : List ℕ) → Ends how high (marked_end high rest)
  none : open_end how ≡ true → Ends how high []

-- these bytes spell this list of strings: both are empty, or the bytes are written from the list
pub data Spells (how : Manner) (high : Bool) (t u : List ℕ) : List Str → List ℕ → Type 0 where
  empty : Spells how high t u [] []
  full : {ss : List Str} {end : List ℕ} → Ends how high end → Rising how t u [] ss → Spells how high t u ss (texts high t ss end)

-- ---- questions on a list of strings

-- the i-th string, and where there is none an empty one
abbrev pub nothing : Str
nothing = record { key = []; gap = []; value = [] }

abbrev pub nth_str : List Str → ℕ → Str
nth_str [] i = nothing
nth_str (s ∷ ss) zero = s
nth_str (s ∷ ss) (suc i) = nth_str ss i

-- the value of a keyword, empty where there is none
unfoldable pub value_of_key : Manner → List Str → List ℕ → List ℕ
value_of_key how [] key = []
value_of_key how (s ∷ ss) key = pick (same (named how s.key) key) s.value (value_of_key how ss key)

-- whether a keyword is there
unfoldable pub has_key : Manner → List Str → List ℕ → Bool
has_key how [] key = false
has_key how (s ∷ ss) key = pick (same (named how s.key) key) true (has_key how ss key)

-- the string that stands at a place of f
abbrev pub str_in : List ℕ → Place → Str
str_in f s = record { key = key_in f s; gap = part s.gap s.value f; value = value_in f s }

abbrev pub strs_in : List ℕ → List Place → List Str
strs_in f [] = []
strs_in f (s ∷ ss) = str_in f s ∷ strs_in f ss
