-- The strings of a sheet are those of its lines: each line before the first NOTE is a string with the line's own
-- keyword and value, and the NOTE lines at the end are one string, whose value, read by its terminators, is those lines
-- again.
-- Assumes nothing.
use Rattle.std.specs.Prelude.{◌≡◌, refl, Bool, true, false, List, [], ◌∷◌, ◌++◌, ℕ, length}
use Rattle.std.proofs.Common.{ap}
use Rattle.chars.specs.Chars.{note}
use Rattle.chars.specs.Runs.{same, same_eq, same_refl}
use Rattle.note.specs.Note as Note
use Rattle.note.specs.Note.{with_ends, LineEnd}
use Rattle.note.proofs.Note.{lines_once}
use Rattle.strings.specs.Spelled.{Str}
use Rattle.sheet.specs.Lines.{Line}
use Rattle.sheet.specs.Area.{str_of, values, note_of, joined}
use Rattle.sheet.specs.Paper.{GoodLines}
use Rattle.sheet_string.specs.StringBytes.{note_next}
use Rattle.area.specs.Spelling.{values_characters}

-- ---- before the first NOTE, and from it on

abbrev pub strs_of : List Line → List Str
strs_of [] = []
strs_of (l ∷ ls) = str_of l ∷ strs_of ls

-- no line, no string; else one
abbrev pub note_str : List ℕ → List Line → List Str
note_str u [] = []
note_str u (l ∷ ls) = note_of u (l ∷ ls) ∷ []

abbrev pub NoNote : List Line → Type 0
NoNote [] = Unit {0}
NoNote (l ∷ ls) = (same l.key note ≡ false) × NoNote ls

abbrev pub AllNote : List Line → Type 0
AllNote [] = Unit {0}
AllNote (l ∷ ls) = (l.key ≡ note) × AllNote ls

all_note : (prev : List ℕ) (ls : List Line) → same prev note ≡ true → GoodLines prev ls → AllNote ls
all_note prev [] n g = tt
all_note prev (l ∷ ls) n g =
    let k = note_next n g.0 in
    (k, all_note l.key ls (rw k (same_refl note)) g.1)

pub record NoteParted (u : List ℕ) (ls : List Line) : Type 0 where
  pub before : List Line
  pub notes : List Line
  pub whole : ls ≡ before ++ notes
  pub free : NoNote before
  pub last : AllNote notes
  pub strings : joined u ls ≡ strs_of before ++ note_str u notes

parts_from : (u prev : List ℕ) (ls : List Line) → GoodLines prev ls → NoteParted u ls
unfolding joined
parts_from u prev [] g = record { before = []; notes = []; whole = refl; free = tt; last = tt; strings = refl }
parts_from u prev (l ∷ ls) g = go (same l.key note) refl (parts_from u l.key ls g.1)
  where
    go : (w : Bool) → same l.key note ≡ w → NoteParted u ls → NoteParted u (l ∷ ls)
    go true e p =
        record {
          before = [];
          notes = l ∷ ls;
          whole = refl;
          free = tt;
          last = (same_eq l.key note e, all_note l.key ls e g.1);
          strings = rw e;
        }
    go false e p =
        record {
          before = l ∷ p.before;
          notes = p.notes;
          whole = ap (λ (x : List Line). l ∷ x) p.whole;
          free = (e, p.free);
          last = p.last;
          strings = rw e (ap (λ (x : List Str). str_of l ∷ x) p.strings);
        }

-- the strings of good lines
pub lines_parted : (u : List ℕ) (ls : List Line) → GoodLines [] ls → NoteParted u ls
lines_parted u ls g = parts_from u [] ls g

-- ---- a NOTE's value, read by its line terminators, is its lines

pub note_lines_back : (u prev : List ℕ) (l : Line) (ls : List Line) → LineEnd u → GoodLines prev (l ∷ ls)
    → Note.lines_of (length (note_of u (l ∷ ls)).value) u (note_of u (l ∷ ls)).value ≡ values (l ∷ ls)
note_lines_back u prev l ls e g =
    lines_once u (with_ends u (values (l ∷ ls))) l.value (values ls) e (values_characters prev (l ∷ ls) g) refl
