-- Demand 2, the lines of a NOTE: "in NOTE also whole line terminators, matched from the left"; "each NOTE line (a part
-- between line terminators, also an empty one)" (document 01, "Strings" and "Worked values"). For the NOTE of any
-- accepted file, ours or another maker's.
-- Assumes nothing.
use Rattle.std.specs.Prelude.{◌≡◌, Bool, List, [], ◌∷◌, ℕ, zero, suc, ◌<◌, ℤ, length, take}
use Rattle.std.proofs.Common.{arith}
use Rattle.head_limits.specs.declared.Purpose.TheVariants.{Read}
use Rattle.text.specs.declared.Manner.TheVariants.{Strict}
use Rattle.chars.specs.Chars.{note}
use Rattle.note.specs.Note.{lines_of, with_ends, Each, Characters, Lacks, LineEnd, Lines}
use Rattle.note.proofs.Note.{lines_back}
use Rattle.note.proofs.Note.{no_line_holds_an_end, lines_are_of_characters, lines_once}
use Rattle.strings.specs.Spelled.{Str, nth_str, GoodString, Rising, Spells, Spells.empty, Spells.full}
use Rattle.terminators.specs.Terminators.{line_end}
use Rattle.terminators.specs.TerminatorLaws.{good_ends}
use Rattle.image.specs.Image.{check_of}
use Rattle.image.specs.Accepted.{image_headed}
use Rattle.reader.specs.Listed.{Lists}
use Rattle.reader.specs.Reach.{checked}
use Rattle.refusal.specs.Verdicts.{accepted}

-- each string of a list that is spelled may be written
rising_good : (t u prev : List ℕ) (ss : List Str) (i : ℕ) → Rising Strict t u prev ss → i < length ss → GoodString Strict t u (nth_str ss i)
rising_good t u prev [] i r l = absurd (omega arith)
rising_good t u prev (s ∷ ss) zero r l = r.0
rising_good t u prev (s ∷ ss) (suc i) r l = rising_good t u s.key ss i r.2 (omega arith)

spelled_good : {high : Bool} {t u l : List ℕ} (ss : List Str) (i : ℕ) → Spells Strict high t u ss l → i < length ss → GoodString Strict t u (nth_str ss i)
spelled_good {high = high} {t = t} {u = u} ss i given low = go ss _ given low
  where
    go : (ss : List Str) (l : List ℕ) → Spells Strict high t u ss l → i < length ss → GoodString Strict t u (nth_str ss i)
    go ss l empty low = absurd (omega arith)
    go ss l (full rest r) low = rising_good t u [] ss i r low

-- Rules out a reading of a NOTE that gives one line which holds everything, loses a line or an empty one, or cuts a
-- line in two.
pub note_is_its_lines : (xs : List ℕ) (n : ℕ) (z : ℤ) (ss : List Str) → check_of Strict Read xs n ≡ accepted → Lists Strict (take n xs) z ss
    → (i : ℕ) → i < length ss → (nth_str ss i).key ≡ note
    → (u v : List ℕ) → u ≡ line_end (take n xs) → v ≡ (nth_str ss i).value
    -- value characters and whole line terminators, in any order
    → Lines u v
    -- with the terminators between them the lines are the value, no line holds a terminator, each is of value
    -- characters
    × (with_ends u (lines_of (length v) u v) ≡ v)
    × Each (Lacks u) (lines_of (length v) u v)
    × Each Characters (lines_of (length v) u v)
    -- and there are no others
    × ((l : List ℕ) (ls : List (List ℕ)) → Each Characters (l ∷ ls) → with_ends u (l ∷ ls) ≡ v → lines_of (length v) u v ≡ l ∷ ls)
note_is_its_lines xs n z ss ok s i low key u v eu ev =
    let f : List ℕ = take n xs in
    let c = checked Strict xs n ok in
    let e : LineEnd u = rw eu (good_ends f 11 (omega (arith, c.least, c.size)) (image_headed Strict Read f c.image).lines) in
    let g : Lines u v = rw (eu, ev) ((spelled_good ss i s.spells low).lines key) in
    (g, lines_back (length v) u v, no_line_holds_an_end u v e.0, lines_are_of_characters u v e g, λ l ls h w. lines_once u v l ls e h w)
