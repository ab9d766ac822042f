-- The written area spells exactly the strings that the sheet means, in `strings`' sense, for every order and
-- terminators that a file can have; its size; and every list of good lines whose area is not too large is let through.
-- Assumes nothing.
use Rattle.std.specs.Prelude.{◌≡◌, refl, Bool, true, false, ◌||◌, List, [], ◌∷◌, ℕ, ◌%◌, ◌≤◌, ◌<◌, length, leb, ltb, eqb, Ok, Err}
use Rattle.std.proofs.Common.{arith, leb-true, ne_eqb, le-ltb, ltb-false}
use Rattle.word.specs.Tests.{both}
use Rattle.word.specs.Round.{round4}
use Rattle.refusal.specs.Verdicts.{asked, accepted}
use Rattle.refusal.specs.Rows.{pick}
use Rattle.refusal.specs.Table.{refusal}
use Rattle.refusal.specs.declared.Rule.TheVariants.{AreaSize}
use Rattle.refusal.specs.declared.Part.{Part}
use Rattle.refusal.specs.declared.Part.TheVariants.{File}
use Rattle.text.specs.declared.Manner.TheVariants.{Strict}
use Rattle.chars.specs.Chars.{blank, value_char, control, note, blank_value}
use Rattle.chars.specs.Runs.{all, same, same_eq, same_not, Stops, all_weaker}
use Rattle.note.specs.Note.{with_ends, Each, Characters, LineEnd, control_ends, characters_are_lines}
use Rattle.strings.specs.Strings as Strings
use Rattle.strings.proofs.Paper.{spelled_accepted}
use Rattle.strings.specs.Spelled.{GoodString, Rising, size_of, Ends.mark, Spells, Spells.full}
use Rattle.sheet_line.specs.SheetLine.{plain, spaced, continues}
use Rattle.sheet.specs.Lines.{Line, lines_verdict, sheet_lines}
use Rattle.sheet.specs.Area.{area_most, str_of, values, note_of, joined, sheet_strings, text_size, padding, area_of, area_size}
use Rattle.sheet.specs.Area.{sized, measured_of}
use Rattle.sheet.specs.Sizes.{length_area, text_size_low}
use Rattle.sheet.specs.Paper.{sheet_of, GoodLine, GoodLines, good_accepted, lines_read, accepted_lines}
use Rattle.refusal.specs.Verdicts.{Verdict}

-- ---- terminators (document 01, "The file block", house rule)

abbrev pub among : ℕ → List ℕ → Bool
among b [] = false
among b (c ∷ l) = eqb c b || among b l

-- "each terminator's length is 1 or 2 .. and the two share no character"
pub record Terminators (t u : List ℕ) : Type 0 where
  pub t_low : 1 ≤ length t
  pub t_high : length t ≤ 2
  pub u_low : 1 ≤ length u
  pub u_high : length u ≤ 2
  pub t_chars : all control t ≡ true
  pub u_chars : all control u ≡ true
  pub apart : (b : ℕ) → among b t ≡ true → among b u ≡ false

-- of all that only this is needed here: a line terminator starts with a byte that no value has
pub terminators_end : (t u : List ℕ) → Terminators t u → LineEnd u
terminators_end t u e = control_ends u (omega (arith, e.u_low)) e.u_chars

-- ---- characters

pub plain_value : (b : ℕ) → plain b ≡ true → value_char b ≡ true
plain_value b h = rw h

plain_characters : (v : List ℕ) → all plain v ≡ true → Characters v
plain_characters v h = all_weaker plain value_char plain_value v h

plain_blank : (b : ℕ) → plain b ≡ true → eqb b 32 ≡ false → blank b ≡ false
plain_blank b h s =
    let l = leb-true 32 b (both (leb 32 b) (leb b 126) h).0 in
    rw (s, ne_eqb b 9 (omega arith))

no_value_blank : (b : ℕ) → value_char b ≡ false → blank b ≡ false
no_value_blank b h = go (blank b) refl
  where
    go : (w : Bool) → blank b ≡ w → w ≡ false
    go true e = let k = blank_value b e in let z : ◌≡◌ {A = ℕ} 0 1 = cc in absurd (omega arith)
    go false e = refl

-- ---- the lines of a NOTE

-- the values of good lines are of value characters alone, as the lines of a NOTE are
pub values_characters : (prev : List ℕ) (ls : List Line) → GoodLines prev ls → Each Characters (values ls)
values_characters prev [] g = tt
values_characters prev (l ∷ ls) g = (plain_characters l.value g.0.plains, values_characters l.key ls g.1)

ends_open : (u v : List ℕ) (vs : List (List ℕ)) → LineEnd u → all plain v ≡ true → spaced v ≡ false → Stops blank (with_ends u (v ∷ vs))
unfolding with_ends all
ends_open [] v vs e h s = absurd (omega (arith, e.0))
ends_open (x ∷ u) [] [] e h s = tt
ends_open (x ∷ u) [] (w ∷ vs) e h s = no_value_blank x e.1
ends_open (x ∷ u) (b ∷ v) [] e h s = plain_blank b (both (plain b) (all plain v) h).0 s
ends_open (x ∷ u) (b ∷ v) (w ∷ vs) e h s = plain_blank b (both (plain b) (all plain v) h).0 s

value_open : (v : List ℕ) → all plain v ≡ true → spaced v ≡ false → Stops blank v
unfolding all
value_open [] h s = tt
value_open (b ∷ v) h s = plain_blank b (both (plain b) (all plain v) h).0 s

-- ---- good lines mean strings that may be written

-- a space parts a keyword from its value, so that it is no empty separator
one_space : (v : List ℕ) → ◌≡◌ {A = List ℕ} (32 ∷ []) [] → v ≡ []
one_space v e = let z : ◌≡◌ {A = ℕ} 0 1 = cc in absurd (omega arith)

str_good : (t u prev : List ℕ) (l : Line) → GoodLine prev l → same l.key note ≡ false → spaced l.value ≡ false → size_of t (str_of l) < 65536
    → GoodString Strict t u (str_of l)
unfolding all
str_good t u prev l g n s small =
    record {
      some = g.some;
      keys = g.keys;
      blanks = refl;
      starts = value_open l.value g.plains s;
      apart = one_space l.value;
      values = λ k. plain_characters l.value g.plains;
      lines = λ k. absurd (same_not l.key note n k);
      small = small;
    }

note_good : (t u prev : List ℕ) (l : Line) (ls : List Line) → LineEnd u → GoodLines prev (l ∷ ls) → spaced l.value ≡ false
    → size_of t (note_of u (l ∷ ls)) < 65536 → GoodString Strict t u (note_of u (l ∷ ls))
unfolding all
note_good t u prev l ls e g s small =
    record {
      some = omega arith;
      keys = refl;
      blanks = refl;
      starts = ends_open u l.value (values ls) e g.0.plains s;
      apart = one_space (with_ends u (values (l ∷ ls)));
      values = λ k. absurd (k refl);
      lines = λ k. characters_are_lines u l.value (values ls) (values_characters prev (l ∷ ls) g);
      small = small;
    }

lines_rise : (t u prev : List ℕ) (ls : List Line) → LineEnd u → same prev note ≡ false → GoodLines prev ls → text_size t (joined u ls) < 65536
    → Rising Strict t u prev (joined u ls)
unfolding joined text_size continues
lines_rise t u prev [] e n g h = tt
lines_rise t u prev (l ∷ ls) e n g h = go (same l.key note) refl h (lines_rise t u l.key ls e)
  where
    c : continues prev l.key ≡ false
    c = rw n

    go : (w : Bool) → same l.key note ≡ w → text_size t (pick w (note_of u (l ∷ ls) ∷ []) (str_of l ∷ joined u ls)) < 65536
        → (same l.key note ≡ false → GoodLines l.key ls → text_size t (joined u ls) < 65536 → Rising Strict t u l.key (joined u ls))
        → Rising Strict t u prev (pick w (note_of u (l ∷ ls) ∷ []) (str_of l ∷ joined u ls))
    go true q k i =
        let s = same_eq l.key note q in
        (note_good t u prev l ls e g (g.0.opens c) (omega arith), rw s at (g.0.follows c), tt)
    go false q k i =
        let low = text_size_low t (joined u ls) in
        (str_good t u prev l g.0 q (g.0.opens c) (omega arith), g.0.follows c, i q g.1 (omega arith))

-- ---- what an answer of a size has shown

pub measured_size : (t u s : List ℕ) (n : ℕ) → measured_of t u s ≡ Ok n → (lines_verdict s ≡ accepted) × (area_size t u s ≡ n) × (n ≤ area_most)
unfolding measured_of
measured_size t u s n e = go (lines_verdict s) refl e
  where
    sizes : (w : Bool) → ltb area_most (area_size t u s) ≡ w → pick w (Err (refusal AreaSize File 0)) (Ok (area_size t u s)) ≡ Ok n
        → (area_size t u s ≡ n) × (n ≤ area_most)
    sizes true q k = let z : ◌≡◌ {A = ℕ} 0 1 = cc in absurd (omega arith)
    sizes false q k =
        let a : area_size t u s ≡ n = cc in
        let l = ltb-false area_most (area_size t u s) q in
        (a, omega arith)

    go : (v : Verdict) → lines_verdict s ≡ v → asked Err v (sized (area_size t u s)) ≡ Ok n → (lines_verdict s ≡ accepted)
        × (area_size t u s ≡ n) × (n ≤ area_most)
    go (Ok _) q k = let b = sizes (ltb area_most (area_size t u s)) refl k in (q, b.0, b.1)
    go (Err r) q k = let z : ◌≡◌ {A = ℕ} 0 1 = cc in absurd (omega arith)

-- ---- the theorems

-- an area is a multiple of 4, at least 4 and at most 65,500 bytes long
pub area_bounds : (high : Bool) (t u s : List ℕ) (n : ℕ) → measured_of t u s ≡ Ok n
    → (length (area_of high t u s) ≡ n) × (n % 4 ≡ 0) × (4 ≤ n) × (n ≤ area_most)
unfolding area_size
area_bounds high t u s n e =
    let b = measured_size t u s n e in
    let a : round4 (text_size t (sheet_strings u s)) ≡ n = b.1 in
    let l = length_area high t u s in
    let low = text_size_low t (sheet_strings u s) in
    (omega arith, omega arith, omega arith, b.2)

pub area_spells : (high : Bool) (t u s : List ℕ) (n : ℕ) → LineEnd u → measured_of t u s ≡ Ok n → Spells Strict high t u (sheet_strings u s) (area_of high t u s)
unfolding area_of area_size sheet_strings same
area_spells high t u s n e m =
    let b = measured_size t u s n m in
    let a : round4 (text_size t (joined u (sheet_lines s))) ≡ n = b.1 in
    let k : n ≤ area_most = b.2 in
    let g = (accepted_lines s b.0).1 in
    full (mark (padding (text_size t (joined u (sheet_lines s))))) (lines_rise t u [] (sheet_lines s) e refl g (omega arith))

-- so in a file with these terminators `strings`' check accepts the area, wherever it stands
pub area_accepted : (high : Bool) (t u s : List ℕ) (n : ℕ) (p : Part) (at : ℕ) → Terminators t u → measured_of t u s ≡ Ok n
    → Strings.strings_of Strict high t u p (area_of high t u s) at ≡ accepted
area_accepted high t u s n p at e m =
    let ends = terminators_end t u e in
    spelled_accepted Strict p at ends (area_spells high t u s n ends m)

-- every list of good lines whose area is not too large is let through, and means the strings of those lines
pub good_measured : (t u : List ℕ) (ls : List Line) → GoodLines [] ls → round4 (text_size t (joined u ls)) ≤ area_most
    → (measured_of t u (sheet_of ls) ≡ Ok (round4 (text_size t (joined u ls)))) × (sheet_strings u (sheet_of ls) ≡ joined u ls)
unfolding measured_of area_size sheet_strings
good_measured t u ls g h =
    let l : sheet_lines (sheet_of ls) ≡ ls = lines_read [] ls g in
    (rw (good_accepted ls g, l, le-ltb area_most (round4 (text_size t (joined u ls))) h), rw l)
