-- The value of a NOTE: "in NOTE also whole line terminators, matched from the left" (document 01, "Strings"). u is the
-- line terminator.
-- Assumes nothing.
use Rattle.std.specs.Prelude.{◌≡◌, refl, Bool, true, false, not, ◌&&◌, ◌||◌, List, [], ◌∷◌, ◌++◌, ℕ, zero, suc, ◌+◌, ◌-◌, ◌≤◌, ◌<◌, length, get_or, take, drop, leb, eqb}
use Rattle.std.proofs.Common.{sym, ap, ◌∙◌, append-nil, arith, length-drop, le-leb}
use Rattle.std.proofs.lemmas.Bool.{not-true}
use Rattle.word.specs.Tests.{both, never}
use Rattle.refusal.specs.Rows.{pick}
use Rattle.chars.specs.Chars.{note, value_char, control, control_no_value}
use Rattle.chars.specs.Runs.{same, all, more, none}
use Rattle.note_line.specs.NoteLine.{starts, line_len, starts_other}
use Rattle.note_bytes.specs.NoteBytes.{value_or}

-- value characters and whole line terminators: k bytes of a terminator are still to be passed over
unfoldable pub lines : List ℕ → ℕ → List ℕ → Bool
lines u k [] = true
lines u zero (b ∷ bs) = pick (starts u (b ∷ bs)) (lines u (length u - 1) bs) (value_char b && lines u 0 bs)
lines u (suc k) (b ∷ bs) = lines u k bs

-- what a value may be: in a NOTE it has lines
unfoldable pub value_ok : List ℕ → List ℕ → List ℕ → Bool
value_ok u k v = pick (same k note) (lines u 0 v) (all value_char v)

-- the lines of a value, an empty one too: what stands between its terminators. The number bounds how many there are;
-- the length of v is enough
unfoldable pub lines_of : ℕ → List ℕ → List ℕ → List (List ℕ)
lines_of zero u v = v ∷ []
lines_of (suc m) u v =
    pick (leb (length v) (line_len u v)) (v ∷ []) (take (line_len u v) v ∷ lines_of m u (drop (line_len u v + length u) v))

-- lines, with a terminator between each two
unfoldable pub with_ends : List ℕ → List (List ℕ) → List ℕ
with_ends u [] = []
with_ends u (l ∷ []) = l
with_ends u (l ∷ m ∷ ls) = l ++ (u ++ with_ends u (m ∷ ls))

-- every line
abbrev pub Each : (List ℕ → Type 0) → List (List ℕ) → Type 0
Each P [] = Unit {0}
Each P (l ∷ ls) = P l × Each P ls

-- value characters alone
abbrev pub Characters : List ℕ → Type 0
Characters l = all value_char l ≡ true

-- u begins nowhere in a line
abbrev pub Lacks : List ℕ → List ℕ → Type 0
Lacks u l = (i : ℕ) → starts u (drop i l) ≡ false

-- row 6 leaves a terminator one or two characters, 0 to 31 and no tab; of that only this is needed: it starts with a
-- byte that no value has
abbrev pub LineEnd : List ℕ → Type 0
LineEnd u = (0 < length u) × (value_char (get_or u 0 0) ≡ false)

pub control_ends : (u : List ℕ) → 0 < length u → all control u ≡ true → LineEnd u
unfolding all
control_ends [] some h = absurd (omega arith)
control_ends (x ∷ u) some h = (some, control_no_value x (both (control x) (all control u) h).0)

-- ---- what a NOTE's value may be, without any order of reading: value characters and line terminators, in any order.
-- `lines` says the same
pub data Lines (u : List ℕ) : List ℕ → Type 0 where
  done : Lines u []
  char : {b : ℕ} {bs : List ℕ} → value_char b ≡ true → Lines u bs → Lines u (b ∷ bs)
  line : {bs : List ℕ} → Lines u bs → Lines u (u ++ bs)

before_lines : (u l r : List ℕ) → Characters l → Lines u r → Lines u (l ++ r)
unfolding all
before_lines u [] r h k = k
before_lines u (b ∷ l) r h k = let a = both (value_char b) (all value_char l) h in char a.0 (before_lines u l r a.1 k)

-- and whatever lines of value characters, with terminators between, are what a NOTE may be
pub characters_are_lines : (u l : List ℕ) (ls : List (List ℕ)) → Each Characters (l ∷ ls) → Lines u (with_ends u (l ∷ ls))
unfolding with_ends
characters_are_lines u l [] h = rw append-nil at (before_lines u l [] h.0 done)
characters_are_lines u l (m ∷ ls) h = before_lines u l (u ++ with_ends u (m ∷ ls)) h.0 (line (characters_are_lines u m ls h.1))

-- ---- a terminator of one byte, or of two that differ, without a walk (note_bytes/NoteBytes)

-- a terminator of one byte is that byte, wherever it stands
pub lines_one : (u s : List ℕ) → length u ≡ 1 → all (value_or (get_or u 0 0)) s ≡ lines u 0 s
unfolding lines starts same all
lines_one [] s h = absurd (omega arith)
lines_one (x ∷ y ∷ u) s h = absurd (omega arith)
lines_one (x ∷ []) s h = go s
  where
    turn : (w v r : Bool) → ((v || w) && r) ≡ pick (w && true) r (v && r)
    turn true true r = refl
    turn true false r = refl
    turn false true r = refl
    turn false false r = refl

    go : (s : List ℕ) → all (value_or x) s ≡ lines (x ∷ []) 0 s
    go [] = refl
    go (b ∷ bs) = rw (le-leb 1 (suc (length bs)) (omega arith), go bs) (turn (eqb b x) (value_char b) (lines (x ∷ []) 0 bs))

-- ---- turns of the walk
module _ (u s : List ℕ) (i : ℕ) (h : i < length s) where
  pub lines_char : starts u (drop i s) ≡ false → value_char (get_or s i 0) ≡ true → lines u 0 (drop (i + 1) s) ≡ lines u 0 (drop i s)
  unfolding lines
  lines_char q v = let r = rw (more s i h) at q in rw (more s i h, r, v)

  pub lines_apart : 0 < length u → (not (value_char (get_or u 0 0)) && value_char (get_or s i 0)) ≡ true → lines u 0 (drop (i + 1) s) ≡ lines u 0 (drop i s)
  lines_apart some q =
      let a = both (not (value_char (get_or u 0 0))) (value_char (get_or s i 0)) q in
      let n : get_or s i 0 ≡ get_or u 0 0 → ⊥ = λ (e : get_or s i 0 ≡ get_or u 0 0). differ (not-true (value_char (get_or u 0 0)) a.0) (ap value_char (sym e) ∙ a.1) in
      lines_char (sym (starts_other u (drop i s) some (more_than i s h) (rw (more s i h) n))) a.1
    where
      differ : {w : Bool} → w ≡ false → w ≡ true → ⊥
      differ e k = never (sym e ∙ k)

      more_than : (i : ℕ) (s : List ℕ) → i < length s → 0 < length (drop i s)
      more_than i s h = let l = length-drop i s in omega arith

  pub lines_bad : starts u (drop i s) ≡ false → value_char (get_or s i 0) ≡ false → false ≡ lines u 0 (drop i s)
  unfolding lines
  lines_bad q v = let r = rw (more s i h) at q in rw (more s i h, r, v)

pub lines_over : (u s : List ℕ) (i : ℕ) → length s ≤ i → true ≡ lines u 0 (drop i s)
unfolding lines
lines_over u s i h = rw (none s i h)
