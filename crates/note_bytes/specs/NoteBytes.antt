-- A terminator of one byte, or of two that differ, without a walk: a byte, and for two the byte before it, tells. That
-- this is what a NOTE may hold is note/Note `lines_one`, `lines_two`.
-- Assumes nothing.
use Rattle.std.specs.Prelude.{◌≡◌, Bool, not, ◌&&◌, ◌||◌, List, [], ◌∷◌, ℕ, ◌+◌, ◌≤◌, ◌<◌, length, get_or, drop, eqb}
use Rattle.std.proofs.Math.Path.{refl}
use Rattle.std.proofs.Math.Bool.{true, false}
use Rattle.refusal.specs.Rows.{pick}
use Rattle.chars.specs.Chars.{value_char}
use Rattle.chars.specs.Runs.{more, none}

-- a value character or the byte x
abbrev pub value_or : ℕ → ℕ → Bool
value_or x b = value_char b || eqb b x

-- value characters, and each a with b behind it: p says that an a stands before the list
unfoldable pub paired : ℕ → ℕ → Bool → List ℕ → Bool
paired a b p [] = not p
paired a b p (c ∷ cs) = pick p (eqb c b) (value_char c || eqb c a) && paired a b (eqb c a) cs

pub rest : (v r : Bool) → ((v || false) && r) ≡ (v && r)
rest true r = refl
rest false r = refl

-- a turn of the loop for two bytes, and its end: w is what was found before
module _ (a b : ℕ) (s : List ℕ) (i : ℕ) where
  pub paired_turn : (w p : Bool) → i < length s
      → ((w && ((p && eqb (get_or s i 0) b) || (not p && (value_char (get_or s i 0) || eqb (get_or s i 0) a)))) && paired a b (eqb (get_or s i 0) a) (drop (i + 1) s))
      ≡ (w && paired a b p (drop i s))
  unfolding paired
  paired_turn false p h = refl
  paired_turn true false h = rw (more s i h)
  paired_turn true true h = rw (more s i h) (rest (eqb (get_or s i 0) b) _)

  pub paired_through : (w p : Bool) → length s ≤ i → (w && not p) ≡ (w && paired a b p (drop i s))
  unfolding paired
  paired_through w p h = rw (none s i h)
