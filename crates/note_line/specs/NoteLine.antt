-- The first line of a NOTE's value: up to a whole line terminator, or to the end (document 01, "Strings"). u is the line
-- terminator.
-- Assumes nothing.
use Rattle.std.specs.Prelude.{◌≡◌, refl, Bool, true, false, ◌&&◌, List, [], ◌∷◌, ◌++◌, ℕ, suc, ◌+◌, ◌≤◌, ◌<◌, length, get_or, take, drop, leb}
use Rattle.std.proofs.Common.{sym, ap, ◌∙◌, arith, length-append, take-append-drop, leb-true, le-leb, ne_eqb}
use Rattle.std.proofs.Math.Seq.{take-append_seam}
use Rattle.word.specs.Tests.{both, and_false}
use Rattle.refusal.specs.Rows.{pick}
use Rattle.chars.specs.Runs.{same, same_eq, same_refl, more, none}

-- the list begins with u
unfoldable pub starts : List ℕ → List ℕ → Bool
starts u l = leb (length u) (length l) && same (take (length u) l) u

-- the length of the first line: up to a terminator, or to the end
unfoldable pub line_len : List ℕ → List ℕ → ℕ
line_len u [] = 0
line_len u (b ∷ bs) = pick (starts u (b ∷ bs)) 0 (suc (line_len u bs))

-- ---- laws

-- a list that begins with u is u and what follows
pub starts_split : (u l : List ℕ) → starts u l ≡ true → l ≡ u ++ drop (length u) l
unfolding starts
starts_split u l h =
    let k = both (leb (length u) (length l)) (same (take (length u) l) u) h in
    sym (take-append-drop (length u) l) ∙ ap (λ (r : List ℕ). r ++ drop (length u) l) (same_eq (take (length u) l) u k.1)

pub starts_fits : (u l : List ℕ) → starts u l ≡ true → length u ≤ length l
unfolding starts
starts_fits u l h = leb-true (length u) (length l) (both (leb (length u) (length l)) (same (take (length u) l) u) h).0

-- the empty list begins every list; and the first bytes can tell that a list does not
pub starts_none : (u l : List ℕ) → length u ≡ 0 → true ≡ starts u l
unfolding starts same
starts_none [] [] h = refl
starts_none [] (b ∷ l) h = rw (le-leb 0 (suc (length l)) (omega arith))
starts_none (x ∷ u) l h = absurd (omega arith)

pub starts_other : (u l : List ℕ) → 0 < length u → 0 < length l → (get_or l 0 0 ≡ get_or u 0 0 → ⊥) → false ≡ starts u l
unfolding starts same
starts_other [] l h k n = absurd (omega arith)
starts_other (x ∷ u) [] h k n = absurd (omega arith)
starts_other (x ∷ u) (b ∷ l) h k n = rw (ne_eqb b x n) (sym (and_false (leb (suc (length u)) (suc (length l)))))

pub starts_front : (u r : List ℕ) → starts u (u ++ r) ≡ true
unfolding starts
starts_front u r = rw (le-leb (length u) (length (u ++ r)) (simp length-append (omega arith)), take-append_seam u r) (same_refl u)

pub line_len_le : (u v : List ℕ) → line_len u v ≤ length v
unfolding line_len
line_len_le u [] = omega arith
line_len_le u (b ∷ bs) = go (starts u (b ∷ bs)) (line_len_le u bs)
  where
    go : (w : Bool) → line_len u bs ≤ length bs → pick w 0 (suc (line_len u bs)) ≤ suc (length bs)
    go true h = omega arith
    go false h = omega arith

-- a line that ends before the value does ends at a whole terminator
pub line_ends : (u v : List ℕ) → line_len u v < length v → starts u (drop (line_len u v) v) ≡ true
unfolding line_len
line_ends u [] h = absurd (omega arith)
line_ends u (b ∷ bs) h = go (starts u (b ∷ bs)) refl (line_ends u bs) h
  where
    go : (w : Bool) → starts u (b ∷ bs) ≡ w → (line_len u bs < length bs → starts u (drop (line_len u bs) bs) ≡ true)
        → pick w 0 (suc (line_len u bs)) < suc (length bs) → starts u (drop (pick w 0 (suc (line_len u bs))) (b ∷ bs)) ≡ true
    go true e i k = e
    go false e i k = i (omega arith)

-- ---- turns of the loop
module _ (u s : List ℕ) (i : ℕ) (h : i < length s) where
  pub line_here : starts u (drop i s) ≡ true → i ≡ i + line_len u (drop i s)
  unfolding line_len
  line_here q = let r = rw (more s i h) at q in rw (more s i h, r) (omega arith)

  pub line_on : starts u (drop i s) ≡ false → i + 1 + line_len u (drop (i + 1) s) ≡ i + line_len u (drop i s)
  unfolding line_len
  line_on q = let r = rw (more s i h) at q in rw (more s i h, r) (omega arith)

pub line_over : (u s : List ℕ) (i : ℕ) → length s ≤ i → i ≡ i + line_len u (drop i s)
unfolding line_len
line_over u s i h = rw (none s i h) (omega arith)
