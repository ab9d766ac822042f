-- The order of keywords: "Keywords strictly rise in byte order, a prefix first; NOTE comes after all others, once at
-- most" (document 01, "Strings"); "RECEIVER_GEOMETRY and SOURCE_GEOMETRY may stand several times running, in files and
-- in sheets; all others still rise strictly" (document 02, §1). Everything that asks for the order asks `rises`, by its
-- laws.
-- Assumes nothing.
use Rattle.std.specs.Prelude.{◌≡◌, refl, Bool, true, false, ◌&&◌, ◌||◌, List, [], ◌∷◌, ◌↔◌, ◌⊎◌, ℕ, ◌+◌, ◌≤◌, ◌<◌, length, get_or, drop, ltb}
use Rattle.std.proofs.Common.{sym, ◌∙◌, inl, inr, ⊎_elim, arith}
use borrow.Author.Tests.{ltb-true, ltb-false, lt-ltb, le-ltb}
use Rattle.word.specs.Tests.{never}
use Rattle.refusal.specs.Rows.{pick}
use Rattle.chars.specs.Chars.{note}
use Rattle.chars.specs.Runs.{same, same_eq, same_refl, more, none}

-- byte order, a prefix first
unfoldable pub less : List ℕ → List ℕ → Bool
less [] [] = false
less [] (y ∷ ys) = true
less (x ∷ xs) [] = false
less (x ∷ xs) (y ∷ ys) = pick (ltb x y) true (pick (ltb y x) false (less xs ys))

-- whether the keyword p comes before the keyword k: byte order, and NOTE after all others
unfoldable pub before : List ℕ → List ℕ → Bool
before p k = pick (same p note) false (pick (same k note) true (less p k))

-- RECEIVER_GEOMETRY
abbrev pub receiver_geometry : List ℕ
receiver_geometry = 82 ∷ 69 ∷ 67 ∷ 69 ∷ 73 ∷ 86 ∷ 69 ∷ 82 ∷ 95 ∷ 71 ∷ 69 ∷ 79 ∷ 77 ∷ 69 ∷ 84 ∷ 82 ∷ 89 ∷ []

-- SOURCE_GEOMETRY
abbrev pub source_geometry : List ℕ
source_geometry = 83 ∷ 79 ∷ 85 ∷ 82 ∷ 67 ∷ 69 ∷ 95 ∷ 71 ∷ 69 ∷ 79 ∷ 77 ∷ 69 ∷ 84 ∷ 82 ∷ 89 ∷ []

-- whether the keyword k "may stand several times running"
unfoldable pub repeats : List ℕ → Bool
repeats k = same k receiver_geometry || same k source_geometry

-- whether the keyword k may follow the keyword p; the first keyword follows the empty one
unfoldable pub rises : List ℕ → List ℕ → Bool
rises p k = before p k || (same p k && repeats k)

-- ---- its laws

pub less_irreflexive : (k : List ℕ) → less k k ≡ false
unfolding less
less_irreflexive [] = refl
less_irreflexive (x ∷ xs) = rw (le-ltb x x (omega arith)) (less_irreflexive xs)

-- a step of byte order at one byte: lower, or equal and the rest lower
less_cons : (x y : ℕ) (xs ys : List ℕ) → less (x ∷ xs) (y ∷ ys) ≡ true → (x ≤ y) × (y ≤ x → less xs ys ≡ true)
unfolding less
less_cons x y xs ys h = go (ltb x y) (ltb y x) refl refl h
  where
    go : (v w : Bool) → ltb x y ≡ v → ltb y x ≡ w → pick v true (pick w false (less xs ys)) ≡ true → (x ≤ y) × (y ≤ x → less xs ys ≡ true)
    go true w e f k = let l = ltb-true x y e in (omega arith, λ q. absurd (omega arith))
    go false true e f k = let z : ◌≡◌ {A = ℕ} 0 1 = cc in absurd (omega arith)
    go false false e f k = let a = ltb-false y x f in (a, λ q. k)

cons_less : (x y : ℕ) (xs ys : List ℕ) → x ≤ y → (y ≤ x → less xs ys ≡ true) → less (x ∷ xs) (y ∷ ys) ≡ true
unfolding less
cons_less x y xs ys l h = go (ltb x y) refl
  where
    go : (v : Bool) → ltb x y ≡ v → pick v true (pick (ltb y x) false (less xs ys)) ≡ true
    go true e = refl
    go false e = let m = ltb-false x y e in rw (le-ltb y x l) (h m)

pub less_transitive : (a b c : List ℕ) → less a b ≡ true → less b c ≡ true → less a c ≡ true
unfolding less
less_transitive [] [] c h k = let z : ◌≡◌ {A = ℕ} 0 1 = cc in absurd (omega arith)
less_transitive [] (y ∷ b) [] h k = let z : ◌≡◌ {A = ℕ} 0 1 = cc in absurd (omega arith)
less_transitive [] (y ∷ b) (z ∷ c) h k = refl
less_transitive (x ∷ a) [] c h k = let z : ◌≡◌ {A = ℕ} 0 1 = cc in absurd (omega arith)
less_transitive (x ∷ a) (y ∷ b) [] h k = let z : ◌≡◌ {A = ℕ} 0 1 = cc in absurd (omega arith)
less_transitive (x ∷ a) (y ∷ b) (z ∷ c) h k =
    let p = less_cons x y a b h in
    let q = less_cons y z b c k in
    let l : x ≤ y = p.0 in
    let m : y ≤ z = q.0 in
    cons_less x z a c (omega arith) (λ n. less_transitive a b c (p.1 (omega arith)) (q.1 (omega arith)))

-- the two may repeat, and no other
pub repeats_two : (k : List ℕ) → (repeats k ≡ true) ↔ ((k ≡ receiver_geometry) ⊎ (k ≡ source_geometry))
unfolding repeats same
repeats_two k = (λ h. go (same k receiver_geometry) refl h, ⊎_elim (λ e. rw e) (λ e. rw e))
  where
    go : (w : Bool) → same k receiver_geometry ≡ w → (w || same k source_geometry) ≡ true → (k ≡ receiver_geometry) ⊎ (k ≡ source_geometry)
    go true e h = inl (same_eq k receiver_geometry e)
    go false e h = inr (same_eq k source_geometry h)

-- what follows comes later, or is the same again where that may be
pub rises_so : (p k : List ℕ) → rises p k ≡ true → (before p k ≡ true) ⊎ ((p ≡ k) × (repeats k ≡ true))
unfolding rises
rises_so p k h = go (before p k) (same p k) refl refl h
  where
    go : (v w : Bool) → before p k ≡ v → same p k ≡ w → (v || (w && repeats k)) ≡ true → (before p k ≡ true) ⊎ ((p ≡ k) × (repeats k ≡ true))
    go true w e f q = inl e
    go false true e f q = inr (same_eq p k f, q)
    go false false e f q = never q

pub rises_later : (p k : List ℕ) → before p k ≡ true → rises p k ≡ true
unfolding rises
rises_later p k h = rw h

-- none follows NOTE
pub rises_note : (p k : List ℕ) → same p note ≡ true → rises p k ≡ false
unfolding rises before repeats same
rises_note p k h = rw h (go (same p k) refl)
  where
    go : (w : Bool) → same p k ≡ w → (w && repeats k) ≡ false
    go true e = rw (sym (same_eq p k e) ∙ same_eq p note h)
    go false e = refl

-- the first keyword is free
pub rises_first : (k : List ℕ) → 0 < length k → rises [] k ≡ true
unfolding before same less
rises_first [] h = absurd (omega arith)
rises_first (x ∷ xs) h = rises_later [] (x ∷ xs) (go (same (x ∷ xs) note))
  where
    go : (w : Bool) → pick w true true ≡ true
    go true = refl
    go false = refl

-- ---- turns of the loops that compare
module _ (p k : List ℕ) (i : ℕ) where
  pub less_short : i < length p → length k ≤ i → false ≡ less (drop i p) (drop i k)
  unfolding less
  less_short h g = rw (more p i h, none k i g)

  pub less_below : i < length p → i < length k → get_or p i 0 < get_or k i 0 → true ≡ less (drop i p) (drop i k)
  unfolding less
  less_below h g l = rw (more p i h, more k i g, lt-ltb _ _ l)

  pub less_above : i < length p → i < length k → get_or k i 0 < get_or p i 0 → false ≡ less (drop i p) (drop i k)
  unfolding less
  less_above h g l = rw (more p i h, more k i g, le-ltb (get_or p i 0) (get_or k i 0) (omega arith), lt-ltb _ _ l)

  pub less_next : i < length p → i < length k → get_or k i 0 ≤ get_or p i 0 → get_or p i 0 ≤ get_or k i 0
      → less (drop (i + 1) p) (drop (i + 1) k) ≡ less (drop i p) (drop i k)
  unfolding less
  less_next h g l m = rw (more p i h, more k i g, le-ltb (get_or p i 0) (get_or k i 0) l, le-ltb (get_or k i 0) (get_or p i 0) m)

  pub less_longer : length p ≤ i → i < length k → true ≡ less (drop i p) (drop i k)
  unfolding less
  less_longer h g = rw (none p i h, more k i g)

  pub less_ended : length p ≤ i → length k ≤ i → false ≡ less (drop i p) (drop i k)
  unfolding less
  less_ended h g = rw (none p i h, none k i g)
