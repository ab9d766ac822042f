-- One byte at the front of a text: whether it stands there, and what is behind it.
-- Assumes nothing.
use Rattle.std.specs.Prelude.{◌≡◌, refl, Bool, true, false, List, [], ◌∷◌, ℕ, ◌≤◌, ◌<◌, length, get_or, drop, eqb}
use Rattle.std.proofs.Common.{arith, eq-eqb}
use Rattle.refusal.specs.Rows.{pick}

-- the byte b stands at the front
unfoldable pub has : ℕ → List ℕ → Bool
has b [] = false
has b (x ∷ xs) = eqb x b

-- what is behind it, or all where it does not stand there
unfoldable pub past : ℕ → List ℕ → List ℕ
past b t = pick (has b t) (drop 1 t) t

pub has_first : (b : ℕ) (t : List ℕ) → 0 < length t → eqb (get_or t 0 0) b ≡ has b t
unfolding has
has_first b [] h = absurd (omega arith)
has_first b (x ∷ xs) h = refl

pub has_none : (b : ℕ) (t : List ℕ) → length t ≤ 0 → false ≡ has b t
unfolding has
has_none b [] h = refl
has_none b (x ∷ xs) h = absurd (omega arith)

pub past_has : (b : ℕ) (t : List ℕ) → has b t ≡ true → past b t ≡ drop 1 t
unfolding past
past_has b t e = rw e

pub past_not : (b : ℕ) (t : List ℕ) → has b t ≡ false → past b t ≡ t
unfolding past
past_not b t e = rw e

pub has_same : (b : ℕ) (r : List ℕ) → has b (b ∷ r) ≡ true
unfolding has
has_same b r = eq-eqb b b refl

pub past_same : (b : ℕ) (r : List ℕ) → past b (b ∷ r) ≡ r
past_same b r = past_has b (b ∷ r) (has_same b r)
