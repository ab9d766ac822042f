-- The laws of terminators: of one character and of two, and the turns of the loops that compare them.
-- Assumes nothing.
use Rattle.std.specs.Prelude.{◌≡◌, Bool, ◌&&◌, ◌||◌, ◌⊎◌, ℕ, ◌+◌, ◌≤◌, ◌<◌, length, drop, eqb}
use Rattle.std.proofs.Math.Path.{refl, ap}
use Rattle.std.proofs.Common.{◌∙◌, inl, inr, ⊎_elim, eq-eqb, ne_eqb, eqb-true}
use Rattle.std.proofs.Math.Bool.{true, false}
use mathlib.Core.List.{List, [], ◌∷◌}
use native.Mathlib.Omega.{arith}
use Rattle.std.proofs.Math.ListN.{get_or}
use Rattle.word.specs.Tests.{both}
use Rattle.word.specs.Part.{part, part_first, part_none, length_part}
use Rattle.chars.specs.Runs.{all, more, none}
use Rattle.chars.specs.Chars.{control}
use Rattle.note.specs.Note.{LineEnd, control_ends}
use Rattle.terminators.specs.Terminators.{terminator_at, good_terminator, lacks}

-- ---- terminators of one and of two characters
module _ (f : List ℕ) (at : ℕ) (fits : at + 3 ≤ length f) where
  one_char : get_or f at 0 ≡ 1 → terminator_at f at ≡ get_or f (at + 1) 0 ∷ []
  unfolding terminator_at
  one_char h =
      let s : part (at + 1 + 1) (at + 1 + 1) f ≡ [] = part_none (at + 1 + 1) (at + 1 + 1) f (omega arith) in
      rw h (part_first 0 (at + 1) (at + 1 + 1) f (omega arith) (omega arith) ∙ ap (λ (r : List ℕ). get_or f (at + 1) 0 ∷ r) s)

  two_chars : get_or f at 0 ≡ 2 → terminator_at f at ≡ get_or f (at + 1) 0 ∷ get_or f (at + 2) 0 ∷ []
  unfolding terminator_at
  two_chars h =
      let e : at + 1 + 2 ≡ at + 1 + 1 + 1 = omega arith in
      let g : at + 1 + 1 ≡ at + 2 = omega arith in
      let s : part (at + 1 + 1 + 1) (at + 1 + 1 + 1) f ≡ [] = part_none (at + 1 + 1 + 1) (at + 1 + 1 + 1) f (omega arith) in
      let r : part (at + 1 + 1) (at + 1 + 1 + 1) f ≡ get_or f (at + 2) 0 ∷ [] =
      part_first 0 (at + 1 + 1) (at + 1 + 1 + 1) f (omega arith) (omega arith) ∙ rw (s, g) in
      rw (h, e) (part_first 0 (at + 1) (at + 1 + 1 + 1) f (omega arith) (omega arith) ∙ ap (λ (q : List ℕ). get_or f (at + 1) 0 ∷ q) r)

  pub good_one : get_or f at 0 ≡ 1 → control (get_or f (at + 1) 0) ≡ good_terminator f at
  unfolding good_terminator all
  good_one h = rw (one_char h, h) (and_true (control (get_or f (at + 1) 0)))
    where
      and_true : (b : Bool) → b ≡ (b && true)
      and_true true = refl
      and_true false = refl

  pub good_two : get_or f at 0 ≡ 2 → (control (get_or f (at + 1) 0) && control (get_or f (at + 2) 0)) ≡ good_terminator f at
  unfolding good_terminator all
  good_two h = rw (two_chars h, h) (both_true (control (get_or f (at + 1) 0)) (control (get_or f (at + 2) 0)))
    where
      both_true : (a b : Bool) → (a && b) ≡ (a && (b && true))
      both_true true true = refl
      both_true true false = refl
      both_true false b = refl

pub good_other : (f : List ℕ) (at : ℕ) → (get_or f at 0 ≡ 1 → ⊥) → (get_or f at 0 ≡ 2 → ⊥) → false ≡ good_terminator f at
unfolding good_terminator
good_other f at h k = rw (ne_eqb _ _ h, ne_eqb _ _ k)

-- a good terminator has one or two characters
pub good_length : (f : List ℕ) (at : ℕ) → good_terminator f at ≡ true → (get_or f at 0 ≡ 1) ⊎ (get_or f at 0 ≡ 2)
unfolding good_terminator
good_length f at h = go (eqb (get_or f at 0) 1) (eqb (get_or f at 0) 2) refl refl
    (both (eqb (get_or f at 0) 1 || eqb (get_or f at 0) 2) (all control (terminator_at f at)) h).0
  where
    go : (a b : Bool) → eqb (get_or f at 0) 1 ≡ a → eqb (get_or f at 0) 2 ≡ b → (a || b) ≡ true → (get_or f at 0 ≡ 1) ⊎ (get_or f at 0 ≡ 2)
    go true b p q k = inl (eqb-true _ _ p)
    go false b p q k = inr (eqb-true _ _ (q ∙ k))

pub good_most : (f : List ℕ) (at : ℕ) → good_terminator f at ≡ true → (0 < get_or f at 0) × (get_or f at 0 ≤ 2)
good_most f at h = ⊎_elim (λ w. (omega arith, omega arith)) (λ w. (omega arith, omega arith)) (good_length f at h)

pub good_chars : (f : List ℕ) (at : ℕ) → good_terminator f at ≡ true → all control (terminator_at f at) ≡ true
unfolding good_terminator
good_chars f at h = (both (eqb (get_or f at 0) 1 || eqb (get_or f at 0) 2) (all control (terminator_at f at)) h).1

pub length_terminator : (f : List ℕ) (at : ℕ) → at + 3 ≤ length f → good_terminator f at ≡ true → length (terminator_at f at) ≡ get_or f at 0
unfolding terminator_at
length_terminator f at fits h =
    let m = good_most f at h in
    length_part (at + 1) (at + 1 + get_or f at 0) f (omega (arith, m.1)) ∙ omega arith

-- so a good line terminator starts with a byte that no value has
pub good_ends : (f : List ℕ) (at : ℕ) → at + 3 ≤ length f → good_terminator f at ≡ true → LineEnd (terminator_at f at)
good_ends f at fits h =
    let l = length_terminator f at fits h in
    let m = good_most f at h in
    control_ends (terminator_at f at) (omega (arith, m.0)) (good_chars f at h)

-- ---- what one character of a terminator tells, and what the rest does
pub lacks_here : (u : List ℕ) (b i : ℕ) → i < length u → get_or u i 0 ≡ b → false ≡ lacks (drop i u) b
unfolding all
lacks_here u b i h e = rw (more u i h, eq-eqb _ _ e)

pub lacks_on : (u : List ℕ) (b i : ℕ) → i < length u → (get_or u i 0 ≡ b → ⊥) → lacks (drop (i + 1) u) b ≡ lacks (drop i u) b
unfolding all
lacks_on u b i h e = rw (more u i h, ne_eqb _ _ e)

pub lacks_over : (u : List ℕ) (b i : ℕ) → length u ≤ i → true ≡ lacks (drop i u) b
unfolding all
lacks_over u b i h = rw (none u i h)
