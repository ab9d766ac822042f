-- Every rule's number is above 0, which says that nothing was refused, below 100, and no other rule's. All of it
-- follows from one test: the numbers rise in the order of the enum. Rattle's own module of the enum (`proofs.Rule`) has
-- that order, and a file of specs/ may not name it: so this stands here, and lists no rule.
-- Assumes nothing.
use mathlib.Core.Path.{◌≡◌, refl, sym, ap, ◌∙◌}
use mathlib.Core.Bool.{Bool, true, false}
use mathlib.Core.List.{List, [], ◌∷◌}
use mathlib.Core.Logic.{inl, inr}
use Prim.Native.Nat.{ℕ, ◌<◌}
use native.Mathlib.Omega.{arith}
use lib.Dec.{ltb}
use borrow.Author.Tests.{ltb-true}
use denote.Struct.Field.{Field}
use denote.Enum.Declared.{Choice, values_one}
use Rattle.refusal.specs.Rows.{pick}
use Rattle.refusal.specs.Table.{number_of}
use Rattle.refusal.specs.declared.Rule.{Rule}
use Rattle.refusal.specs.contracts.Rule.{the_parts as parts, as_values, the_make as make, the_eta as eta, enum}

-- variants that hold nothing, each with a number: the numbers rise from above low to below high
abbrev rises : (vs : List (List Field)) → (Choice vs → ℕ) → ℕ → ℕ → Bool
rises [] k low high = ltb low high
rises ([] ∷ vs) k low high = pick (ltb low (k (inl tt))) (rises vs (λ c. k (inr c)) (k (inl tt)) high) false
rises ((f ∷ fs) ∷ vs) k low high = false

never : {A : Type 0} → ◌≡◌ {A = Bool} false true → A
never e = let z : ◌≡◌ {A = ℕ} 0 1 = cc in absurd (omega arith)

module _ (vs : List (List Field)) (k : Choice ([] ∷ vs) → ℕ) where
  -- the first variant's number, and those of the others
  abbrev one : ℕ
  one = k (inl tt)

  abbrev more : Choice vs → ℕ
  more c = k (inr c)

  next : (low high : ℕ) → rises ([] ∷ vs) k low high ≡ true → (low < one) × (rises vs more one high ≡ true)
  next low high h = go (ltb low one) refl h
    where
      go : (b : Bool) → ltb low one ≡ b → pick b (rises vs more one high) false ≡ true → (low < one) × (rises vs more one high ≡ true)
      go true e g = (ltb-true low one e, g)
      go false e g = never g

room : (vs : List (List Field)) (k : Choice vs → ℕ) (low high : ℕ) → rises vs k low high ≡ true → low < high
room [] k low high h = ltb-true low high h
room ([] ∷ vs) k low high h =
    let n = next vs k low high h in
    omega (arith, n.0, room vs (more vs k) (one vs k) high n.1)
room ((f ∷ fs) ∷ vs) k low high h = never h

between : (vs : List (List Field)) (k : Choice vs → ℕ) (low high : ℕ) → rises vs k low high ≡ true → (c : Choice vs) → (low < k c) × (k c < high)
between [] k low high h c = absurd c
between ([] ∷ vs) k low high h (inl u) =
    let n = next vs k low high h in
    (n.0, room vs (more vs k) (one vs k) high n.1)
between ([] ∷ vs) k low high h (inr c) =
    let n = next vs k low high h in
    let b = between vs (more vs k) (one vs k) high n.1 c in
    (omega (arith, n.0, b.0), b.1)
between ((f ∷ fs) ∷ vs) k low high h c = never h

apart : (vs : List (List Field)) (k : Choice vs → ℕ) (low high : ℕ) → rises vs k low high ≡ true → (c d : Choice vs) → k c ≡ k d → c ≡ d
apart [] k low high h c d e = absurd c
apart ([] ∷ vs) k low high h (inl u) (inl v) e = refl
apart ([] ∷ vs) k low high h (inl u) (inr d) e =
    let b = between vs (more vs k) (one vs k) high (next vs k low high h).1 d in
    absurd (omega (arith, b.0, e))
apart ([] ∷ vs) k low high h (inr c) (inl v) e =
    let b = between vs (more vs k) (one vs k) high (next vs k low high h).1 c in
    absurd (omega (arith, b.0, e))
apart ([] ∷ vs) k low high h (inr c) (inr d) e = ap inr (apart vs (more vs k) (one vs k) high (next vs k low high h).1 c d e)
apart ((f ∷ fs) ∷ vs) k low high h c d e = never h

-- ---- the table's

in_order : rises parts (λ c. number_of (make c)) 0 100 ≡ true
in_order = refl

numbered : (r : Rule) → (0 < number_of r) × (number_of r < 100)
numbered r = rw (← eta r) (between parts (λ c. number_of (make c)) 0 100 in_order (as_values r))

-- 0 is no rule's number
pub above_none : (r : Rule) → 0 < number_of r
above_none r = (numbered r).0

-- two digits are enough
pub below_hundred : (r : Rule) → number_of r < 100
below_hundred r = (numbered r).1

-- a number names one rule
pub numbers_apart : (a b : Rule) → number_of a ≡ number_of b → a ≡ b
numbers_apart a b e =
    values_one enum a b (apart parts (λ c. number_of (make c)) 0 100 in_order (as_values a) (as_values b) (ap number_of (eta a) ∙ e ∙
    sym (ap number_of (eta b))))
