-- A check is a list of rows, a test and its answer, in the order of the table; the first row whose test holds answers,
-- and where none does the check's own answer stands. "The first of them in its order" is how a check is written, and
-- nothing to prove.
-- Assumes nothing.
use Rattle.std.specs.Prelude.{◌≡◌, refl, Bool, true, false, List, [], ◌∷◌, ◌++◌, ◌⊎◌, ℕ}
use Rattle.std.proofs.Common.{sym, ap, ◌∙◌, inl, inr, ⊎_elim, arith}
use Rattle.refusal.specs.declared.Rule.{Rule}

-- where the test holds the first, else the second
abbrev pub pick {ℓ} : {A : Type ℓ} → Bool → A → A → A
pick true a b = a
pick false a b = b

pub pick_second : {A : Type 0} (b : Bool) (x y : A) → b ≡ false → pick b x y ≡ y
pick_second b x y e = rw e

abbrev pub Rows : Type 0 → Type 0
Rows A = List (Bool × A)

module _ {A : Type 0} where
  abbrev pub first : Rows A → A → A
  first [] a = a
  first (r ∷ rs) a = pick r.0 r.1 (first rs a)

  -- no row's test holds
  abbrev pub Clear : Rows A → Type 0
  Clear [] = Unit {0}
  Clear (r ∷ rs) = (r.0 ≡ false) × Clear rs

  -- then the check's own answer stands
  pub through : (rs : Rows A) (a : A) → Clear rs → first rs a ≡ a
  through [] a h = refl
  through (r ∷ rs) a h = rw h.0 (through rs a h.1)

  -- no row's answer is one that p tells
  abbrev pub without : (A → Bool) → Rows A → Bool
  without p [] = true
  without p (r ∷ rs) = pick (p r.1) false (without p rs)

  -- and back: an answer that no row gives is the check's own, and no row's test held
  pub clear : (p : A → Bool) (y : A) → p y ≡ true → (rs : Rows A) (a : A) → without p rs ≡ true → first rs a ≡ y → Clear rs × (a ≡ y)
  clear p y t [] a w e = (tt, e)
  clear p y t ((true, b) ∷ rs) a w e = absurd (told (p b) refl w)
    where
      told : (q : Bool) → p b ≡ q → pick q false (without p rs) ≡ true → ⊥
      told true s v = let z : ◌≡◌ {A = Bool} false true = v in let n : ◌≡◌ {A = ℕ} 0 1 = cc in omega arith
      told false s v = let z : ◌≡◌ {A = Bool} true false = sym t ∙ ap p (sym e) ∙ s in let n : ◌≡◌ {A = ℕ} 0 1 = cc in omega arith
  clear p y t ((false, b) ∷ rs) a w e = let c = clear p y t rs a (later (p b) w) e in ((refl, c.0), c.1)
    where
      later : (q : Bool) → pick q false (without p rs) ≡ true → without p rs ≡ true
      later true v = let n : ◌≡◌ {A = ℕ} 0 1 = cc in absurd (omega arith)
      later false v = v

  -- an answer is the check's own, where no row's test held, or that of a row whose test holds and before which none
  -- does
  pub first_met : (rs : Rows A) (a y : A) → first rs a ≡ y
      → (Clear rs × (a ≡ y)) ⊎ ((before after : Rows A) × (rs ≡ before ++ ((true, y) ∷ after)) × Clear before)
  first_met [] a y e = inl (tt, e)
  first_met ((true, b) ∷ rs) a y e = inr ([], rs, ap (λ (z : A). (true, z) ∷ rs) e, tt)
  first_met ((false, b) ∷ rs) a y e =
      ⊎_elim
      (λ c. inl ((refl, c.0), c.1))
      (λ m. inr ((false, b) ∷ m.0, m.1, ap (λ (zs : Rows A). (false, b) ∷ zs) m.2, (refl, m.3)))
      (first_met rs a y e)

-- ---- tests with the rules that they break: the first rule, told in an answer's own words, or else the answer
module _ {A : Type 0} where
  abbrev pub ruled : Rows Rule → (Rule → A) → A → A
  ruled [] bad a = a
  ruled (r ∷ rs) bad a = pick r.0 (bad r.1) (ruled rs bad a)

  pub ruled_through : (rs : Rows Rule) (bad : Rule → A) (a : A) → Clear rs → ruled rs bad a ≡ a
  ruled_through [] bad a h = refl
  ruled_through (r ∷ rs) bad a h = rw h.0 (ruled_through rs bad a h.1)

  -- an answer that is no rule's is the check's own, and no row's test held
  pub ruled_clear : (bad : Rule → A) (y : A) → ((r : Rule) → bad r ≡ y → ⊥) → (rs : Rows Rule) (a : A) → ruled rs bad a ≡ y → Clear rs × (a ≡ y)
  ruled_clear bad y n [] a e = (tt, e)
  ruled_clear bad y n ((true, r) ∷ rs) a e = absurd (n r e)
  ruled_clear bad y n ((false, r) ∷ rs) a e = let c = ruled_clear bad y n rs a e in ((refl, c.0), c.1)

-- what is made of an answer is made of each rule's
pub ruled_map : {A B : Type 0} (f : A → B) (rs : Rows Rule) (bad : Rule → A) (a : A) → f (ruled rs bad a) ≡ ruled rs (λ r. f (bad r)) (f a)
ruled_map f [] bad a = refl
ruled_map f ((true, r) ∷ rs) bad a = refl
ruled_map f ((false, r) ∷ rs) bad a = ruled_map f rs bad a
