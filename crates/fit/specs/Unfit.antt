-- Which samples a code cannot hold: "29 sample outside code 1's range, of magnitude 2^30 or more under code 3, or a
-- pattern over 32 bits under code 4 (first index)" (document 01, "Refusal numbers").
-- Assumes nothing.
use Rattle.std.proofs.Math.Path.{◌≡◌, refl, ap}
use Rattle.std.proofs.Common.{sym, ◌∙◌, add-one, arith, drop_of_length-le, le-leb, ltb-true, ltb-false}
use Rattle.std.specs.Prelude.{Option, None, Some, Bool, cond, ◌||◌, ℤ, pos, negsuc, nat_abs, get_or, drop, ltb, leb}
use Rattle.std.proofs.Math.Bool.{true, false}
use mathlib.Core.List.{List, [], ◌∷◌}
use Prim.Native.Nat.{ℕ, zero, suc, ◌+◌, ◌≤◌, ◌<◌}
use Rattle.std.specs.Int.Signed.{lt_z}
use Rattle.std.proofs.Math.ListN.{length}
use Rattle.std.proofs.Math.Seq.{drop-cons}
use Rattle.std.proofs.lemmas.Bool.{lt-leb}
use Rattle.word.specs.Tests.{neither}
use Rattle.sample.specs.Needed.{by_code}

-- ---- the first of a list

module _ {A : Type 0} where
  -- where the first element that is bad stands, counted from i; or that all are good
  unfoldable pub first_from : (A → Bool) → ℕ → List A → Option ℕ
  first_from bad i [] = None
  first_from bad i (x ∷ xs) = cond (bad x) (Some i) (first_from bad (i + 1) xs)

  -- a loop that looks: what is found from here is what is found from the start
  pub first_found : (bad : A → Bool) (d : A) (xs : List A) (i : ℕ) → i < length xs → bad (get_or xs i d) ≡ true
      → first_from bad i (drop i xs) ≡ first_from bad 0 xs → Some i ≡ first_from bad 0 xs
  unfolding first_from
  first_found bad d xs i h b e = (rw (drop-cons xs i d h, b) at e)

  pub first_next : (bad : A → Bool) (d : A) (xs : List A) (i : ℕ) → i < length xs → bad (get_or xs i d) ≡ false
      → first_from bad i (drop i xs) ≡ first_from bad 0 xs → first_from bad (i + 1) (drop (i + 1) xs) ≡ first_from bad 0 xs
  unfolding first_from
  first_next bad d xs i h b e = ap (λ (k : ℕ). first_from bad (i + 1) (drop k xs)) (add-one i) ∙ (rw (drop-cons xs i d h, b) at e)

  pub first_over : (bad : A → Bool) (xs : List A) (i : ℕ) → length xs ≤ i → first_from bad i (drop i xs) ≡ first_from bad 0 xs → None ≡ first_from bad 0 xs
  unfolding first_from
  first_over bad xs i h e = (rw (drop_of_length-le xs {i = i} h) at e)

  -- whether there is one at all, and a loop that goes through to the end: w is what was found before
  unfoldable pub any : (A → Bool) → List A → Bool
  any bad [] = false
  any bad (x ∷ xs) = bad x || any bad xs

  pub any_turn : (bad : A → Bool) (d : A) (xs : List A) (i : ℕ) (w : Bool) → i < length xs
      → ((w || bad (get_or xs i d)) || any bad (drop (i + 1) xs)) ≡ (w || any bad (drop i xs))
  unfolding any
  any_turn bad d xs i true h = refl
  any_turn bad d xs i false h = rw (add-one i, drop-cons xs i d h)

  pub any_through : (bad : A → Bool) (xs : List A) (i : ℕ) (w : Bool) → length xs ≤ i → w ≡ (w || any bad (drop i xs))
  unfolding any
  any_through bad xs i true h = refl
  any_through bad xs i false h = rw (drop_of_length-le xs {i = i} h)

  pub any_none : (bad : A → Bool) (i : ℕ) (xs : List A) → any bad xs ≡ false → None ≡ first_from bad i xs
  unfolding any first_from
  any_none bad i [] h = refl
  any_none bad i (x ∷ xs) h = let k = neither (bad x) (any bad xs) h in rw k.0 (any_none bad (i + 1) xs k.1)

  pub first_same : (bad worse : A → Bool) → ((x : A) → bad x ≡ worse x) → (i : ℕ) (xs : List A) → first_from bad i xs ≡ first_from worse i xs
  unfolding first_from
  first_same bad worse h i [] = refl
  first_same bad worse h i (x ∷ xs) = rw (h x, first_same bad worse h (i + 1) xs)

  pub first_none : (bad : A → Bool) → ((x : A) → bad x ≡ false) → (i : ℕ) (xs : List A) → first_from bad i xs ≡ None
  unfolding first_from
  first_none bad h i [] = refl
  first_none bad h i (x ∷ xs) = rw (h x) (first_none bad h (i + 1) xs)

  -- all are good exactly when each is
  pub all_good : (bad : A → Bool) (d : A) (i : ℕ) (xs : List A) → first_from bad i xs ≡ None → (k : ℕ) → k < length xs → bad (get_or xs k d) ≡ false
  unfolding first_from
  all_good bad d i [] e k h = absurd (omega arith)
  all_good bad d i (x ∷ xs) e k h = go (bad x) refl (λ q. all_good bad d (i + 1) xs (rw q at e)) k h
    where
      go : (t : Bool) → bad x ≡ t → ((bad x ≡ false) → (k : ℕ) → k < length xs → bad (get_or xs k d) ≡ false)
          → (k : ℕ) → k < suc (length xs) → bad (get_or (x ∷ xs) k d) ≡ false
      go true q f k h = let p : ◌≡◌ {A = Option ℕ} (Some i) None = (rw q at e) in let z : ◌≡◌ {A = ℕ} 0 1 = cc in absurd (omega arith)
      go false q f zero h = q
      go false q f (suc k) h = f q k (omega arith)

-- ---- the codes

-- not from `low` to `high`
unfoldable pub outside : ℤ → ℤ → ℤ → Bool
outside low high z = lt_z z low || lt_z high z

unfoldable pub unfit_integer : ℕ → ℤ → Bool
unfit_integer code z = by_code (outside (negsuc 32767) (pos 32767) z) false (leb 1073741824 (nat_abs z)) false false false code

unfoldable pub unfit_pattern : ℕ → ℕ → Bool
unfit_pattern code n = by_code false false false (leb 4294967296 n) false false code

-- the first sample of a row that the code cannot hold
unfoldable pub unfit_integers : ℕ → List ℤ → Option ℕ
unfit_integers code row = first_from (unfit_integer code) 0 row

unfoldable pub unfit_patterns : ℕ → List ℕ → Option ℕ
unfit_patterns code row = first_from (unfit_pattern code) 0 row

-- under code 3, a magnitude below 2^30 is a number between the two bounds
pub magnitude_bounds : (z : ℤ) → outside (negsuc 1073741822) (pos 1073741823) z ≡ unfit_integer 3 z
unfolding outside unfit_integer
magnitude_bounds (pos n) = go (ltb 1073741823 n) refl
  where
    go : (t : Bool) → ltb 1073741823 n ≡ t → t ≡ leb 1073741824 n
    go true e = let h = ltb-true 1073741823 n e in sym (le-leb 1073741824 n (omega arith))
    go false e = let h = ltb-false 1073741823 n e in sym (lt-leb 1073741824 n (omega arith))
magnitude_bounds (negsuc n) = go (ltb 1073741822 n) refl
  where
    go : (t : Bool) → ltb 1073741822 n ≡ t → (t || false) ≡ leb 1073741824 (suc n)
    go true e = let h = ltb-true 1073741822 n e in sym (le-leb 1073741824 (suc n) (omega arith))
    go false e = let h = ltb-false 1073741822 n e in sym (lt-leb 1073741824 (suc n) (omega arith))

-- codes that hold every integer, and every pattern
pub holds_integers : (code : ℕ) → (code ≡ 1 → ⊥) → (code ≡ 3 → ⊥) → (row : List ℤ) → None ≡ unfit_integers code row
unfolding unfit_integers unfit_integer
holds_integers code h1 h3 row = sym (first_none (unfit_integer code) (λ z. holds code z h1 h3) 0 row)
  where
    holds : (code : ℕ) (z : ℤ) → (code ≡ 1 → ⊥) → (code ≡ 3 → ⊥) → unfit_integer code z ≡ false
    holds zero z h1 h3 = refl
    holds (suc zero) z h1 h3 = absurd (h1 refl)
    holds (suc (suc zero)) z h1 h3 = refl
    holds (suc (suc (suc zero))) z h1 h3 = absurd (h3 refl)
    holds (suc (suc (suc (suc zero)))) z h1 h3 = refl
    holds (suc (suc (suc (suc (suc zero))))) z h1 h3 = refl
    holds (suc (suc (suc (suc (suc (suc code)))))) z h1 h3 = refl

pub holds_patterns : (code : ℕ) → (code ≡ 4 → ⊥) → (row : List ℕ) → None ≡ unfit_patterns code row
unfolding unfit_patterns unfit_pattern
holds_patterns code h4 row = sym (first_none (unfit_pattern code) (λ n. holds code n h4) 0 row)
  where
    holds : (code : ℕ) (n : ℕ) → (code ≡ 4 → ⊥) → unfit_pattern code n ≡ false
    holds zero n h4 = refl
    holds (suc zero) n h4 = refl
    holds (suc (suc zero)) n h4 = refl
    holds (suc (suc (suc zero))) n h4 = refl
    holds (suc (suc (suc (suc zero)))) n h4 = absurd (h4 refl)
    holds (suc (suc (suc (suc (suc zero))))) n h4 = refl
    holds (suc (suc (suc (suc (suc (suc code)))))) n h4 = refl
