-- What the library's search and a fold over all of a row find.
-- Assumes nothing.
use Rattle.std.proofs.Common.{◌≡◌, ℕ, ◌+◌, Bool, true, false, ◌||◌, List, [], ◌∷◌, None, refl, sym, ◌∙◌, position, fold}
use Rattle.std.specs.List.{position_from, list_any}
use Rattle.std.proofs.lemmas.Iterator.Adapters.{position_from-zero}
use Rattle.word.specs.Tests.{neither}
use Rattle.fit.specs.Unfit.{first_from}

module _ {A : Type 0} (bad : A → Bool) where
  from_first : (i : ℕ) (xs : List A) → position_from bad i xs ≡ first_from bad i xs
  unfolding first_from
  from_first i [] = refl
  from_first i (x ∷ xs) = rw (from_first (i + 1) xs)

  pub first_position : (xs : List A) → position bad xs ≡ first_from bad 0 xs
  first_position xs = position_from-zero bad xs ∙ from_first 0 xs

  fold_any : (found : Bool) (xs : List A) → fold (λ w x. w || bad x) found xs ≡ (found || list_any bad xs)
  fold_any true [] = refl
  fold_any false [] = refl
  fold_any true (x ∷ xs) = fold_any true xs
  fold_any false (x ∷ xs) = fold_any (bad x) xs

  none : (i : ℕ) (xs : List A) → list_any bad xs ≡ false → None ≡ first_from bad i xs
  unfolding first_from
  none i [] h = refl
  none i (x ∷ xs) h = let k = neither (bad x) (list_any bad xs) h in rw k.0 (none (i + 1) xs k.1)

  pub none_found : (xs : List A) → fold (λ w x. w || bad x) false xs ≡ false → None ≡ first_from bad 0 xs
  none_found xs h = none 0 xs (sym (fold_any false xs) ∙ h)
