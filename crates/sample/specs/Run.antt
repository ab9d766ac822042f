-- What a function gives from a number on: f i, f (i + 1), .., as many as are asked for. A lent row is filled with such
-- a values_from.
-- Assumes nothing.
use Rattle.std.specs.Prelude.{◌≡◌, get_or, set}
use Rattle.std.proofs.Math.Path.{refl, ap, ap₂}
use Rattle.std.proofs.Common.{sym, ◌∙◌, ext_get_or}
use mathlib.Core.List.{List, [], ◌∷◌, ◌++◌, append-nil, map}
use Prim.Native.Nat.{ℕ, zero, suc, ◌+◌, ◌-◌, ◌≤◌, ◌<◌}
use native.Mathlib.Omega.{arith}
use Rattle.std.proofs.Math.ListN.{length, get_or-map}
use Rattle.std.proofs.lemmas.List.{length-map}
use Rattle.word.specs.Put.{put, put_append, put_over, length_put}

module _ {A : Type 0} where
  unfoldable pub values_from : (ℕ → A) → ℕ → ℕ → List A
  values_from f i zero = []
  values_from f i (suc n) = f i ∷ values_from f (i + 1) n

  pub length_run : (f : ℕ → A) (i n : ℕ) → length (values_from f i n) ≡ n
  unfolding values_from
  length_run f i zero = refl
  length_run f i (suc n) = ap suc (length_run f (i + 1) n)

  pub get_d_run : (f : ℕ → A) (d : A) (i n k : ℕ) → k < n → get_or (values_from f i n) k d ≡ f (i + k)
  unfolding values_from
  get_d_run f d i zero k h = absurd (omega arith)
  get_d_run f d i (suc n) zero h = let e : i + 0 ≡ i = omega arith in rw e
  get_d_run f d i (suc n) (suc k) h = let e : i + suc k ≡ i + 1 + k = omega arith in rw e (get_d_run f d (i + 1) n k (omega arith))

  -- a values_from is told by its values
  pub run_same : (f g : ℕ → A) (i n : ℕ) → ((k : ℕ) → i ≤ k → k < i + n → f k ≡ g k) → values_from f i n ≡ values_from g i n
  unfolding values_from
  run_same f g i zero h = refl
  run_same f g i (suc n) h =
      ap₂ (λ (x : A) (xs : List A). x ∷ xs) (h i (omega arith) (omega arith))
      (run_same f g (i + 1) n (λ k p q. h k (omega arith) (omega arith)))

  -- one values_from behind the other
  pub run_append : (f : ℕ → A) (i m n : ℕ) → values_from f i (m + n) ≡ values_from f i m ++ values_from f (i + m) n
  unfolding values_from
  run_append f i zero n = let e : 0 + n ≡ n = omega arith in let s : i + 0 ≡ i = omega arith in rw (e, s)
  run_append f i (suc m) n =
      let e : suc m + n ≡ suc (m + n) = omega arith in
      let s : i + suc m ≡ i + 1 + m = omega arith in
      rw (e, s, run_append f (i + 1) m n)

  -- ---- a loop that fills a row

  -- a row of which the places before i have been filled: what is left to store, stored, makes the whole
  pub record Filling (f : ℕ → A) (old : List A) (i : ℕ) (row : List A) : Type 0 where
    pub long : length row ≡ length old
    pub rest : put row i (values_from f i (length old - i)) ≡ put old 0 (values_from f 0 (length old))

  pub fill_start : (f : ℕ → A) (old : List A) → Filling f old 0 old
  fill_start f old = let e : length old - 0 ≡ length old = omega arith in record { long = refl; rest = rw e }

  -- some of the values_from stored, and one value
  pub fill_some : {f : ℕ → A} {old : List A} {i : ℕ} {row : List A} (m : ℕ) → Filling f old i row → i + m ≤ length old
      → Filling f old (i + m) (put row i (values_from f i m))
  fill_some {f} {old} {i} {row} m r h =
      let e : length old - i ≡ m + (length old - (i + m)) = omega arith in
      let s : put (put row i (values_from f i m)) (i + m) (values_from f (i + m) (length old - (i + m))) ≡ put row i (values_from f i (length old - i)) =
      rw (e, run_append f i m, put_append, length_run) in
      record { long = length_put row i (values_from f i m) ∙ r.long; rest = s ∙ r.rest }

  pub fill_one : {f : ℕ → A} {old : List A} {i : ℕ} {row : List A} {v : A} → Filling f old i row → i < length old → v ≡ f i
      → Filling f old (i + 1) (set row i v)
  unfolding values_from put
  fill_one {f} {old} {i} {row} {v} r h q = rw q (fill_some 1 r (omega arith))

  -- a row that was filled to its end is the values_from
  pub fill_end : {f : ℕ → A} {old : List A} {i : ℕ} {row : List A} → Filling f old i row → length old ≤ i → row ≡ values_from f 0 (length old)
  unfolding values_from put
  fill_end {f} {old} {i} {row} r h =
      let e : length old - i ≡ 0 = omega arith in
      let p = put_over old (values_from f 0 (length old)) [] (sym (length_run f 0 (length old))) in
      (rw e at r.rest) ∙ (simp append-nil at p)

-- a values_from of a composition
pub run_map : {A B : Type 0} (g : A → B) (f : ℕ → A) (i n : ℕ) → values_from (λ k. g (f k)) i n ≡ map g (values_from f i n)
unfolding values_from
run_map g f i zero = refl
run_map g f i (suc n) = ap (λ (r : List _). g (f i) ∷ r) (run_map g f (i + 1) n)

-- a list under a function is the values_from that gives its elements so
pub run_of : {A B : Type 0} (f : ℕ → B) (g : A → B) (d : A) (xs : List A) → ((i : ℕ) → i < length xs → f i ≡ g (get_or xs i d))
    → values_from f 0 (length xs) ≡ map g xs
run_of f g d xs h =
    ext_get_or (g d) (values_from f 0 (length xs)) (map g xs) (length_run f 0 (length xs) ∙ sym (length-map xs g))
    (λ i l.
    (let k : i < length xs = omega (arith, length_run f 0 (length xs)) in
    let e : 0 + i ≡ i = omega arith in
    get_d_run f (g d) 0 (length xs) i k ∙ ap f e ∙ h i k ∙ sym (get_or-map g xs i d)))
