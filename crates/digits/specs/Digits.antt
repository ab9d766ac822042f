-- A number in decimal, "without leading zeros": its characters, and that they are digits and mean the number.
-- Assumes nothing.
use Rattle.std.specs.Prelude.{◌≡◌, refl, Bool, true, false, List, [], ◌∷◌, ◌++◌, ℕ, zero, suc, ◌+◌, ◌-◌, ◌*◌, ◌^◌, ◌/◌, ◌%◌, ◌≤◌, ◌<◌, length, get_or, ltb}
use Rattle.std.proofs.Common.{sym, ap, ◌∙◌, append_assoc, pow-suc, one-mul, lt_of_lt_of_le, arith, length-append, lt-ltb, le-ltb, ltb-true, ltb-false, le-leb}
use Rattle.std.proofs.Math.Nat.{pow-le-pow_right}
use Rattle.refusal.specs.Rows.{pick}
use Rattle.chars.specs.Chars.{digit}
use Rattle.chars.specs.Runs.{all}
use Rattle.digits.specs.Value.{worth, worth_of, value, value_le}

-- the digits of n before those that are there: the last digit first. The first number bounds how many there are; one
-- more than n is enough
unfoldable pub onto : ℕ → ℕ → List ℕ → List ℕ
onto zero n there = there
onto (suc m) n there = pick (ltb n 10) ((48 + n) ∷ there) (onto m (n / 10) ((48 + n % 10) ∷ there))

unfoldable pub digits : ℕ → List ℕ
digits n = onto (suc n) n []

-- ---- they mean the number

onto_means : (m n : ℕ) (there : List ℕ) → n < m → value 0 (onto m n there) ≡ value n there
unfolding onto value
onto_means zero n there h = absurd (omega arith)
onto_means (suc m) n there h = go (ltb n 10) refl (onto_means m (n / 10) ((48 + n % 10) ∷ there))
  where
    go : (w : Bool) → ltb n 10 ≡ w → (n / 10 < m → value 0 (onto m (n / 10) ((48 + n % 10) ∷ there)) ≡ value (n / 10) ((48 + n % 10) ∷ there))
        → value 0 (pick w ((48 + n) ∷ there) (onto m (n / 10) ((48 + n % 10) ∷ there))) ≡ value n there
    go true e i = let s : 0 * 10 + worth (48 + n) ≡ n = omega (arith, worth_of n (ltb-true n 10 e)) in ap (λ (k : ℕ). value k there) s
    go false e i =
        let l : 10 ≤ n = ltb-false n 10 e in
        let s : n / 10 * 10 + worth (48 + n % 10) ≡ n = omega (arith, worth_of (n % 10) (omega arith)) in
        i (omega arith) ∙ ap (λ (k : ℕ). value k there) s

pub digits_mean : (n : ℕ) → value 0 (digits n) ≡ n
unfolding digits value
digits_mean n = onto_means (suc n) n [] (omega arith)

onto_digits : (m n : ℕ) (there : List ℕ) → all digit there ≡ true → all digit (onto m n there) ≡ true
unfolding onto all
onto_digits zero n there h = h
onto_digits (suc m) n there h = go (ltb n 10) refl (onto_digits m (n / 10) ((48 + n % 10) ∷ there))
  where
    go : (w : Bool) → ltb n 10 ≡ w → (all digit ((48 + n % 10) ∷ there) ≡ true → all digit (onto m (n / 10) ((48 + n % 10) ∷ there)) ≡ true)
        → all digit (pick w ((48 + n) ∷ there) (onto m (n / 10) ((48 + n % 10) ∷ there))) ≡ true
    go true e i = let l : n < 10 = ltb-true n 10 e in rw (le-leb 48 (48 + n) (omega arith), le-leb (48 + n) 57 (omega arith), h)
    go false e i = i (rw (le-leb 48 (48 + n % 10) (omega arith), le-leb (48 + n % 10) 57 (omega arith), h))

pub digits_are : (n : ℕ) → all digit (digits n) ≡ true
unfolding digits all
digits_are n = onto_digits (suc n) n [] refl

-- no leading zero: the first character of a number that is not 0 is not 0's
onto_first : (m n : ℕ) (there : List ℕ) → 0 < n → n < m → 48 < get_or (onto m n there) 0 0
unfolding onto
onto_first zero n there p h = absurd (omega arith)
onto_first (suc m) n there p h = go (ltb n 10) refl (onto_first m (n / 10) ((48 + n % 10) ∷ there))
  where
    go : (w : Bool) → ltb n 10 ≡ w → (0 < n / 10 → n / 10 < m → 48 < get_or (onto m (n / 10) ((48 + n % 10) ∷ there)) 0 0)
        → 48 < get_or (pick w ((48 + n) ∷ there) (onto m (n / 10) ((48 + n % 10) ∷ there))) 0 0
    go true e i = omega arith
    go false e i = let l : 10 ≤ n = ltb-false n 10 e in i (omega arith) (omega arith)

pub digits_first : (n : ℕ) → 0 < n → 48 < get_or (digits n) 0 0
unfolding digits
digits_first n h = onto_first (suc n) n [] h (omega arith)

-- ---- how many: a number below ten to the k has at most k
below : (n k : ℕ) → 10 ≤ n → n < 10 ^ k → (1 < k) × (n / 10 < 10 ^ (k - 1))
below n zero l h = absurd (omega arith)
below n (suc zero) l h = absurd (omega arith)
below n (suc (suc k)) l h =
    let e : suc (suc k) - 1 ≡ suc k = omega arith in
    let p : 10 ^ (suc (suc k)) ≡ 10 ^ (suc k) * 10 = pow-suc 10 (suc k) in
    (omega arith, rw e (omega (arith, p)))

onto_few : (m n k : ℕ) (there : List ℕ) → 0 < k → n < 10 ^ k → length (onto m n there) ≤ k + length there
unfolding onto
onto_few zero n k there p h = omega arith
onto_few (suc m) n k there p h = go (ltb n 10) refl (onto_few m (n / 10) (k - 1) ((48 + n % 10) ∷ there))
  where
    go : (w : Bool) → ltb n 10 ≡ w
        → (0 < k - 1 → n / 10 < 10 ^ (k - 1) → length (onto m (n / 10) ((48 + n % 10) ∷ there)) ≤ k - 1 + length ((48 + n % 10) ∷ there))
        → length (pick w ((48 + n) ∷ there) (onto m (n / 10) ((48 + n % 10) ∷ there))) ≤ k + length there
    go true e i = omega arith
    go false e i =
        let b = below n k (ltb-false n 10 e) h in
        omega (arith, i (omega (arith, b.0)) b.1, b.0)

pub digits_few : (k n : ℕ) → 0 < k → n < 10 ^ k → length (digits n) ≤ k
unfolding digits
digits_few k n p h = omega (arith, onto_few (suc n) n k [] p h)

-- and one that has at most k is below ten to the k
digits_upto : (n : ℕ) → n < 10 ^ length (digits n)
digits_upto n = let v = value_le 0 (digits n) in let m = digits_mean n in let o = one-mul (10 ^ length (digits n)) in omega arith

pub digits_below : (n k : ℕ) → length (digits n) ≤ k → n < 10 ^ k
digits_below n k h = lt_of_lt_of_le (digits_upto n) (pow-le-pow_right {n = 10} (omega arith) h)

-- ---- the last of them, and those before it

onto_behind : (m n : ℕ) (there : List ℕ) → onto m n there ≡ onto m n [] ++ there
unfolding onto
onto_behind zero n there = refl
onto_behind (suc m) n there = go (ltb n 10)
    (onto_behind m (n / 10) ((48 + n % 10) ∷ there)
    ∙ sym (ap (λ (ds : List ℕ). ds ++ there) (onto_behind m (n / 10) ((48 + n % 10) ∷ [])) ∙ append_assoc (onto m (n / 10) []) ((48 + n % 10) ∷ []) there))
  where
    go : (w : Bool) → onto m (n / 10) ((48 + n % 10) ∷ there) ≡ onto m (n / 10) ((48 + n % 10) ∷ []) ++ there
        → pick w ((48 + n) ∷ there) (onto m (n / 10) ((48 + n % 10) ∷ there)) ≡ pick w ((48 + n) ∷ []) (onto m (n / 10) ((48 + n % 10) ∷ [])) ++ there
    go true i = refl
    go false i = i

-- any bound above n is enough
onto_enough : (m k n : ℕ) (there : List ℕ) → n < m → n < k → onto m n there ≡ onto k n there
unfolding onto
onto_enough zero k n there h l = absurd (omega arith)
onto_enough (suc m) zero n there h l = absurd (omega arith)
onto_enough (suc m) (suc k) n there h l = go (ltb n 10) refl (onto_enough m k (n / 10) ((48 + n % 10) ∷ there))
  where
    go : (w : Bool) → ltb n 10 ≡ w
        → (n / 10 < m → n / 10 < k → onto m (n / 10) ((48 + n % 10) ∷ there) ≡ onto k (n / 10) ((48 + n % 10) ∷ there))
        → pick w ((48 + n) ∷ there) (onto m (n / 10) ((48 + n % 10) ∷ there)) ≡ pick w ((48 + n) ∷ there) (onto k (n / 10) ((48 + n % 10) ∷ there))
    go true e i = refl
    go false e i = let s = ltb-false n 10 e in i (omega arith) (omega arith)

pub digits_more : (n : ℕ) → 10 ≤ n → digits n ≡ digits (n / 10) ++ ((48 + n % 10) ∷ [])
unfolding digits onto
digits_more n h =
    rw (le-ltb n 10 h) (onto_behind n (n / 10) ((48 + n % 10) ∷ [])
    ∙ ap (λ (ds : List ℕ). ds ++ ((48 + n % 10) ∷ [])) (onto_enough n (suc (n / 10)) (n / 10) [] (omega arith) (omega arith)))

pub digits_one : (n : ℕ) → n < 10 → digits n ≡ (48 + n) ∷ []
unfolding digits onto
digits_one n h = rw (lt-ltb n 10 h)

-- one digit more than its tenth has
pub more_long : (n : ℕ) → 10 ≤ n → length (digits n) ≡ length (digits (n / 10)) + 1
more_long n h = ap length (digits_more n h) ∙ length-append (digits (n / 10)) ((48 + n % 10) ∷ [])

pub digits_some : (n : ℕ) → 0 < length (digits n)
digits_some n = go (ltb n 10) refl
  where
    go : (w : Bool) → ltb n 10 ≡ w → 0 < length (digits n)
    go true e = let l = ap length (digits_one n (ltb-true n 10 e)) in omega arith
    go false e = let l = more_long n (ltb-false n 10 e) in omega arith
