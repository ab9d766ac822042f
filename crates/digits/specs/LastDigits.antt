-- The last k digits of a number, zeros in front among them, as they are stored; and how many a number has, by the power
-- of ten that it reaches.
-- Assumes nothing.
use Rattle.std.specs.Prelude.{◌≡◌, refl, Bool, true, false, List, [], ◌∷◌, ◌++◌, ℕ, zero, suc, ◌+◌, ◌-◌, ◌^◌, ◌/◌, ◌%◌, ◌≤◌, ◌<◌, length, set, ltb, ◌*◌, max}
use Rattle.std.proofs.Common.{sym, ap, ◌∙◌, div-one, arith, length-set, ltb-true, ltb-false, pow-suc}
use Rattle.std.proofs.Math.Nat.{div-div-eq-div-mul, pow-succ', one-le-pow}
use Rattle.std.proofs.lemmas.List.{set_comm}
use Rattle.word.specs.Put.{put, put_append}
use Rattle.word.specs.Wrote.{Wrote}
use Rattle.digits.specs.Digits.{digits, digits_few, digits_more, digits_one, more_long}

-- the digit that counts ten to the k, then the last k
unfoldable pub last_digits : ℕ → ℕ → List ℕ
last_digits zero c = []
last_digits (suc k) c = (48 + c / 10 ^ k % 10) ∷ last_digits k c

-- ---- how many, and that they are digits

pub last_length : (k c : ℕ) → length (last_digits k c) ≡ k
unfolding last_digits
last_length zero c = refl
last_length (suc k) c = ap suc (last_length k c)

-- ---- one more: before the last k + 1 stands what is before the last k of a tenth

pub before_turn : (c k : ℕ) → c / 10 / 10 ^ k ≡ c / 10 ^ suc k
before_turn c k = div-div-eq-div-mul c 10 (10 ^ k) ∙ ap (λ (p : ℕ). c / p) (sym (pow-succ' 10 k))

pub last_turn : (k c : ℕ) → last_digits (suc k) c ≡ last_digits k (c / 10) ++ ((48 + c % 10) ∷ [])
unfolding last_digits
last_turn zero c = ap (λ (n : ℕ). (48 + n % 10) ∷ []) (div-one c)
last_turn (suc k) c = rw (before_turn c k) (ap (λ (ds : List ℕ). (48 + c / 10 ^ suc k % 10) ∷ ds) (last_turn k c))

-- ---- as many as a number has are its digits

last_all : (m n : ℕ) → n < m → last_digits (length (digits n)) n ≡ digits n
unfolding last_digits
last_all zero n h = absurd (omega arith)
last_all (suc m) n h = go (ltb n 10) refl (last_all m (n / 10))
  where
    go : (w : Bool) → ltb n 10 ≡ w → (n / 10 < m → last_digits (length (digits (n / 10))) (n / 10) ≡ digits (n / 10)) → last_digits (length (digits n)) n ≡ digits n
    go true e i =
        let l = ltb-true n 10 e in
        let s : n / 1 % 10 ≡ n = omega (arith, div-one n) in
        rw (digits_one n l, s)
    go false e i =
        let l = ltb-false n 10 e in
        let s : length (digits n) ≡ suc (length (digits (n / 10))) = omega (arith, more_long n l) in
        ap (λ (k : ℕ). last_digits k n) s ∙ last_turn (length (digits (n / 10))) n
        ∙ ap (λ (ds : List ℕ). ds ++ ((48 + n % 10) ∷ [])) (i (omega arith)) ∙ sym (digits_more n l)

pub all_last : (n : ℕ) → last_digits (length (digits n)) n ≡ digits n
all_last n = last_all (suc n) n (omega arith)

-- ---- how many a number has

pub count_power : (k n : ℕ) → 10 ^ k ≤ n → n < 10 * 10 ^ k → length (digits n) ≡ k + 1
count_power zero n h l = ap length (digits_one n (omega arith))
count_power (suc k) n h l =
    let p : 10 ^ suc k ≡ 10 ^ k * 10 = pow-suc 10 k in
    let q : 0 < 10 ^ k = one-le-pow k 10 (omega arith) in
    omega (arith, more_long n (omega arith), count_power k (n / 10) (omega arith) (omega arith))

-- 0 has as many as 1
pub count_any : (k n m : ℕ) → m ≡ max n 1 → 10 ^ k ≤ m → m < 10 * 10 ^ k → k + 1 ≡ length (digits n)
count_any k n m e h l = go (ltb n 1) refl
  where
    go : (w : Bool) → ltb n 1 ≡ w → k + 1 ≡ length (digits n)
    go true f =
        let b = ltb-true n 1 f in
        let z : m ≡ 1 = omega arith in
        let o : length (digits n) ≡ 1 = ap length (digits_one n (omega arith)) in
        let p : length (digits 1) ≡ 1 = ap length (digits_one 1 (omega arith)) in
        let c : length (digits m) ≡ k + 1 = count_power k m h l in
        let d : length (digits m) ≡ length (digits 1) = ap (λ (i : ℕ). length (digits i)) z in
        omega arith
    go false f =
        let b = ltb-false n 1 f in
        let z : m ≡ n = omega arith in
        let c : length (digits m) ≡ k + 1 = count_power k m h l in
        let d : length (digits m) ≡ length (digits n) = ap (λ (i : ℕ). length (digits i)) z in
        omega arith

-- a count by division: the digits that are counted, and those of what is left, are one more than all
abbrev pub Counting : ℕ → ℕ → ℕ → Type 0
Counting n left k = k + length (digits left) ≡ 1 + length (digits n)

pub counting_turn : (n left k : ℕ) → Counting n left k → 10 ≤ left → Counting n (left / 10) (k + 1)
counting_turn n left k e h =
    omega (arith, more_long left h)

pub counting_over : (n left k : ℕ) → Counting n left k → left < 10 → k ≡ length (digits n)
counting_over n left k e h = let o = ap length (digits_one left h) in omega arith

pub at_most_twenty : (n : ℕ) → n < 18446744073709551616 → length (digits n) ≤ 20
at_most_twenty n h = let e : 10 ^ 20 ≡ 100000000000000000000 = refl in digits_few 20 n (omega arith) (rw e (omega arith))

-- ---- the last digits, from the last to the first: those that are to come stand before those that are stored

set_past : {A : Type 0} (bs xs : List A) (at i : ℕ) (b : A) → at + length bs ≤ i → set (put xs at bs) i b ≡ put (set xs i b) at bs
unfolding put
set_past [] xs at i b h = refl
set_past {A = A} (x ∷ bs) xs at i b h =
    let n : at ≡ i → ⊥ = λ e. omega arith in
    set_past bs (set xs at x) (at + 1) i b (omega arith) ∙ ap (λ (ys : List A). put ys (at + 1) bs) (set_comm xs at i x b n)

put_last : (bs xs : List ℕ) (at b : ℕ) → put (set xs (at + length bs) b) at bs ≡ put xs at (bs ++ (b ∷ []))
unfolding put
put_last bs xs at b = sym (set_past bs xs at (at + length bs) b (omega arith)) ∙ sym (put_append bs (b ∷ []) xs at)

-- the digits that are left, stored from here on, are all of them stored in what was lent
pub record StoringLast (xs : List ℕ) (at c k : ℕ) (ys : List ℕ) (left i : ℕ) : Type 0 where
  pub upto : i ≤ k
  pub long : length ys ≡ length xs
  pub whole : put ys at (last_digits i left) ≡ put xs at (last_digits k c)

pub last_start : (xs : List ℕ) (at c k : ℕ) → StoringLast xs at c k xs c k
last_start xs at c k = record { upto = omega arith; long = refl; whole = refl }

pub last_again : {xs : List ℕ} {at c k : ℕ} {ys : List ℕ} {left i : ℕ} → StoringLast xs at c k ys left i → 0 < i
    → StoringLast xs at c k (set ys (at + (i - 1)) (48 + left % 10)) (left / 10) (i - 1)
last_again {xs} {at} {c} {k} {ys} {left} {i} s h =
    let e : i ≡ suc (i - 1) = omega arith in
    let l = last_length (i - 1) (left / 10) in
    let p : put (set ys (at + (i - 1)) (48 + left % 10)) at (last_digits (i - 1) (left / 10)) ≡ put ys at (last_digits (suc (i - 1)) left) =
    ap (λ (n : ℕ). put (set ys (at + n) (48 + left % 10)) at (last_digits (i - 1) (left / 10))) (sym l)
    ∙ put_last (last_digits (i - 1) (left / 10)) ys at (48 + left % 10)
    ∙ ap (λ (ds : List ℕ). put ys at ds) (sym (last_turn (i - 1) left)) in
    record {
      upto = omega (arith, s.upto);
      long = length-set ys (at + (i - 1)) (48 + left % 10) ∙ s.long;
      whole = p ∙ ap (λ (n : ℕ). put ys at (last_digits n left)) (sym e) ∙ s.whole;
    }

pub last_over : {xs : List ℕ} {at c k : ℕ} {ys : List ℕ} {left i : ℕ} → StoringLast xs at c k ys left i → i ≤ 0 → Wrote xs at (last_digits k c) (at + k) ys
unfolding put last_digits
last_over {at = at} {c = c} {k = k} {ys = ys} {left = left} {i = i} s h =
    let e : i ≡ 0 = omega arith in
    let l = last_length k c in
    (omega arith, ap (λ (n : ℕ). put ys at (last_digits n left)) (sym e) ∙ s.whole)
