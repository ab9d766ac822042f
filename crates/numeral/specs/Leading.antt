-- What the last digits of a number mean with what stands before them, and that digits that were read, without needless
-- zeros in front, are those of what they mean.
-- Assumes nothing.
use Rattle.std.specs.Prelude.{◌≡◌, refl, Bool, true, false, List, [], ◌∷◌, ◌⊎◌, ℕ, zero, suc, ◌+◌, ◌-◌, ◌*◌, ◌^◌, ◌/◌, ◌%◌, ◌≤◌, ◌<◌, length, get_or, ltb, eqb}
use Rattle.std.proofs.Common.{sym, ap, ◌∙◌, inl, inr, div-add-mod', div-one, mod-lt, pow-suc, one-mul, mul-le-mul_right, arith, le-leb, ltb-true, ltb-false, eqb-true}
use Rattle.std.proofs.Math.Nat.{div-div-eq-div-mul}
use Rattle.std.proofs.Math.Arith.{digits_div}
use Rattle.std.proofs.lemmas.Bool.{eqb-false}
use Rattle.word.specs.Tests.{both}
use Rattle.chars.specs.Chars.{digit}
use Rattle.chars.specs.Runs.{all}
use Rattle.digits.specs.Value.{worth, worth_digit, worth_of, value, value_le}
use Rattle.digits.specs.Digits.{onto, digits, digits_are, digits_few, digits_first, digits_below, digits_some}
use Rattle.digits.specs.LastDigits.{last_digits, all_last}
use Rattle.front_bytes.specs.Run.{All}
use Rattle.decimal_parts.specs.Grammar.{placed}
use Rattle.decimal.specs.Meaning.{value_placed, placed_is}

digit_of : (d : ℕ) → d < 10 → digit (48 + d) ≡ true
digit_of d h = rw (le-leb 48 (48 + d) (omega arith), le-leb (48 + d) 57 (omega arith))

pub last_digits_lem : (k c : ℕ) → All digit (last_digits k c)
unfolding last_digits
last_digits_lem zero c = tt
last_digits_lem (suc k) c = (digit_of (c / 10 ^ k % 10) (mod-lt (c / 10 ^ k) (omega arith)), last_digits_lem k c)

-- ---- what they mean: with what stands before them, the number

before_last : (c k : ℕ) → c / 10 ^ k / 10 ≡ c / 10 ^ suc k
before_last c k = div-div-eq-div-mul c (10 ^ k) 10 ∙ ap (λ (p : ℕ). c / p) (sym (pow-suc 10 k))

pub last_mean : (k c : ℕ) → value (c / 10 ^ k) (last_digits k c) ≡ c
unfolding last_digits value
last_mean zero c = div-one c
last_mean (suc k) c =
    let w = worth_of (c / 10 ^ k % 10) (mod-lt (c / 10 ^ k) (omega arith)) in
    let s : c / 10 ^ suc k * 10 + worth (48 + c / 10 ^ k % 10) ≡ c / 10 ^ k = rw (w, ← before_last c k) (div-add-mod' (c / 10 ^ k) 10) in
    ap (λ (v : ℕ). value v (last_digits k c)) s ∙ last_mean k c

-- ---- and digits that were read are the last of what they mean, behind what stood before them

placed_lt : (ds : List ℕ) → All digit ds → placed ds < 10 ^ length ds
placed_lt ds h = let v = value_le 0 ds in let p = placed_is ds h in let m = one-mul (10 ^ length ds) in omega arith

pub before_value : (v : ℕ) (ds : List ℕ) → All digit ds → value v ds / 10 ^ length ds ≡ v
before_value v ds h = rw (value_placed v ds h) (digits_div v (placed_lt ds h))

pub last_value : (v : ℕ) (ds : List ℕ) → All digit ds → last_digits (length ds) (value v ds) ≡ ds
unfolding last_digits value
last_value v [] h = refl
last_value v (d ∷ ds) h =
    let w = worth_digit d h.0 in
    let b : value (v * 10 + worth d) ds / 10 ^ length ds ≡ v * 10 + worth d = before_value (v * 10 + worth d) ds h.1 in
    let s : 48 + (v * 10 + worth d) % 10 ≡ d = omega arith in
    rw (b, s) (ap (λ (es : List ℕ). d ∷ es) (last_value (v * 10 + worth d) ds h.1))

-- ---- digits without a zero in front, or a lone one, are the digits of what they mean

all_each : (ds : List ℕ) → all digit ds ≡ true → All digit ds
unfolding all
all_each [] h = tt
all_each (d ∷ ds) h = let k = both (digit d) (all digit ds) h in (k.0, all_each ds k.1)

pub each_digit : (n : ℕ) → All digit (digits n)
each_digit n = all_each (digits n) (digits_are n)

-- "at least one digit .. and otherwise no leading zero"
abbrev pub Leading : List ℕ → Type 0
Leading ds = (length ds ≡ 1) ⊎ (48 < get_or ds 0 0)

pub leading_least : (ds : List ℕ) → All digit ds → 48 < get_or ds 0 0 → 10 ^ (length ds - 1) ≤ value 0 ds
unfolding value
leading_least [] h l = absurd (omega arith)
leading_least (d ∷ ds) h l =
    let w = worth_digit d h.0 in
    let e : length (d ∷ ds) - 1 ≡ length ds = omega arith in
    let o : 1 ≤ worth d = omega arith in
    let m : 1 * 10 ^ length ds ≤ worth d * 10 ^ length ds = mul-le-mul_right (10 ^ length ds) o in
    let z : 0 * 10 + worth d ≡ worth d = omega arith in
    let p : value 0 (d ∷ ds) ≡ worth d * 10 ^ length ds + placed ds = ap (λ (v : ℕ). value v ds) z ∙ value_placed (worth d) ds h.1 in
    let s = one-mul (10 ^ length ds) in
    rw e (omega arith)

pub digits_leading : (n : ℕ) → Leading (digits n)
unfolding digits onto
digits_leading n = go (eqb n 0) refl
  where
    go : (q : Bool) → eqb n 0 ≡ q → Leading (digits n)
    go true e = inl (rw (eqb-true n 0 e) refl)
    go false e = let z = eqb-false n 0 e in inr (digits_first n (omega arith))

digits_as_long : (ds : List ℕ) → 0 < length ds → All digit ds → Leading ds → length (digits (value 0 ds)) ≡ length ds
digits_as_long ds s h l =
    let v = value_le 0 ds in
    let o = one-mul (10 ^ length ds) in
    let few = digits_few (length ds) (value 0 ds) s (omega arith) in
    let some = digits_some (value 0 ds) in
    go few some l
  where
    go : length (digits (value 0 ds)) ≤ length ds → 0 < length (digits (value 0 ds)) → Leading ds → length (digits (value 0 ds)) ≡ length ds
    go few some (inl e) = omega arith
    go few some (inr f) = up (ltb (length (digits (value 0 ds))) (length ds)) refl
      where
        up : (q : Bool) → ltb (length (digits (value 0 ds))) (length ds) ≡ q → length (digits (value 0 ds)) ≡ length ds
        up true e =
            let t = ltb-true (length (digits (value 0 ds))) (length ds) e in
            let b = digits_below (value 0 ds) (length ds - 1) (omega arith) in
            let g = leading_least ds h f in
            absurd (omega arith)
        up false e = let t = ltb-false (length (digits (value 0 ds))) (length ds) e in omega arith

pub digits_value : (ds : List ℕ) → 0 < length ds → All digit ds → Leading ds → digits (value 0 ds) ≡ ds
digits_value ds s h l =
    let n = value 0 ds in
    sym (all_last n) ∙ ap (λ (k : ℕ). last_digits k n) (digits_as_long ds s h l) ∙ last_value 0 ds h
