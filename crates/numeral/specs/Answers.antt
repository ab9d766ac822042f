-- How many digits a number has, and a law for each answer of the writer. Assumes nothing.
use Rattle.std.specs.Prelude.{◌≡◌, refl, Bool, true, false, ◌&&◌, ℕ, zero, suc, ◌+◌, ◌-◌, ◌*◌, ◌^◌, ◌/◌, ◌≤◌, ◌<◌, pos, negsuc, nat_abs, ltb, eqb, Result}
use Rattle.std.proofs.Math.Path.{sym, ap}
use Rattle.std.proofs.Common.{◌∙◌, div-lt_iff_lt-mul, arith, length-append, pow-add, ℤ}
use Rattle.std.specs.Prelude.{List, [], ◌∷◌}
use Rattle.std.proofs.Math.Nat.{one-le-pow}
use Rattle.std.proofs.Math.ListN.{length}
use Rattle.std.specs.Int.Signed.{lt_z}
use Rattle.std.proofs.Common.{lt-ltb, le-ltb, ltb-true, ltb-false}
use Rattle.word.specs.Put.{put}
use Rattle.refusal.specs.declared.Rule.TheVariants.{NoNumber, Digits}
use Rattle.refusal.specs.Writing.{refuse, on_written}
use Rattle.digits.specs.Digits.{digits, digits_few, digits_some, digits_below}
use Rattle.decimal_parts.specs.declared.Decimal.{Decimal}
use Rattle.decimal_parts.specs.Grammar.{Parts, Short}
use Rattle.digits.specs.LastDigits.{last_digits, last_length}
use Rattle.numeral_text.specs.NumeralText.{unless_zero, parts_with, sign_text, point_text, power_text, spelling}
use Rattle.numeral_text.specs.Stored.{not_zero, text_length}
use Rattle.numeral_room.specs.Fitted.{fitted}
use Rattle.numeral.specs.Numeral.{raised, parts_for, numeral_of, numeral_answer, numeral_left}
use Rattle.refusal.specs.declared.Refusal.{Refusal}

-- ---- the power plus the count, by magnitudes

pub raised_up : (z : ℤ) (n : ℕ) → lt_z z (pos 0) ≡ false → (false ≡ lt_z (raised z n) (pos 0)) × (nat_abs z + n ≡ nat_abs (raised z n))
raised_up (pos k) n h = (sym (le-ltb (k + n) 0 (omega arith)), refl)
raised_up (negsuc k) n h = let e : ◌≡◌ {A = ℕ} 0 1 = cc in absurd (omega arith)

pub raised_over : (z : ℤ) (n : ℕ) → lt_z z (pos 0) ≡ true → nat_abs z ≤ n → (false ≡ lt_z (raised z n) (pos 0)) × (n - nat_abs z ≡ nat_abs (raised z n))
raised_over (pos k) n h l = let t = ltb-true k 0 h in absurd (omega arith)
raised_over (negsuc k) n h l = rw (le-ltb n (suc k) l) (sym (le-ltb (n - suc k) 0 (omega arith)), refl)

pub raised_under : (z : ℤ) (n : ℕ) → lt_z z (pos 0) ≡ true → n < nat_abs z → (true ≡ lt_z (raised z n) (pos 0)) × (nat_abs z - n ≡ nat_abs (raised z n))
raised_under (pos k) n h l = let t = ltb-true k 0 h in absurd (omega arith)
raised_under (negsuc k) n h l = rw (lt-ltb n (suc k) l) (refl, omega arith)

-- ---- the length of the whole text

sign_most : (m : Bool) → length (sign_text m) ≤ 1
unfolding sign_text
sign_most true = omega arith
sign_most false = omega arith

point_most : (d : List ℕ) → length (point_text d) ≤ length d + 1
unfolding point_text
point_most [] = omega arith
point_most (x ∷ d) = omega arith

power_most : (down : Bool) (e : List ℕ) → length (power_text down e) ≤ length e + 2
unfolding power_text
power_most down [] = omega arith
power_most down (x ∷ e) = let l = length-append (sign_text down) (x ∷ e) in omega (arith, l, sign_most down)

-- "at most 18 digits before E .. and at most 2 after it" make at most 24 bytes
pub text_most : (p : Parts) → Short p → length (spelling p) ≤ 24
text_most p s =
    omega (arith, text_length p, sign_most p.minus, point_most p.decimals, power_most p.down p.exponent, s.before, s.after)

-- ---- the counts of digits, as the code tests them

module _ (k c : ℕ) where
  pub count_many : 17 < k → 18 < length (digits (c / 10 ^ k)) + length (last_digits k c)
  count_many h = omega (arith, digits_some (c / 10 ^ k), last_length k c)

  power_split : k ≤ 17 → 10 ^ (18 - k) * 10 ^ k ≡ 1000000000000000000
  power_split h = let e : 18 - k + k ≡ 18 = omega arith in sym (pow-add 10 (18 - k) k) ∙ ap (λ (n : ℕ). 10 ^ n) e

  pub count_large : k ≤ 17 → 999999999999999999 < c → 18 < length (digits (c / 10 ^ k)) + length (last_digits k c)
  count_large h l = go (ltb 18 (length (digits (c / 10 ^ k)) + k)) refl
    where
      go : (q : Bool) → ltb 18 (length (digits (c / 10 ^ k)) + k) ≡ q → 18 < length (digits (c / 10 ^ k)) + length (last_digits k c)
      go true e = let t = ltb-true 18 (length (digits (c / 10 ^ k)) + k) e in omega (arith, last_length k c)
      go false e =
          let t = ltb-false 18 (length (digits (c / 10 ^ k)) + k) e in
          let b : c / 10 ^ k < 10 ^ (18 - k) = digits_below (c / 10 ^ k) (18 - k) (omega arith) in
          let m : c < 10 ^ (18 - k) * 10 ^ k = (div-lt_iff_lt-mul (one-le-pow k 10 (omega arith))).0 b in
          absurd (omega (arith, power_split h))

  pub count_few : k ≤ 17 → c ≤ 999999999999999999 → length (digits (c / 10 ^ k)) + length (last_digits k c) ≤ 18
  count_few h l =
      let p = power_split h in
      let m : c < 10 ^ (18 - k) * 10 ^ k = omega arith in
      let b : c / 10 ^ k < 10 ^ (18 - k) = (div-lt_iff_lt-mul (one-le-pow k 10 (omega arith))).1 m in
      omega (arith, digits_few (18 - k) (c / 10 ^ k) (omega arith) b, last_length k c)

pub after_many : (far : ℕ) → 99 < far → 2 < length (unless_zero far)
after_many far h = go (ltb 2 (length (digits far))) refl
  where
    go : (q : Bool) → ltb 2 (length (digits far)) ≡ q → 2 < length (unless_zero far)
    go true e = rw (not_zero far (omega arith)) (ltb-true 2 (length (digits far)) e)
    go false e = let b = digits_below far 2 (ltb-false 2 (length (digits far)) e) in absurd (omega arith)

pub after_few : (far : ℕ) → far ≤ 99 → length (unless_zero far) ≤ 2
after_few zero h = omega arith
after_few (suc k) h = digits_few 2 (suc k) (omega arith) (omega arith)

-- ---- a law for each answer of the writer: what it answers, and what it leaves

abbrev pub Answers : List ℕ → Decimal → Result ℕ Refusal → List ℕ → Type 0
Answers xs n r ys = (r ≡ numeral_answer (length xs) n) × (ys ≡ numeral_left xs n)

module _ (xs : List ℕ) (n : Decimal) where
  pub zero_minus : n.minus && eqb n.coefficient 0 ≡ true → Answers xs n (refuse NoNumber 0) xs
  unfolding numeral_answer numeral_left
  zero_minus h = rw h (refl, refl)

  module _ (sign : n.minus && eqb n.coefficient 0 ≡ false) where
    too_many_digits : 18 < length (digits (n.coefficient / 10 ^ n.decimals)) + length (last_digits n.decimals n.coefficient)
        → Answers xs n (refuse Digits 0) xs
    unfolding numeral_answer numeral_left parts_for
    too_many_digits h =
        rw (sign, lt-ltb 18 (length (digits (n.coefficient / 10 ^ n.decimals)) + length (last_digits n.decimals n.coefficient)) h) (refl, refl)

    pub many_decimals : 17 < n.decimals → Answers xs n (refuse Digits 0) xs
    many_decimals h = too_many_digits (count_many n.decimals n.coefficient h)

    module _ (few : n.decimals ≤ 17) where
      pub large_coefficient : 999999999999999999 < n.coefficient → Answers xs n (refuse Digits 0) xs
      large_coefficient h = too_many_digits (count_large n.decimals n.coefficient few h)

      module _ (small : n.coefficient ≤ 999999999999999999) (far : ℕ) (is-far : far ≡ nat_abs (raised n.power n.decimals)) where
        digits_within : ltb 18 (length (digits (n.coefficient / 10 ^ n.decimals)) + length (last_digits n.decimals n.coefficient)) ≡ false
        digits_within = le-ltb 18 _ (count_few n.decimals n.coefficient few small)

        pub far_power : 99 < far → Answers xs n (refuse Digits 0) xs
        unfolding numeral_answer numeral_left parts_for
        far_power h = rw (sign, digits_within, ← is-far, lt-ltb 2 (length (unless_zero far)) (after_many far h)) (refl, refl)

        module _ (near : far ≤ 99) (down : Bool) (is_down : down ≡ lt_z (raised n.power n.decimals) (pos 0)) where
          the_text : spelling (parts_with n.minus n.coefficient n.decimals down far) ≡ numeral_of n
          unfolding numeral_of parts_for
          the_text = rw (is_down, is-far)

          through_rows : numeral_answer (length xs) n ≡ fitted (length xs) (numeral_of n)
          unfolding numeral_answer parts_for
          through_rows = rw (sign, digits_within, ← is-far, le-ltb 2 (length (unless_zero far)) (after_few far near))

          pub the_answer : (r : Result ℕ Refusal) (ys : List ℕ)
              → r ≡ fitted (length xs) (spelling (parts_with n.minus n.coefficient n.decimals down far))
              → ys ≡ on_written r (put xs 0 (spelling (parts_with n.minus n.coefficient n.decimals down far))) xs
              → Answers xs n r ys
          unfolding numeral_left
          the_answer r ys a l =
              let w : r ≡ numeral_answer (length xs) n = a ∙ ap (fitted (length xs)) the_text ∙ sym through_rows in
              (w, rw (← w) (l ∙ ap (λ (t : List ℕ). on_written r (put xs 0 t) xs) the_text))
