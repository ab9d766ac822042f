-- The text of a number by the grammar alone (document 02 §4, with document 01's "Numbers in values"): a text shows a
-- number where the grammar writes it from parts whose number this is, with "exactly that many decimals, at least one
-- digit before the point and otherwise no leading zero, then E .. where this is not 0". And this is the text that the
-- digits make (`Numeral`), for every number that can be written and no other.
-- Assumes nothing.
use Rattle.std.specs.Prelude.{◌≡◌, refl, Bool, true, false, ◌&&◌, List, [], ◌∷◌, ◌++◌, ◌⊎◌, ℕ, zero, suc, ◌-◌, ◌^◌, ◌/◌, ◌≤◌, ◌<◌, ℤ, pos, negsuc, nat_abs, length, get_or, ltb, eqb, Ok, is_ok}
use Rattle.std.proofs.Common.{ap, ◌∙◌, inl, inr, le_trans, arith, lt-ltb, le-ltb, ltb-false}
use Rattle.std.proofs.Math.Nat.{one-le-pow}
use Rattle.std.proofs.Math.IntN.{+ℤ-neg_ℤ_cancel, -ℤ-+ℤ_cancel}
use Rattle.std.specs.Int.Signed.{lt_z}
use Rattle.std.proofs.lemmas.Bool.{eqb-false}
use Rattle.refusal.specs.declared.Rule.TheVariants.{NoRoom}
use Rattle.refusal.specs.Rows.{pick, Clear, through, clear}
use Rattle.refusal.specs.Writing.{refuse}
use Rattle.chars.specs.Chars.{digit}
use Rattle.digits.specs.Value.{value}
use Rattle.digits.specs.Digits.{digits, digits_mean, digits_some}
use Rattle.decimal_parts.specs.declared.Decimal.{Decimal}
use Rattle.front_bytes.specs.Run.{All}
use Rattle.decimal_parts.specs.Grammar.{Parts, Sign, Sign.dash, Sign.nothing, Digits, Fraction, Fraction.no_point, Fraction.point}
use Rattle.decimal_parts.specs.Grammar.{Power, Power.no_power, Power.power, Writes, Short}
use Rattle.decimal_power.specs.Power.{signed, power_of}
use Rattle.decimal_parts.specs.Answer.{decimal_of, parts_are}
use Rattle.digits.specs.LastDigits.{last_digits, last_length}
use Rattle.numeral.specs.Leading.{last_digits_lem, last_mean, last_value, before_value, Leading, leading_least}
use Rattle.numeral.specs.Leading.{each_digit, digits_value}
use Rattle.numeral_text.specs.NumeralText.{unless_zero, sign_text, point_text, power_text, spelling}
use Rattle.numeral.specs.Numeral.{raised, parts_for, numeral_of}
use Rattle.numeral_room.specs.Fitted.{fitted}
use Rattle.numeral.specs.Numeral.{numeral_rows, numeral_answer}
use Rattle.numeral_text.specs.Stored.{not_zero}

-- ---- the rule

pub record Plain (p : Parts) : Type 0 where
  -- "zero with minus" is refused
  pub sign : p.minus ≡ true → 0 < value (value 0 p.whole) p.decimals
  -- "at least one digit before the point and otherwise no leading zero"
  pub whole : Leading p.whole
  -- E stands only where the power is not 0, and has no zero in front
  pub exponent : (p.exponent ≡ []) ⊎ (48 < get_or p.exponent 0 0)

pub record Shows (n : Decimal) (t : List ℕ) : Type 0 where
  pub parts : Parts
  pub writes : Writes parts t
  pub short : Short parts
  pub plain : Plain parts
  -- whose number, decimals included, this is
  pub number : n ≡ decimal_of parts

-- ---- the grammar writes one text from parts, the one that `spelling` makes

sign_text_lem : {m : Bool} {s : List ℕ} → Sign m s → s ≡ sign_text m
unfolding sign_text
sign_text_lem dash = refl
sign_text_lem nothing = refl

fraction_text : {ds f : List ℕ} → Fraction ds f → f ≡ point_text ds
unfolding point_text
fraction_text no_point = refl
fraction_text (point {ds = []} k) = absurd (omega (arith, k.some))
fraction_text (point {ds = d ∷ ds} k) = refl

power_text_lem : {down : Bool} {ds e : List ℕ} → Power down ds e → e ≡ power_text down ds
unfolding power_text
power_text_lem no_power = refl
power_text_lem (power {s = s} {ds = []} m k) = absurd (omega (arith, k.some))
power_text_lem (power {s = s} {ds = d ∷ ds} m k) = ap (λ (q : List ℕ). 69 ∷ (q ++ (d ∷ ds))) (sign_text_lem m)

pub one_text : (p : Parts) (t : List ℕ) → Writes p t → t ≡ spelling p
unfolding spelling
one_text p t h = h.text ∙ rw (sign_text_lem h.sign, fraction_text h.fraction, power_text_lem h.power)

sign_writes : (m : Bool) → Sign m (sign_text m)
unfolding sign_text
sign_writes true = dash
sign_writes false = nothing

fraction_writes : (ds : List ℕ) → All digit ds → Fraction ds (point_text ds)
unfolding point_text
fraction_writes [] h = no_point
fraction_writes (d ∷ ds) h = point {ds = d ∷ ds} (record { some = omega arith; each = h })

power_writes : (down : Bool) (ds : List ℕ) → All digit ds → (ds ≡ [] → down ≡ false) → Power down ds (power_text down ds)
unfolding power_text
power_writes down [] h k = rw (k refl) no_power
power_writes down (d ∷ ds) h k = power {s = sign_text down} {ds = d ∷ ds} (sign_writes down) (record { some = omega arith; each = h })

pub text_writes : (p : Parts) → Digits p.whole → All digit p.decimals → All digit p.exponent → (p.exponent ≡ [] → p.down ≡ false)
    → Writes p (spelling p)
unfolding spelling
text_writes p w d e k = record {
  s = sign_text p.minus;
  f = point_text p.decimals;
  e = power_text p.down p.exponent;
  sign = sign_writes p.minus;
  whole = w;
  fraction = fraction_writes p.decimals d;
  power = power_writes p.down p.exponent e k;
  text = refl;
}

-- ---- the power behind E, as a number with a sign

signed_of : (z : ℤ) → signed (lt_z z (pos 0)) (nat_abs z) ≡ z
signed_of (pos k) = rw (le-ltb k 0 (omega arith))
signed_of (negsuc k) = refl

not_down : (z : ℤ) → nat_abs z ≡ 0 → lt_z z (pos 0) ≡ false
not_down (pos k) h = le-ltb k 0 (omega arith)
not_down (negsuc k) h = absurd (omega arith)

down_of : (down : Bool) (e : ℕ) → (e ≡ 0 → down ≡ false) → lt_z (signed down e) (pos 0) ≡ down
down_of false e h = le-ltb e 0 (omega arith)
down_of true zero h = let b = h refl in let z : ◌≡◌ {A = ℕ} 0 1 = cc in absurd (omega arith)
down_of true (suc e) h = refl

pub far_of : (down : Bool) (e : ℕ) → nat_abs (signed down e) ≡ e
far_of false e = refl
far_of true zero = refl
far_of true (suc e) = refl

unless_digits : (k : ℕ) → All digit (unless_zero k)
unless_digits zero = tt
unless_digits (suc k) = each_digit (suc k)

unless_mean : (k : ℕ) → value 0 (unless_zero k) ≡ k
unfolding value
unless_mean zero = refl
unless_mean (suc k) = digits_mean (suc k)

unless_none : (k : ℕ) → unless_zero k ≡ [] → k ≡ 0
unless_none zero h = refl
unless_none (suc k) h = let l = ap length h in absurd (omega (arith, digits_some (suc k)))

-- ---- from the digits to the grammar: the text of a number is written from parts whose number it is

same_decimal : (n : Decimal) (m : Bool) (c : ℕ) (p : ℤ) (d : ℕ) → m ≡ n.minus → c ≡ n.coefficient → p ≡ n.power → d ≡ n.decimals
    → n ≡ record { minus = m; coefficient = c; power = p; decimals = d }
same_decimal n m c p d a b e f = rw (a, b, e, f)

pub coefficient_of : (n : Decimal) → value (value 0 (digits (n.coefficient / 10 ^ n.decimals))) (last_digits n.decimals n.coefficient) ≡ n.coefficient
coefficient_of n = rw (digits_mean (n.coefficient / 10 ^ n.decimals)) (last_mean n.decimals n.coefficient)

power_of_lem : (n : Decimal)
    → power_of (lt_z (raised n.power n.decimals) (pos 0)) (value 0 (unless_zero (nat_abs (raised n.power n.decimals))))
    (length (last_digits n.decimals n.coefficient))
    ≡ n.power
unfolding power_of
power_of_lem n =
    let z = raised n.power n.decimals in
    rw (unless_mean (nat_abs z), last_length n.decimals n.coefficient, signed_of z) (+ℤ-neg_ℤ_cancel n.power (pos n.decimals))

sign_kept : (m : Bool) (c : ℕ) → m && eqb c 0 ≡ false → m && ltb 0 c ≡ m
sign_kept false c h = refl
sign_kept true c h = let z = eqb-false c 0 h in lt-ltb 0 c (omega arith)

pub parts_number : (n : Decimal) → n.minus && eqb n.coefficient 0 ≡ false → n ≡ decimal_of (parts_for n)
unfolding decimal_of parts_for
parts_number n h =
    same_decimal n _ _ _ _ (rw (coefficient_of n) (sign_kept n.minus n.coefficient h)) (coefficient_of n) (power_of_lem n)
    (last_length n.decimals n.coefficient)

pub parts_write : (n : Decimal) → Writes (parts_for n) (numeral_of n)
unfolding numeral_of parts_for
parts_write n =
    let z = raised n.power n.decimals in
    text_writes _ (record { some = digits_some _; each = each_digit _ }) (last_digits_lem _ _) (unless_digits (nat_abs z))
    (λ e. not_down z (unless_none (nat_abs z) e))

-- ---- from the grammar to the digits: plain parts are those of their number

some_first : (ds : List ℕ) → 48 < get_or ds 0 0 → 0 < length ds
some_first [] h = absurd (omega arith)
some_first (d ∷ ds) h = omega arith

first_value : (ds : List ℕ) → All digit ds → 48 < get_or ds 0 0 → 1 ≤ value 0 ds
first_value ds h f = le_trans (one-le-pow (length ds - 1) 10 (omega arith)) (leading_least ds h f)

fraction_each : {ds f : List ℕ} → Fraction ds f → All digit ds
fraction_each no_point = tt
fraction_each (point k) = k.each

power_each : {down : Bool} {ds e : List ℕ} → Power down ds e → All digit ds
power_each no_power = tt
power_each (power s k) = k.each

none_not_down : {down : Bool} {ds e : List ℕ} → Power down ds e → ds ≡ [] → down ≡ false
none_not_down no_power h = refl
none_not_down (power s k) h = let l = ap length h in absurd (omega (arith, k.some))

exponent_kept : (ds : List ℕ) → All digit ds → (ds ≡ []) ⊎ (48 < get_or ds 0 0) → unless_zero (value 0 ds) ≡ ds
unfolding value
exponent_kept ds h (inl e) = rw e
exponent_kept ds h (inr f) = not_zero (value 0 ds) (first_value ds h f) ∙ digits_value ds (some_first ds f) h (inr f)

exponent_none : (ds : List ℕ) → All digit ds → (ds ≡ []) ⊎ (48 < get_or ds 0 0) → value 0 ds ≡ 0 → ds ≡ []
exponent_none ds h (inl e) z = e
exponent_none ds h (inr f) z = let l = first_value ds h f in absurd (omega arith)

pub sign_back : (m : Bool) (c : ℕ) → (m ≡ true → 0 < c) → m && ltb 0 c ≡ m
sign_back false c h = refl
sign_back true c h = lt-ltb 0 c (h refl)

same_parts : (p : Parts) (m : Bool) (w d : List ℕ) (down : Bool) (e : List ℕ) → m ≡ p.minus → w ≡ p.whole → d ≡ p.decimals → down ≡ p.down
    → e ≡ p.exponent → parts_are m w d down e ≡ p
same_parts p m w d down e a b c f g = rw (a, b, c, f, g)

module _ (p : Parts) (t : List ℕ) (h : Writes p t) where
  -- the power plus the count is what stands behind E
  pub raised_back : raised (decimal_of p).power (decimal_of p).decimals ≡ signed p.down (value 0 p.exponent)
  unfolding decimal_of power_of
  raised_back = -ℤ-+ℤ_cancel (signed p.down (value 0 p.exponent)) (pos (length p.decimals))

  pub whole_back : (decimal_of p).coefficient / 10 ^ (decimal_of p).decimals ≡ value 0 p.whole
  unfolding decimal_of
  whole_back = before_value (value 0 p.whole) p.decimals (fraction_each h.fraction)

  pub parts_kept : Plain p → parts_for (decimal_of p) ≡ p
  unfolding parts_for decimal_of
  parts_kept q =
      let e = power_each h.power in
      same_parts p _ _ _ _ _ (sign_back p.minus _ q.sign)
      (ap digits whole_back ∙ digits_value p.whole h.whole.some h.whole.each q.whole)
      (last_value (value 0 p.whole) p.decimals (fraction_each h.fraction))
      (rw raised_back (down_of p.down (value 0 p.exponent) (λ z. none_not_down h.power (exponent_none p.exponent e q.exponent z))))
      (rw (raised_back, far_of p.down (value 0 p.exponent)) (exponent_kept p.exponent e q.exponent))

-- ---- the two views are one

-- a length is answered exactly where no row is met
fits_from : (room : ℕ) (t : List ℕ) (size : ℕ) → fitted room t ≡ Ok size → (length t ≤ room) × (size ≡ length t)
fits_from room t size e = go (ltb room (length t)) refl e
  where
    go : (q : Bool) → ltb room (length t) ≡ q → pick q (refuse NoRoom 0) (Ok (length t)) ≡ Ok size → (length t ≤ room) × (size ≡ length t)
    go true f g = let z : ◌≡◌ {A = ℕ} 0 1 = cc in absurd (omega arith)
    go false f g = (ltb-false room (length t) f, cc)

pub rows_from : (room : ℕ) (n : Decimal) (size : ℕ) → numeral_answer room n ≡ Ok size
    → Clear (numeral_rows n) × (length (numeral_of n) ≤ room) × (size ≡ length (numeral_of n))
unfolding numeral_answer
rows_from room n size e =
    let c = clear is_ok (Ok size) refl (numeral_rows n) (fitted room (numeral_of n)) refl e in
    let f = fits_from room (numeral_of n) size c.1 in
    (c.0, f.0, f.1)

pub rows_to : (room : ℕ) (n : Decimal) → Clear (numeral_rows n) → length (numeral_of n) ≤ room → numeral_answer room n ≡ Ok (length (numeral_of n))
unfolding numeral_answer
rows_to room n c l = through (numeral_rows n) (fitted room (numeral_of n)) c ∙ rw (le-ltb room (length (numeral_of n)) l)

pub rows_short : (n : Decimal) → Clear (numeral_rows n) → Short (parts_for n)
rows_short n c = record { before = ltb-false 18 _ c.1.0; after = ltb-false 2 _ c.1.1.0 }
