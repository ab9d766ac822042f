-- "Rounded once": the coefficient and ten to the absolute power are exact doubles, and the double of a number is its
-- decimal value, rounded once to the nearest by IEEE 754.
-- Assumes nothing.
use Rattle.std.specs.Prelude.{◌≡◌, refl, Bool, true, false, not, cond, List, [], ◌∷◌, ℕ, zero, suc, ◌+◌, ◌*◌, ◌^◌, ◌≤◌, ◌<◌, ltb, ℤ, pos, negsuc, nat_abs, Float, Result, Ok, Err, is_ok}
use Rattle.std.proofs.Common.{sym, ap, ap₂, ◌∙◌, mul-one, one-mul, zero-mul, mul-pos, mul_comm, le_trans, arith, ltb-false, le-ltb}
use Rattle.std.proofs.Math.Nat.{mul-mul-mul_comm, pow-le-pow_right, one-le-pow}
use Rattle.std.proofs.Math.Dec.{eqb-suc-zero}
use Rattle.std.specs.Int.Signed.{lt_z, non_neg}
use Rattle.std.specs.Float.{nan, inf, fin, Format, binary64}
use Rattle.std.specs.Float.Ieee.{low, prec, emax, up, down, odd, units, round, neg, mul, div, of_int, unlike}
use Rattle.std.specs.Float.Ieee.Exact.{HasValue}
use Rattle.std.specs.Float.Ieee.Back.{round_whole}
use Rattle.std.specs.Float.Ieee.Scale.{round_same}
use Rattle.std.specs.Float.Ieee.Fits.{up_pos, down_pos}
use Rattle.refusal.specs.Rows.{pick, clear}
use Rattle.decimal_parts.specs.declared.Decimal.{Decimal}
use Rattle.decimal_parts.specs.Grammar.{Parts, Writes, over, under}
use Rattle.decimal_parts.specs.Answer.{decimal_of}
use Rattle.decimal.specs.Number.{number_in}
use Rattle.decimal.specs.Agreed.{parts_unique, is_number}
use Rattle.double.specs.Double.{exact, scaled_of, with_sign, no_double, double_from, on_number, double_of}
use Rattle.decimal.specs.Meaning.{raise, lower, numerator, denominator, denominator_pos, under_pos, means}
use Rattle.refusal.specs.declared.Refusal.{Refusal}

-- ---- whole numbers up to 2^53, and the powers of ten that are used, are doubles exactly

pub whole_exact : (z : ℤ) → nat_abs z ≤ 9007199254740992 → HasValue (of_int binary64 z) (not (non_neg z)) (nat_abs z) 1
unfolding of_int
whole_exact (pos n) h = round_whole binary64 false n h
whole_exact (negsuc n) h = round_whole binary64 true (suc n) h

pub ten_exact : (k : ℕ) → k ≤ 15 → HasValue (exact (10 ^ k)) false (10 ^ k) 1
ten_exact k h = whole_exact (pos (10 ^ k)) (le_trans (pow-le-pow_right {n = 10} (omega arith) {i = k} {j = 15} h) (omega arith))

-- ---- one operation on two doubles rounds the exact result, once: x is a / p in size and y is b / q, of either sign

pub mul_once : (f : Format) (x y : Float) (s t : Bool) (a b p q : ℕ) → 0 < p → 0 < q → HasValue x s a p → HasValue y t b q
    → mul f x y ≡ round f (unlike s t) (a * b) (p * q)
unfolding mul
mul_once f nan y s t a b p q hp hq v w = absurd v
mul_once f (inf i) y s t a b p q hp hq v w = absurd v
mul_once f (fin i m e) nan s t a b p q hp hq v w = absurd w
mul_once f (fin i m e) (inf j) s t a b p q hp hq v w = absurd w
mul_once f (fin i m e) (fin j n d) s t a b p q hp hq v w =
    rw (v.0, w.0)
    (round_same f _ (m * up e * (n * up d)) (down e * down d) (a * b) (p * q) (mul-pos (down_pos e) (down_pos d)) (mul-pos hp hq)
    (mul-mul-mul_comm (m * up e) (n * up d) p q ∙ ap₂ (λ (i j : ℕ). i * j) v.1 w.1 ∙ mul-mul-mul_comm a (down e) b (down d)))

pub div_once : (f : Format) (x y : Float) (s t : Bool) (a b p q : ℕ) → 0 < b → 0 < p → 0 < q → HasValue x s a p → HasValue y t b q
    → div f x y ≡ round f (unlike s t) (a * q) (p * b)
unfolding div
div_once f nan y s t a b p q h hp hq v w = absurd v
div_once f (inf i) y s t a b p q h hp hq v w = absurd v
div_once f (fin i m e) nan s t a b p q h hp hq v w = absurd w
div_once f (fin i m e) (inf j) s t a b p q h hp hq v w = absurd w
div_once f (fin i m e) (fin j zero d) s t a b p q h hp hq v w =
    let z : 0 * up d * q ≡ 0 = rw (zero-mul (up d)) (zero-mul q) in
    absurd (omega (arith, z, w.1, mul-pos h (down_pos d)))
div_once f (fin i m e) (fin j (suc n) d) s t a b p q h hp hq v w =
    rw (v.0, w.0, eqb-suc-zero n)
    (round_same f _ (m * up e * down d) (suc n * up d * down e) (a * q) (p * b) (mul-pos (mul-pos (omega arith) (up_pos d)) (down_pos e)) (mul-pos hp h)
    (mul-mul-mul_comm (m * up e) (down d) p b
    ∙ ap₂ (λ (i j : ℕ). i * j) v.1 (mul_comm (down d) b ∙ sym w.1 ∙ mul_comm (suc n * up d) q)
    ∙ mul-mul-mul_comm a (down e) q (suc n * up d)
    ∙ ap (λ (i : ℕ). a * q * i) (mul_comm (down e) (suc n * up d))))

-- ---- negation after rounding is rounding with a minus

neg_odd : (d q k l : ℕ) → neg (odd d false q k l) ≡ odd d true q k l
unfolding neg odd
neg_odd d zero k l = refl
neg_odd d (suc q) k l = refl

neg_inf : neg (inf false) ≡ inf true
unfolding neg
neg_inf = refl

neg_units : (f : Format) (q k : ℕ) → neg (units f false q k) ≡ units f true q k
unfolding units
neg_units f q k = go (ltb (q * 2 ^ k) (2 ^ (low f + suc (emax f))))
  where
    go : (b : Bool) → neg (cond b (odd (suc (prec f)) false q k (low f)) (inf false)) ≡ cond b (odd (suc (prec f)) true q k (low f)) (inf true)
    go true = neg_odd (suc (prec f)) q k (low f)
    go false = neg_inf

pub neg_round : (f : Format) (a b : ℕ) → neg (round f false a b) ≡ round f true a b
unfolding round
neg_round f a b = neg_units f _ _

sign_round : (m : Bool) (a b : ℕ) → with_sign m (round binary64 false a b) ≡ round binary64 m a b
sign_round true a b = neg_round binary64 a b
sign_round false a b = refl

-- ---- the double of a number

pub scaled_once : (down : Bool) (c k : ℕ) → c ≤ 9007199254740991 → k ≤ 15
    → scaled_of down c k ≡ round binary64 false (pick down c (c * 10 ^ k)) (pick down (10 ^ k) 1)
unfolding scaled_of of_int
scaled_once true c zero h l = refl
scaled_once false c zero h l = ap (λ (a : ℕ). round binary64 false a 1) (sym (mul-one c))
scaled_once true c (suc k) h l =
    rw (eqb-suc-zero k)
    (div_once binary64 (exact c) (exact (10 ^ suc k)) false false c (10 ^ suc k) 1 1 (one-le-pow (suc k) 10 (omega arith)) (omega arith) (omega arith)
    (whole_exact (pos c) (omega arith)) (ten_exact (suc k) l)
    ∙ ap₂ (round binary64 false) (mul-one c) (one-mul (10 ^ suc k)))
scaled_once false c (suc k) h l =
    rw (eqb-suc-zero k)
    (mul_once binary64 (exact c) (exact (10 ^ suc k)) false false c (10 ^ suc k) 1 1 (omega arith) (omega arith) (whole_exact (pos c) (omega arith))
    (ten_exact (suc k) l))

numerator_is : (z : ℤ) (c : ℕ) → pick (lt_z z (pos 0)) c (c * 10 ^ nat_abs z) ≡ c * 10 ^ raise z
numerator_is (pos k) c = rw (le-ltb k 0 (omega arith))
numerator_is (negsuc k) c = sym (mul-one c)

denominator_is : (z : ℤ) → pick (lt_z z (pos 0)) (10 ^ nat_abs z) 1 ≡ 10 ^ lower z
denominator_is (pos k) = rw (le-ltb k 0 (omega arith))
denominator_is (negsuc k) = refl

pub rounded_once : (n : Decimal) (x : Float) → double_from n ≡ Ok x → x ≡ round binary64 n.minus (numerator n) (denominator n)
unfolding double_from numerator denominator
rounded_once n x e =
    let c = clear is_ok (Ok x) refl
    ((ltb 9007199254740991 n.coefficient, no_double) ∷ (ltb 15 (nat_abs n.power), no_double) ∷ [])
    (Ok (with_sign n.minus (scaled_of (lt_z n.power (pos 0)) n.coefficient (nat_abs n.power)))) refl e in
    let a : n.coefficient ≤ 9007199254740991 = ltb-false 9007199254740991 n.coefficient c.0.0 in
    let b : nat_abs n.power ≤ 15 = ltb-false 15 (nat_abs n.power) c.0.1.0 in
    same_double c.1
    ∙ ap (with_sign n.minus) (scaled_once (lt_z n.power (pos 0)) n.coefficient (nat_abs n.power) a b
    ∙ ap₂ (round binary64 false) (numerator_is n.power n.coefficient) (denominator_is n.power))
    ∙ sign_round n.minus (n.coefficient * 10 ^ raise n.power) (10 ^ lower n.power)
  where
    same_double : {y z : Float} → ◌≡◌ {A = Result Float Refusal} (Ok y) (Ok z) → z ≡ y
    same_double h = cc

-- and of a text: the value that its parts write, rounded once
pub text_rounded_once : (p : Parts) (t : List ℕ) → Writes p t → (x : Float) → double_of t ≡ Ok x → x ≡ round binary64 (decimal_of p).minus (over p) (under p)
unfolding double_of on_number
text_rounded_once p t h x e = go (number_in t) refl e
  where
    go : (a : Result Decimal Refusal) → number_in t ≡ a → on_number a ≡ Ok x → x ≡ round binary64 (decimal_of p).minus (over p) (under p)
    go (Ok n) f g =
        let w = (is_number t n).0 f in
        let q : w.0 ≡ p = parts_unique w.0 p t w.1 h in
        let m : n ≡ decimal_of p = w.3 ∙ ap decimal_of q in
        (rw m at (rounded_once n x g))
        ∙ round_same binary64 (decimal_of p).minus (numerator (decimal_of p)) (denominator (decimal_of p)) (over p) (under p)
        (denominator_pos (decimal_of p)) (under_pos p) (means p t h).value
    go (Err r) f g = let z : ◌≡◌ {A = ℕ} 0 1 = cc in absurd (omega arith)
