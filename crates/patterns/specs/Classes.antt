-- The classes of codes 4 and 5 are those of IEEE 754: the class that a pattern's bits tell is the class of the number
-- that the pattern is in the logic's own account of the standard (`lib.Ieee`), which is what Rattle's `f32` and `f64`
-- mean.
-- Assumes nothing.
use Rattle.std.specs.Prelude.{◌≡◌, refl, Bool, true, false, cond, ℕ, zero, suc, ◌+◌, ◌-◌, ◌*◌, ◌/◌, ◌%◌, ◌^◌, ◌≤◌, ◌<◌, ltb, leb, eqb, Float}
use Rattle.std.proofs.Common.{sym, ap, ◌∙◌, mod-lt, mul-one, mul_assoc, mul_comm, mul-pos, mul-lt-mul_of_pos_right, mul-le-mul_right, lt_of_mul-lt-mul_right, le_trans, le-add_right, le-mul_of_pos_right, zero-lt-suc, zero-mul, pow_pos, lt-ltb, le-ltb, ltb-true, ltb-false, ne_eqb}
use native.Mathlib.Omega.{arith, by_contra}
use Rattle.std.proofs.Math.Pow.{field}
use Rattle.std.specs.Float.{nan, inf, fin, Format, binary32, binary64}
use Rattle.std.specs.Float.Ieee.{prec, emax, low, up, down, odd, hid, ones, top, of_fields, of_bits}
use Rattle.std.specs.Float.Ieee.Digits.{Equals, odd_val}
use Rattle.std.specs.Float.Ieee.Fits.{up_pos, down_pos}
use Rattle.decode.specs.Sample.{class_by, class_of}

-- the class of a number: not a number 4, infinity 3, zero 0, and of the others 1 where it is less in size than the
-- least number with a leading bit, which is 2 ^ - (emax - 1), and else 2
unfoldable pub value_class : Format → Float → ℕ
value_class f nan = 4
value_class f (inf s) = 3
value_class f (fin s m e) = cond (eqb m 0) 0 (cond (ltb (m * up e * 2 ^ (emax f - 1)) (down e)) 1 2)

-- the code of a format
unfoldable pub code_of : Format → ℕ
code_of binary32 = 4
code_of binary64 = 5

-- ---- a finite number of a units of the format's smallest

low_split : (f : Format) → 2 ^ low f ≡ 2 ^ (emax f - 1) * hid f
low_split binary32 = refl
low_split binary64 = refl

same_zero : (m u p a d : ℕ) → 0 < u → 0 < p → 0 < d → m * u * p ≡ a * d → eqb m 0 ≡ eqb a 0
same_zero zero u p zero d hu hp hd h = refl
same_zero zero u p (suc a) d hu hp hd h =
    let l : 0 < suc a * d = mul-pos (zero-lt-suc a) hd in
    let z : 0 * u * p ≡ 0 = ap (λ (k : ℕ). k * p) (zero-mul u) ∙ zero-mul p in
    absurd (omega arith)
same_zero (suc m) u p zero d hu hp hd h =
    let l : 0 < suc m * u * p = mul-pos (mul-pos (zero-lt-suc m) hu) hp in
    let z = zero-mul d in
    absurd (omega arith)
same_zero (suc m) u p (suc a) d hu hp hd h = ne_eqb (suc m) 0 (λ q. (omega arith)) ∙ sym (ne_eqb (suc a) 0 (λ q. (omega arith)))

same_order : (x h a d : ℕ) → 0 < h → 0 < d → x * h ≡ a * d → ltb x d ≡ ltb a h
same_order x h a d hh hd e = go (ltb a h) refl
  where
    go : (t : Bool) → ltb a h ≡ t → ltb x d ≡ t
    go true q =
        let l : a * d < h * d = mul-lt-mul_of_pos_right (ltb-true a h q) hd in
        let c : h * d ≡ d * h = mul_comm h d in
        let k : x * h < d * h = omega arith in
        lt-ltb x d (lt_of_mul-lt-mul_right h k)
    go false q =
        let l : h * d ≤ a * d = mul-le-mul_right d (ltb-false a h q) in
        let c : h * d ≡ d * h = mul_comm h d in
        le-ltb x d (by_contra d x (λ m. (let n : x * h < d * h = mul-lt-mul_of_pos_right m hh in omega arith)))

finite_class : (f : Format) (v : Float) (a : ℕ) → Equals v a (2 ^ low f) → value_class f v ≡ cond (eqb a 0) 0 (cond (ltb a (hid f)) 1 2)
unfolding value_class
finite_class f nan a h = absurd h
finite_class f (inf s) a h = absurd h
finite_class f (fin s m e) a h =
    let z = same_zero m (up e) (2 ^ low f) a (down e) (up_pos e) (pow_pos (low f)) (down_pos e) h in
    let w : m * up e * 2 ^ (emax f - 1) * hid f ≡ a * down e = mul_assoc (m * up e) (2 ^ (emax f - 1)) (hid f)
    ∙ ap (λ (p : ℕ). m * up e * p) (sym (low_split f)) ∙ h in
    rw (z, same_order (m * up e * 2 ^ (emax f - 1)) (hid f) a (down e) (pow_pos (prec f - 1)) (down_pos e) w)

-- ---- a pattern's fields

fields_class : (f : Format) (s : Bool) (x t : ℕ) → t < hid f → value_class f (of_fields f s x t) ≡ class_by (ones f) x t
unfolding of_fields class_by value_class
fields_class f s zero t h =
    finite_class f (odd (prec f) s t 0 (low f)) (t * 2 ^ 0) (odd_val (prec f) s t 0 (low f))
    ∙ rw (mul-one t, lt-ltb t (hid f) h)
fields_class f s (suc x) t h = rw (ne_eqb (suc x) 0 (λ q. (omega arith))) (go (eqb (suc x) (ones f)) (eqb t 0))
  where
    go : (b c : Bool) → value_class f (cond b (cond c (inf s) nan) (odd (prec f) s (hid f + t) x (low f))) ≡ cond b (cond c 3 4) 2
    go true true = refl
    go true false = refl
    go false c =
        let b : hid f ≤ (hid f + t) * 2 ^ x = le_trans (le-add_right (hid f) t) (le-mul_of_pos_right (hid f + t) (pow_pos x)) in
        let p = pow_pos (prec f - 1) in
        finite_class f (odd (prec f) s (hid f + t) x (low f)) ((hid f + t) * 2 ^ x) (odd_val (prec f) s (hid f + t) x (low f))
        ∙ rw (ne_eqb ((hid f + t) * 2 ^ x) 0 (λ q. (omega arith)), le-ltb ((hid f + t) * 2 ^ x) (hid f) b)

-- the class that the bits tell is the class of the number
pub class_ieee : (f : Format) (n : ℕ) → class_of (code_of f) n ≡ value_class f (of_bits f n)
unfolding of_bits class_of code_of
class_ieee binary32 n =
    sym (fields_class binary32 (leb (top binary32) n) (n % top binary32 / hid binary32) (n % hid binary32) (mod-lt n (pow_pos 23))
    ∙ ap (λ (x : ℕ). class_by 255 x (n % 2 ^ 23)) (field n 8 23))
class_ieee binary64 n =
    sym (fields_class binary64 (leb (top binary64) n) (n % top binary64 / hid binary64) (n % hid binary64) (mod-lt n (pow_pos 52))
    ∙ ap (λ (x : ℕ). class_by 2047 x (n % 2 ^ 52)) (field n 11 52))
