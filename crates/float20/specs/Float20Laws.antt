-- The laws of a sample's exponent and mantissa: the exponent that the leading zeros tell, the mantissa by the sign, and
-- four exponents in one word.
-- Assumes nothing.
use Rattle.std.specs.Prelude.{◌≡◌, refl, Bool, true, false, cond, ℕ, zero, suc, ◌+◌, ◌-◌, ◌*◌, ◌/◌, ◌%◌, ◌^◌, ◌≤◌, ◌<◌, ℤ, pos, negsuc, neg_ℤ, nat_abs, leb}
use Rattle.std.proofs.Common.{sym, ap, ◌∙◌, le-div_iff_mul-le, div-one, add-one, pow_mono, pow_pos, pow-add, shr_lt, shr-shr, leb-true, leb-false, ltb-true}
use native.Mathlib.Omega.{arith, by_contra}
use Rattle.std.specs.Int.Bits.{bit_or, or_add_and}
use Rattle.std.proofs.lemmas.Nat.{or_shifted, and_mask, leading_top}
use Rattle.std.specs.Int.Signed.{lt_z}
use Rattle.std.specs.Int.Count.{count_leading_zeros}
use Rattle.float20.specs.Float20.{mantissa_most, smallest, exponent_of, mantissa_of, ones_bits}

-- ---- the exponent

-- e is the smallest exponent that brings n to at most the greatest mantissa
pub record Smallest (n e : ℕ) : Type 0 where
  pub fits : n / 2 ^ e ≤ mantissa_most
  pub least : (k : ℕ) → k < e → mantissa_most < n / 2 ^ k

pub no_less : (n a b : ℕ) → n / 2 ^ a ≤ mantissa_most → ((k : ℕ) → k < b → mantissa_most < n / 2 ^ k) → b ≤ a
no_less n a b f g = by_contra b a (λ l. (let r = g a l in omega arith))

-- the search finds it, if it is among those that are looked at
smallest_is : (left e n s : ℕ) → Smallest n s → e ≤ s → s ≤ e + left → smallest left e n ≡ s
unfolding smallest
smallest_is zero e n s r h k = omega arith
smallest_is (suc left) e n s r h k = go (leb (n / 2 ^ e) mantissa_most) refl (λ l. smallest_is left (e + 1) n s r l (omega arith))
  where
    go : (t : Bool) → leb (n / 2 ^ e) mantissa_most ≡ t → (e + 1 ≤ s → smallest left (e + 1) n ≡ s) → cond t e (smallest left (e + 1) n) ≡ s
    go true q f = let l = no_less n e s (leb-true (n / 2 ^ e) mantissa_most q) r.least in omega arith
    go false q f =
        f
        (by_contra (e + 1) s
        (λ m.
        (let z : e ≡ s = omega arith in
        let t : n / 2 ^ e ≤ mantissa_most = rw z r.fits in
        omega (arith, leb-false (n / 2 ^ e) mantissa_most q))))

-- n with its low 15 bits set
filled : (n : ℕ) → bit_or n 32767 ≡ n + 32767 - n % 32768
filled n = omega (arith, or_add_and n 32767, and_mask n 15)

-- the exponent that its leading zeros tell: it has 32 bits less them, and 15 stay
told : (n : ℕ) → n < 1073741824
    → Smallest n (17 - count_leading_zeros 32 (bit_or n 32767)) × ((2 ≤ count_leading_zeros 32 (bit_or n 32767)) × (count_leading_zeros 32 (bit_or n 32767) ≤ 17))
told n h =
    let m = n + 32767 - n % 32768 in
    let s = leading_top 32 m (omega arith) (omega arith) in
    let z = count_leading_zeros 32 m in
    let low : s.0 < 30 = by_contra (suc s.0) 30 (λ q. (let p = pow_mono {i = 30} {j = s.0} (omega arith) in omega (arith, s.2))) in
    let high : 14 ≤ s.0 = by_contra 14 s.0 (λ q. (let p = pow_mono {i = suc s.0} {j = 14} (omega arith) in omega (arith, s.3))) in
    let e : suc s.0 ≡ 15 + (17 - z) = omega (arith, s.1) in
    let below : n < 2 ^ suc s.0 = omega (arith, s.3) in
    rw (filled n) (
      record {
        fits = (let r = shr_lt {n = n} 15 (17 - z) (rw e at below) in omega arith);
        least = λ k l. (le-div_iff_mul-le (pow_pos k)).1
            (let p = pow_mono {i = 15 + k} {j = s.0} (omega arith) in omega (arith, pow-add 2 15 k, s.2));
      },
      (omega (arith, s.1), omega (arith, s.1)),
    )

-- what the code answers of the leading zeros it counted
pub record Told (n e : ℕ) : Type 0 where
  pub is : e ≡ smallest 15 0 n
  pub small : e < 16
  pub fits : n / 2 ^ e ≤ mantissa_most

pub zeros_most : (n : ℕ) → n < 1073741824 → count_leading_zeros 32 (bit_or n 32767) ≤ 17
zeros_most n h = (told n h).1.1

pub exponent_told : (n : ℕ) → n < 1073741824 → Told n (17 - count_leading_zeros 32 (bit_or n 32767))
exponent_told n h =
    let r = told n h in
    let e : 17 - count_leading_zeros 32 (bit_or n 32767) < 16 = omega (arith, r.1.0) in
    record { is = sym (smallest_is 15 0 n (17 - count_leading_zeros 32 (bit_or n 32767)) r.0 (omega arith) (omega arith)); small = e; fits = r.0.fits }

-- the exponent of a magnitude below 2^30 is the smallest that fits, and below 16
pub exponent_of_lem : (n : ℕ) → n < 1073741824 → Smallest n (smallest 15 0 n) × (smallest 15 0 n < 16)
exponent_of_lem n h = let e = exponent_told n h in (rw (← e.is) (told n h).0, rw (← e.is) e.small)

pub exponent_smallest : (z : ℤ) → nat_abs z < 1073741824 → Smallest (nat_abs z) (exponent_of z)
unfolding exponent_of
exponent_smallest z h = (exponent_of_lem (nat_abs z) h).0

pub exponent_small : (z : ℤ) → nat_abs z < 1073741824 → exponent_of z < 16
unfolding exponent_of
exponent_small z h = (exponent_of_lem (nat_abs z) h).1

-- ---- the mantissa

-- what is left of a number that is not 0 is not 0: a negative sample is never written as FFFFh
pub left_over : (n e : ℕ) → Smallest n e → 0 < n → 0 < n / 2 ^ e
left_over n zero r h = let d = div-one n in omega arith
left_over n (suc e) r h =
    let l = r.least e (omega arith) in
    let q : n / 2 ^ e / 2 ≡ n / 2 ^ suc e = shr-shr n e 1 ∙ ap (λ (k : ℕ). n / 2 ^ k) (add-one e) in
    omega arith

ones_minus : (t : ℕ) → 0 < t → ones_bits (neg_ℤ (pos t)) ≡ 65535 - t
unfolding ones_bits
ones_minus zero h = absurd (omega arith)
ones_minus (suc t) h = refl

pub mantissa_minus : (z : ℤ) → nat_abs z < 1073741824 → lt_z z (pos 0) ≡ true → ones_bits (mantissa_of z) ≡ 65535 - nat_abs z / 2 ^ exponent_of z
unfolding mantissa_of
mantissa_minus (pos n) h t = let l = ltb-true n 0 t in absurd (omega arith)
mantissa_minus (negsuc n) h t =
    ones_minus (suc n / 2 ^ exponent_of (negsuc n)) (left_over (suc n) (exponent_of (negsuc n)) (exponent_smallest (negsuc n) h) (omega arith))

pub mantissa_plus : (z : ℤ) → lt_z z (pos 0) ≡ false → ones_bits (mantissa_of z) ≡ nat_abs z / 2 ^ exponent_of z
unfolding mantissa_of ones_bits
mantissa_plus (pos n) t = refl
mantissa_plus (negsuc n) t = absurd (let z : ◌≡◌ {A = ℕ} 0 1 = cc in omega arith)

-- the exponent and the mantissa of z, as they are written
pub record Coded (z : ℤ) (e m : ℕ) : Type 0 where
  pub exponent : e ≡ exponent_of z
  pub small : e < 16
  pub mantissa : m ≡ ones_bits (mantissa_of z)

pub coded_plus : (z : ℤ) (e m : ℕ) → lt_z z (pos 0) ≡ false → Told (nat_abs z) e → m ≡ nat_abs z / 2 ^ e → Coded z e m
unfolding exponent_of
coded_plus z e m t r q =
    record { exponent = r.is; small = r.small; mantissa = q ∙ ap (λ (k : ℕ). nat_abs z / 2 ^ k) r.is ∙ sym (mantissa_plus z t) }

-- ---- four exponents in one word

or_at : (a k b x : ℕ) → x ≡ a * 2 ^ k → b < 2 ^ k → bit_or x b ≡ x + b
or_at a k b x e h = rw e (or_shifted a k b h)

pub placed : (a b c d : ℕ) → a < 16 → b < 16 → c < 16 → d < 16
    → bit_or (bit_or (bit_or (d * 4096 % 4294967296) (c * 256 % 4294967296)) (b * 16 % 4294967296)) a ≡ a + 16 * b + 256 * c + 4096 * d
placed a b c d ha hb hc hd =
    let ed : d * 4096 % 4294967296 ≡ d * 4096 = omega arith in
    let ec : c * 256 % 4294967296 ≡ c * 256 = omega arith in
    let eb : b * 16 % 4294967296 ≡ b * 16 = omega arith in
    rw (ed, ec, eb, or_at d 12 (c * 256) (d * 4096) refl (omega arith), or_at (d * 16 + c) 8 (b * 16) (d * 4096 + c * 256) (omega arith) (omega arith))
    (or_at (d * 256 + c * 16 + b) 4 a (d * 4096 + c * 256 + b * 16) (omega arith) (omega arith) ∙ omega arith)
