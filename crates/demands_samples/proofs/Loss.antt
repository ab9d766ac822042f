-- Theorems on what specs/Loss defines. They stand here, as a wrong definition there is to be refused and not to be unread.
-- Assumes nothing.
use Rattle.std.specs.Prelude.{◌≡◌, refl, List, map, ℕ, zero, suc, ◌+◌, ◌*◌, ◌^◌, ◌≤◌, ◌<◌, ℤ, pos, negsuc, nat_abs, ◌-ℤ◌, ◌*ℤ◌}
use Rattle.std.proofs.Common.{sym, ap, ◌∙◌, arith, le_antisymm, le_of_suc-le-suc, lt_of_not-le, mul-le-mul_right, suc-mul}
use Rattle.std.proofs.Math.IntN.{pos-*ℤ-pos, negsuc-*ℤ-pos}
use Rattle.float20.specs.Float20.{mantissa_most, smallest, exponent_of, mantissa_of}
use Rattle.float20.specs.Float20Laws.{no_less, exponent_smallest}
use Rattle.encode.specs.Cut.{cut, size_neg, size_mantissa, cut_near, cut_between, cut_exact}
use Rattle.growth.specs.TraceReads.{read_back}
use Rattle.demands_samples.specs.Loss.{LowBitsCut, alongside}

-- ---- there is one such value

size_times : (m : ℤ) (q : ℕ) → nat_abs (m *ℤ pos q) ≡ nat_abs m * q
size_times (pos n) q = ap nat_abs (pos-*ℤ-pos n q)
size_times (negsuc n) q = ap nat_abs (negsuc-*ℤ-pos n q) ∙ size_neg (suc n * q)

on_side : (z y : ℤ) → nat_abs y + nat_abs (z -ℤ y) ≡ nat_abs z → y ≡ alongside z (nat_abs y)
on_side (pos n) (pos m) h = refl
on_side (pos n) (negsuc m) h = absurd (omega arith)
on_side (negsuc n) (pos zero) h = refl
on_side (negsuc n) (pos (suc m)) h = absurd (omega arith)
on_side (negsuc n) (negsuc m) h = refl

-- two multiples of q, both at most n and less than q below it, are one
one_multiple : (n q a b : ℕ) → a * q ≤ n → n < a * q + q → b * q ≤ n → n < b * q + q → a ≤ b
one_multiple n q a b ha ka hb kb =
    le_of_suc-le-suc (lt_of_not-le (λ (l : b < a). (let m : suc b * q ≤ a * q = mul-le-mul_right q l in let d : suc b * q ≡ b * q + q = suc-mul b q in omega arith)))

module _ {z y w : ℤ} (c : LowBitsCut z y) (d : LowBitsCut z w) where
  same_exponent : c.exponent ≡ d.exponent
  same_exponent =
      le_antisymm (no_less (nat_abs z) d.exponent c.exponent d.brings c.smallest)
      (no_less (nat_abs z) c.exponent d.exponent c.brings d.smallest)

sized : {z y : ℤ} (c : LowBitsCut z y) → (nat_abs y ≡ nat_abs c.mantissa * 2 ^ c.exponent)
    × (nat_abs c.mantissa * 2 ^ c.exponent ≤ nat_abs z)
    × (nat_abs z < nat_abs c.mantissa * 2 ^ c.exponent + 2 ^ c.exponent)
sized c =
    let s : _ = ap nat_abs c.value ∙ size_times c.mantissa (2 ^ c.exponent) in
    let t = c.toward_zero in
    let n = c.near in
    (s, omega (arith, s, t), omega (arith, s, t, n))

-- Rules out every other way to lose bits: rounding to nearest, away from zero or down, a larger exponent, one for all.
pub one_loss : (z y w : ℤ) → LowBitsCut z y → LowBitsCut z w → y ≡ w
one_loss z y w c d =
    let e = same_exponent c d in
    let q : ℕ = 2 ^ c.exponent in
    let r : 2 ^ d.exponent ≡ q = ap (λ (k : ℕ). 2 ^ k) (sym e) in
    let s = sized c in
    let t = rw r at (sized d) in
    let m : nat_abs c.mantissa ≡ nat_abs d.mantissa =
    le_antisymm (one_multiple (nat_abs z) q (nat_abs c.mantissa) (nat_abs d.mantissa) s.1 s.2 t.1 t.2)
    (one_multiple (nat_abs z) q (nat_abs d.mantissa) (nat_abs c.mantissa) t.1 t.2 s.1 s.2) in
    let n : nat_abs y ≡ nat_abs w = s.0 ∙ ap (λ (k : ℕ). k * q) m ∙ sym t.0 in
    on_side z y c.toward_zero ∙ ap (alongside z) n ∙ sym (on_side z w d.toward_zero)

-- ---- and it is what is read back: codes 1 and 2 as they were given, and code 3 with its low bits cut

low_bits_cut : (z : ℤ) → nat_abs z < 1073741824 → LowBitsCut z (cut z)
unfolding cut
low_bits_cut z h =
    let s = exponent_smallest z h in
    record {
      exponent = exponent_of z;
      mantissa = mantissa_of z;
      value = refl;
      fits = rw (size_mantissa z) s.fits;
      brings = s.fits;
      smallest = s.least;
      toward_zero = cut_between z;
      near = cut_near z;
    }

pub only_low_bits_are_lost : (row : List ℤ)
    → (read_back 1 row ≡ row) × (read_back 2 row ≡ row) × (read_back 3 row ≡ map cut row)
    × ((z : ℤ) → nat_abs z < 1073741824 → LowBitsCut z (cut z))
    × ((z : ℤ) → nat_abs z ≤ mantissa_most → cut z ≡ z)
unfolding read_back
only_low_bits_are_lost row = (refl, refl, refl, low_bits_cut, cut_exact)

-- so 32771 is read back as 32770 and not, by the nearest, as 32772; and 40000 as itself, and not, by exponent 15, as
-- 32768
kept_values : (cut (pos 32771) ≡ pos 32770) × (cut (pos 40000) ≡ pos 40000)
unfolding cut mantissa_of exponent_of smallest
kept_values = (refl, refl)

pub not_to_the_nearest : LowBitsCut (pos 32771) (pos 32772) → ⊥
not_to_the_nearest c =
    let e : pos 32772 ≡ pos 32770 = one_loss (pos 32771) (pos 32772) (cut (pos 32771)) c (low_bits_cut (pos 32771) (omega arith)) ∙ kept_values.0 in
    let n : ◌≡◌ {A = ℕ} 32772 32770 = ap nat_abs e in
    omega arith

pub no_larger_exponent : LowBitsCut (pos 40000) (pos 32768) → ⊥
no_larger_exponent c =
    let e : pos 32768 ≡ pos 40000 = one_loss (pos 40000) (pos 32768) (cut (pos 40000)) c (low_bits_cut (pos 40000) (omega arith)) ∙ kept_values.1 in
    let n : ◌≡◌ {A = ℕ} 32768 40000 = ap nat_abs e in
    omega arith
