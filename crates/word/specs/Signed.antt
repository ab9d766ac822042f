-- A signed number as the machine has it, of any width: a number that fits is kept when it is stored, loaded or handed
-- on; its sign, its size, `!z`, `-n` and `z << e`.
-- Assumes nothing.
use Rattle.std.specs.Prelude.{◌≡◌, refl, Bool, true, false, ℕ, zero, suc, ◌+◌, ◌-◌, ◌*◌, ◌%◌, ◌^◌, ◌<◌, ℤ, pos, negsuc, neg_ℤ, nat_abs, ◌-ℤ◌, ◌*ℤ◌, T}
use Rattle.std.proofs.Common.{sym, ap, ◌∙◌, mul_comm, mul-suc, mul-pos, mod-eq_of_lt, arith, pow_pos, ltb-true, to_z-of_z}
use Rattle.std.proofs.Math.Nat.{mul-sub, mul-add-mod_self_left}
use Rattle.std.proofs.Math.IntN.{+ℤ_idl, pos-*ℤ-pos, negsuc-*ℤ-pos}
use Rattle.std.specs.Int.Signed.{mag, lt_z, non_neg}
use Rattle.std.specs.Int.{Width, w8, w16, w32, w64, w128}
use mir.Val.{bits, hbits, to_z, of_z, Fits, SFits}
use Rattle.std.proofs.Math.Facts.{to_z_pos, to_z-neg}

-- a width holds twice as many patterns as numbers that are not negative
pub halves : (w : Width) → 2 ^ bits w ≡ 2 ^ hbits w + 2 ^ hbits w
halves w8 = refl
halves w16 = refl
halves w32 = refl
halves w64 = refl
halves w128 = refl

-- each law takes the width first
module _ (w : Width) where
  pub kept : (z : ℤ) → mag z < 2 ^ hbits w → to_z w (of_z w z) ≡ z
  kept z h = to_z-of_z {w = w} (record { sfits = h })

  -- what was answered of what was handed on was answered of the number itself
  pub handed : {A : Type 0} (g : ℤ → A) (z : ℤ) {r : A} → mag z < 2 ^ hbits w → r ≡ g (to_z w (of_z w z)) → r ≡ g z
  handed g z h e = e ∙ ap g (kept z h)

  -- its sign, as the machine tests it
  pub sign : (z : ℤ) {b : Bool} → mag z < 2 ^ hbits w → lt_z (to_z w (of_z w z)) (pos 0) ≡ b → lt_z z (pos 0) ≡ b
  sign z h e = ap (λ (y : ℤ). lt_z y (pos 0)) (sym (kept z h)) ∙ e

  -- `!z` of a negative z: its magnitude less one
  pub flips : (z : ℤ) → mag z < 2 ^ hbits w → lt_z z (pos 0) ≡ true → to_z w (2 ^ bits w - 1 - of_z w z) ≡ pos (mag z)
  flips (pos n) h t = let l = ltb-true n 0 t in absurd (omega arith)
  flips (negsuc n) h t = let e : 2 ^ bits w - 1 - (2 ^ bits w - suc n) ≡ n = omega (arith, halves w) in rw e (to_z_pos w h)

  pub plus_size : (z : ℤ) → mag z < 2 ^ hbits w → lt_z z (pos 0) ≡ false → T (non_neg z) × Fits w (nat_abs z)
  plus_size (pos n) h t = (tt, record { fits = omega (arith, halves w) })
  plus_size (negsuc n) h t = absurd (let y : ◌≡◌ {A = ℕ} 0 1 = cc in omega arith)

  -- `-n` of an n that is not negative
  minus : (n : ℕ) → n < 2 ^ hbits w → pos 0 -ℤ to_z w n ≡ neg_ℤ (pos n)
  minus n h = rw (to_z_pos w {n = n} h) (+ℤ_idl (neg_ℤ (pos n)))

  minus_small : (n : ℕ) → n < 2 ^ hbits w → mag (neg_ℤ (pos n)) < 2 ^ hbits w
  minus_small zero h = h
  minus_small (suc n) h = omega arith

  pub negates : (n : ℕ) → n < 2 ^ hbits w → SFits w (pos 0 -ℤ to_z w n)
  negates n h = rw (minus n h) (record { sfits = minus_small n h })

  pub negated : (n : ℕ) → n < 2 ^ hbits w → to_z w (of_z w (pos 0 -ℤ to_z w n)) ≡ neg_ℤ (pos n)
  negated n h = rw (minus n h) (kept (neg_ℤ (pos n)) (minus_small n h))

-- what is left below m of p times the number that is k short of m
short : (m k p : ℕ) → 0 < p → 0 < k → k * p < m → (m - k) * p % m ≡ m - k * p
short m k zero h l r = absurd (omega arith)
short m k (suc q) h l r =
    let a : (m - k) * suc q ≡ suc q * m - suc q * k = mul_comm (m - k) (suc q) ∙ mul-sub (suc q) m k in
    let b : suc q * m ≡ m * q + m = mul_comm (suc q) m ∙ mul-suc m q in
    let c : suc q * k ≡ k * suc q = mul_comm (suc q) k in
    let e : (m - k) * suc q ≡ m * q + (m - k * suc q) = omega (arith, a, b, c) in
    let s : 0 < k * suc q = mul-pos l (omega arith) in
    rw e (mul-add-mod_self_left m q (m - k * suc q) ∙ mod-eq_of_lt {n = m - k * suc q} {m = m} (omega arith))

minus_pattern : (w : Width) (k : ℕ) → 0 < k → k < 2 ^ hbits w → to_z w (2 ^ bits w - k) ≡ neg_ℤ (pos k)
minus_pattern w zero h l = absurd (omega arith)
minus_pattern w (suc k) h l = to_z-neg w k (omega arith)

-- `z << e`, where nothing of z is lost
pub shifts : (w : Width) (z : ℤ) (e : ℕ) → nat_abs z * 2 ^ e < 2 ^ hbits w → to_z w (of_z w z * 2 ^ e % 2 ^ bits w) ≡ z *ℤ pos (2 ^ e)
shifts w (pos n) e h =
    let c : n * 2 ^ e % 2 ^ bits w ≡ n * 2 ^ e = mod-eq_of_lt (omega (arith, halves w)) in
    rw c (to_z_pos w h ∙ sym (pos-*ℤ-pos n (2 ^ e)))
shifts w (negsuc n) e h =
    let k : 0 < suc n * 2 ^ e = mul-pos (omega arith) (pow_pos e) in
    rw (short (2 ^ bits w) (suc n) (2 ^ e) (pow_pos e) (omega arith) (omega (arith, halves w)))
    (minus_pattern w (suc n * 2 ^ e) k h ∙ sym (negsuc-*ℤ-pos n (2 ^ e)))

pub minus_size : (z : ℤ) → lt_z z (pos 0) ≡ true → nat_abs z ≡ mag z + 1
minus_size (pos n) t = let l = ltb-true n 0 t in omega arith
minus_size (negsuc n) t = omega arith

-- ---- the same at 64 bits, with its numbers written out: a sum of samples is such a number

kept64 : (z : ℤ) → mag z < 9223372036854775808 → to_z w64 (of_z w64 z) ≡ z
kept64 = kept w64

handed64 : (z y : ℤ) → mag z < 9223372036854775808 → y ≡ neg_ℤ (to_z w64 (of_z w64 z)) → y ≡ neg_ℤ z
handed64 z y = handed w64 neg_ℤ z

sign64 : (z : ℤ) → mag z < 9223372036854775808 → lt_z (to_z w64 (of_z w64 z)) (pos 0) ≡ true → lt_z z (pos 0) ≡ true
sign64 z = sign w64 z

flips64 : (z : ℤ) → mag z < 9223372036854775808 → lt_z z (pos 0) ≡ true → to_z w64 (18446744073709551615 - of_z w64 z) ≡ pos (mag z)
flips64 = flips w64

plus_size64 : (z : ℤ) → mag z < 9223372036854775808 → lt_z z (pos 0) ≡ false → T (non_neg z) × Fits w64 (nat_abs z)
plus_size64 = plus_size w64

negates64 : (n : ℕ) → n < 9223372036854775808 → SFits w64 (pos 0 -ℤ to_z w64 n)
negates64 = negates w64

negated64 : (n : ℕ) → n < 9223372036854775808 → to_z w64 (of_z w64 (pos 0 -ℤ to_z w64 n)) ≡ neg_ℤ (pos n)
negated64 = negated w64

shifts64 : (z : ℤ) (e : ℕ) → nat_abs z * 2 ^ e < 9223372036854775808 → to_z w64 (of_z w64 z * 2 ^ e % 18446744073709551616) ≡ z *ℤ pos (2 ^ e)
shifts64 = shifts w64
