-- The class of a pattern as the machine counts it: how many of four bounds its bits have passed.
-- Assumes nothing.
use Rattle.std.proofs.Common.{◌≡◌, Bool, true, false, ℕ, suc, ◌+◌, ◌-◌, ◌*◌, ◌≤◌, ◌<◌, lt_of_not-le, mul-le-mul_right, suc-mul, arith, ltb, lt-ltb, le-ltb, eq-eqb, ne_eqb}
use Rattle.std.proofs.Math.Decide.{dec_le}
use mir.Val.{bool_byte}
use Rattle.decode.specs.Sample.{class_by}

pub one_at_most : (b : Bool) → bool_byte b ≤ 1
one_at_most true = omega arith
one_at_most false = omega arith

-- how many of four bounds m has passed: 0, the largest fraction f - 1, the largest number t - 1, and t, which is
-- infinity
abbrev pub passed : ℕ → ℕ → ℕ → ℕ
passed f t m = bool_byte (ltb 0 m) + bool_byte (ltb (f - 1) m) + bool_byte (ltb (t - 1) m) + bool_byte (ltb t m)

-- the bits behind the sign are one number, the exponent x above a fraction y that is below f; o is the exponent whose
-- bits are all 1. For any width
module _ (o f x y m : ℕ) (some : 0 < o) (fraction : y < f) (most : x ≤ o) (e : m ≡ x * f + y) where
  low_exponent : x ≡ 0 → passed f (o * f) m ≡ class_by o x y
  unfolding class_by
  low_exponent h =
      let one : 1 * f ≤ o * f = mul-le-mul_right f some in
      let z : x * f ≡ 0 = rw h (omega arith) in
      rw (le-ltb (f - 1) m (omega arith), le-ltb (o * f - 1) m (omega arith), le-ltb (o * f) m (omega arith), eq-eqb x 0 h)
      (elim (dec_le y 0) [
        | yes k ↦ rw (le-ltb 0 m (omega arith), eq-eqb y 0 (omega arith))
        | no k ↦ (let l = lt_of_not-le k in rw (lt-ltb 0 m (omega arith), ne_eqb y 0 (omega arith)))
      ])

  between : 0 < x → x < o → passed f (o * f) m ≡ class_by o x y
  unfolding class_by
  between h k =
      let one : 1 * f ≤ x * f = mul-le-mul_right f h in
      let next : suc x * f ≤ o * f = mul-le-mul_right f k in
      let more : suc x * f ≡ x * f + f = suc-mul x f in
      rw (
        lt-ltb 0 m (omega arith),
        lt-ltb (f - 1) m (omega arith),
        le-ltb (o * f - 1) m (omega arith),
        le-ltb (o * f) m (omega arith),
        ne_eqb x 0 (omega arith),
        ne_eqb x o (omega arith),
      )

  all_ones : x ≡ o → passed f (o * f) m ≡ class_by o x y
  unfolding class_by
  all_ones h =
      let one : 1 * f ≤ o * f = mul-le-mul_right f some in
      let same : x * f ≡ o * f = rw h in
      rw (lt-ltb 0 m (omega arith), lt-ltb (f - 1) m (omega arith), lt-ltb (o * f - 1) m (omega arith), ne_eqb x 0 (omega arith), eq-eqb x o h)
      (elim (dec_le y 0) [
        | yes k ↦ rw (le-ltb (o * f) m (omega arith), eq-eqb y 0 (omega arith))
        | no k ↦ (let l = lt_of_not-le k in rw (lt-ltb (o * f) m (omega arith), ne_eqb y 0 (omega arith)))
      ])

  pub class_passed : passed f (o * f) m ≡ class_by o x y
  class_passed =
      elim (dec_le x 0) [
        | yes h ↦ low_exponent (omega arith)
        | no h ↦ elim (dec_le o x) [ yes k ↦ all_ones (omega arith) | no k ↦ between (lt_of_not-le h) (lt_of_not-le k) ]
      ]
