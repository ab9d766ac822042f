-- The power of ten that an exponent and the digits behind the point make (document 01, "Numbers in values"), and the same
-- by magnitudes. Assumes nothing.
use Rattle.std.specs.Prelude.{◌≡◌, Bool, true, false, ℕ, zero, suc, ◌+◌, ◌-◌, ◌≤◌, ◌<◌, ℤ, pos, neg_ℤ, ◌-ℤ◌}
use Rattle.std.proofs.Common.{ap, arith, lt-ltb, le-ltb}
use Rattle.std.proofs.Math.IntN.{neg_ℤ-+ℤ}

abbrev pub signed : Bool → ℕ → ℤ
signed true n = neg_ℤ (pos n)
signed false n = pos n

unfoldable pub power_of : Bool → ℕ → ℕ → ℤ
power_of down e n = signed down e -ℤ pos n

-- a minus behind E: both lower it
pub power_down : (e n : ℕ) → signed true (e + n) ≡ power_of true e n
unfolding power_of
power_down e n = neg_ℤ-+ℤ (pos e) (pos n)

-- else the digits behind the point are taken off the exponent
pub power_less : (e n : ℕ) → n ≤ e → signed false (e - n) ≡ power_of false e n
unfolding power_of
power_less e zero h = ap pos (omega arith)
power_less e (suc n) h = simp (le-ltb e (suc n) h)

pub power_more : (e n : ℕ) → e < n → signed true (n - e) ≡ power_of false e n
unfolding power_of
power_more e zero h = absurd (omega arith)
power_more e (suc n) h = let q : suc n - e ≡ suc (suc n - suc e) = omega arith in simp (lt-ltb e (suc n) h, q)
