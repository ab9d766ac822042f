-- `sample_bits::ones` meets its contract. A mantissa with the sign bit is 65535 less than its bits say. Assumes nothing.
use Rattle.std.proofs.Common.{◌≡◌, sym, ◌∙◌, ℕ, ◌≤◌, ◌<◌, arith, ℤ, pos, negsuc, nat_abs, ◌-ℤ◌, w32, to_z}
use Rattle.std.specs.Int.Signed.{mag}
use Rattle.std.proofs.Math.Facts.{to_z_pos}
use Rattle.word.specs.Signed.{kept}
use Rattle.sample_bits.specs.SampleBits.{ones}
use Rattle.sample_bits.specs.BitLaws.{ones_plus}
use Rattle.sample_bits.proofs.BitLaws.{ones_less, ones_small}
use Rattle.sample_bits.proofs.ones.Goals as goal

small : (z : ℤ) → nat_abs z < 32768 → mag z < 2147483648
small (pos n) h = omega arith
small (negsuc n) h = omega arith

less : (m : ℕ) → 32768 ≤ m → m < 65536 → to_z w32 m -ℤ pos 65535 ≡ ones m
less m h l = rw (to_z_pos w32 {n = m} (omega arith)) (ones_less m h l)

pub overflow_sub-result : goal.overflow_sub-result
overflow_sub-result c =
    let m = c.args.mantissa in
    rw (less m c.if-mantissa-lt32768.false (omega arith)) (record { sfits = small (ones m) (ones_small m) })

pub returns-then-mantissa-lt32768 : goal.returns-then-mantissa-lt32768
returns-then-mantissa-lt32768 c =
    to_z_pos w32 {n = c.args.mantissa} (omega arith) ∙ sym (ones_plus c.args.mantissa c.if-mantissa-lt32768.true)

pub returns-else-mantissa-lt32768 : goal.returns-else-mantissa-lt32768
returns-else-mantissa-lt32768 c =
    let m = c.args.mantissa in
    rw (less m c.if-mantissa-lt32768.false (omega arith)) (kept w32 (ones m) (small (ones m) (ones_small m)))
