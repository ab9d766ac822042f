-- Rounding up to 4: blocks start at multiples of 4 (paper, III.A: double word boundaries).
-- Assumes nothing.
use Rattle.std.specs.Prelude.{◌≡◌, ℕ, ◌+◌, ◌*◌, ◌/◌, ◌%◌, ◌≤◌, ◌<◌}
use Rattle.std.proofs.Common.{arith}

abbrev pub round4 : ℕ → ℕ
round4 n = (n + 3) / 4 * 4

-- it is the least multiple of 4 that is not below n
pub round4_whole : (n : ℕ) → round4 n % 4 ≡ 0
round4_whole n = omega arith

pub round4_up : (n : ℕ) → n ≤ round4 n
round4_up n = omega arith

pub round4_least : (n m : ℕ) → n ≤ m → m % 4 ≡ 0 → round4 n ≤ m
round4_least n m h k = omega arith

pub round4_same : (n : ℕ) → n % 4 ≡ 0 → round4 n ≡ n
round4_same n h = omega arith

pub round4_near : (n : ℕ) → round4 n < n + 4
round4_near n = omega arith
