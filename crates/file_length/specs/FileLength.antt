-- Row 1 (document 01): the length of a file, given beside the buffer that it stands in.
-- Assumes nothing.
use Rattle.std.specs.Prelude.{◌≡◌, Bool, false, ◌||◌, ℕ, ◌≤◌, ltb}
use Rattle.std.proofs.Common.{le-ltb, ltb-false}
use Rattle.word.specs.Tests.{neither, join_neither}
use Rattle.head.specs.Head.{maximum}

-- "length under 32, over the maximum, or over the buffer"; the image is the first n bytes
abbrev pub bad_length : ℕ → ℕ → Bool
bad_length size n = ltb n 32 || (ltb maximum n || ltb size n)

-- ---- what row 1 has shown, and what passes it
pub long_enough : (size n : ℕ) → bad_length size n ≡ false → (32 ≤ n) × (n ≤ maximum) × (n ≤ size)
long_enough size n h =
    let a = neither (ltb n 32) (ltb maximum n || ltb size n) h in
    let b = neither (ltb maximum n) (ltb size n) a.1 in
    (ltb-false _ _ a.0, ltb-false _ _ b.0, ltb-false _ _ b.1)

pub length_accepts : (size n : ℕ) → 32 ≤ n → n ≤ maximum → n ≤ size → bad_length size n ≡ false
length_accepts size n a b c =
    join_neither (ltb n 32) (ltb maximum n || ltb size n) (le-ltb _ _ a) (join_neither (ltb maximum n) (ltb size n) (le-ltb _ _ b) (le-ltb _ _ c))
