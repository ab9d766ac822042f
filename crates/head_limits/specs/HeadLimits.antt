-- The tests of the file block's rows 2, 4 and 5 (document 01, "The file block"). f is the image, or no more than its
-- first 32 bytes.
-- Assumes nothing.
use Rattle.std.specs.Prelude.{Bool, true, false, not, ◌&&◌, ◌||◌, List, ℕ, ◌/◌, ◌%◌, get_or, ltb, eqb}
use Rattle.head_limits.specs.declared.Purpose.{Purpose}
use Rattle.head_limits.specs.declared.Purpose.TheVariants.{Read, Grow}

-- "bytes 0 and 1: 55 3A is low byte first, 3A 55 high byte first"
abbrev pub known : List ℕ → Bool
known f = (eqb (get_or f 0 0) 85 && eqb (get_or f 1 0) 58) || (eqb (get_or f 0 0) 58 && eqb (get_or f 1 0) 85)

-- "The addition also takes an image with N=0"
abbrev pub may_be_empty : Purpose → Bool
may_be_empty Read = false
may_be_empty Grow = true

abbrev pub bad_room : ℕ → Bool
bad_room m = ltb m 4 || not (eqb (m % 4) 0)

abbrev pub bad_count : Purpose → ℕ → ℕ → Bool
bad_count purpose m n = (eqb n 0 && not (may_be_empty purpose)) || ltb (m / 4) n
