-- What the numbers of a trace block may be (document 01, rows 8 and 10 to 13): the test of each row. p is the pointer, B
-- the block's size, D the data's, S the sample count; end is the image's length, prev the end of what stands before.
-- Assumes nothing.
use Rattle.std.specs.Prelude.{Bool, not, ◌&&◌, ◌||◌, ℕ, ◌+◌, ◌%◌, ltb, eqb}
use Rattle.sample.specs.Needed.{needed}

-- 8 "pointer no multiple of 4, before the previous end (first: 32+M), or p+32 past the end"
abbrev pub bad_pointer : ℕ → ℕ → ℕ → Bool
bad_pointer end prev p = not (eqb (p % 4) 0) || (ltb p prev || ltb end (p + 32))

-- 10 "B under 32, no multiple of 4, or past the end"
abbrev pub bad_block : ℕ → ℕ → ℕ → Bool
bad_block end p b = ltb b 32 || (not (eqb (b % 4) 0) || ltb end (p + b))

-- 11 "D no multiple of 4 or past the end"; the data begins at `at`
abbrev pub bad_data : ℕ → ℕ → ℕ → Bool
bad_data end at d = not (eqb (d % 4) 0) || ltb end (at + d)

-- 12 "code not 1 to 5"
abbrev pub bad_code : ℕ → Bool
bad_code c = ltb c 1 || ltb 5 c

-- 13 "S no multiple of 4 under code 3, or needed bytes over D"
abbrev pub bad_samples : ℕ → ℕ → ℕ → Bool
bad_samples c s d = (eqb c 3 && not (eqb (s % 4) 0)) || ltb d (needed c s)
