-- What the samples of a data block are, as figures B-1 to B-5 of the paper show (document 01, "Samples"). A block is a
-- list of bytes and nothing of the file; sample i of it is counted from 0, and `high` says that the high byte comes
-- first.
-- Assumes nothing.
use Rattle.std.specs.Prelude.{Bool, true, false, cond, ◌&&◌, List, ℕ, ◌+◌, ◌*◌, ◌/◌, ◌%◌, ◌^◌, ℤ, pos, length, leb, eqb}
use Rattle.word.specs.Word.{word_at}
use Rattle.sample.specs.Needed.{by_code, needed, width}
use Rattle.sample.specs.Run.{values_from}
use Rattle.sample_bits.specs.SampleBits.{twos, exponent_in, scaled}

-- ---- codes 1, 2, 4 and 5: a sample is one whole number

-- the whole number that sample i is
unfoldable pub pattern_of : ℕ → Bool → List ℕ → ℕ → ℕ
pattern_of code high block i = word_at (width code) high block (width code * i)

-- ---- code 3: groups of ten bytes for four samples (figure B-3)

-- sample k of the group at place g: the exponents' word is the first of the group's five, and mantissa k is k words
-- behind it and one
unfoldable pub group_sample : Bool → List ℕ → ℕ → ℕ → ℤ
group_sample high block g k = scaled (exponent_in (word_at 2 high block g) k) (word_at 2 high block (g + 2 * (k + 1)))

-- ---- the integers of a block

-- sample i under codes 1 to 3
unfoldable pub sample_of : ℕ → Bool → List ℕ → ℕ → ℤ
sample_of code high block i =
    by_code (twos 32768 (pattern_of 1 high block i)) (twos 2147483648 (pattern_of 2 high block i)) (group_sample high block (i / 4 * 10) (i % 4)) (pos 0)
    (pos 0) (pos 0) code

-- where the bytes end that sample i is made of; under code 3 they are its group's
unfoldable pub sample_end : ℕ → ℕ → ℕ
sample_end code i = by_code (2 * i + 2) (4 * i + 4) (i / 4 * 10 + 10) 0 0 0 code

-- s samples can be asked for as integers: the code is one of integers, and under code 3 they are whole groups
abbrev pub integers_asked : ℕ → ℕ → Bool
integers_asked code s = by_code true true (eqb (s % 4) 0) false false false code

-- and the block has the needed bytes
unfoldable pub integers_there : ℕ → ℕ → List ℕ → Bool
integers_there code s block = integers_asked code s && leb (needed code s) (length block)

-- what is left in a lent row: as many samples as it has, if they are there, and else itself
unfoldable pub integers_read : ℕ → Bool → List ℕ → List ℤ → List ℤ
integers_read code high block row = cond (integers_there code (length row) block) (values_from (sample_of code high block) 0 (length row)) row

-- ---- the bits of a block (figures B-4 and B-5)

-- the class of a pattern, by its exponent bits and its fraction bits: 0 zero, 1 underflow, 2 number, 3 infinity, 4 not
-- a number (document 01, "Samples"; the paper's table under figure B-5). `ones` is the exponent whose bits are all 1
unfoldable pub class_by : ℕ → ℕ → ℕ → ℕ
class_by ones exponent fraction = cond (eqb exponent 0) (cond (eqb fraction 0) 0 1) (cond (eqb exponent ones) (cond (eqb fraction 0) 3 4) 2)

-- 8 exponent bits above 23 fraction bits, and 11 above 52
unfoldable pub class_of : ℕ → ℕ → ℕ
class_of code n = by_code 0 0 0 (class_by 255 (n / 2 ^ 23 % 2 ^ 8) (n % 2 ^ 23)) (class_by 2047 (n / 2 ^ 52 % 2 ^ 11) (n % 2 ^ 52)) 0 code

-- the code is one of bits
abbrev pub bits_asked : ℕ → Bool
bits_asked code = by_code false false false true true false code

-- s patterns and t classes can be read: the code is one of bits, there are as many of the one as of the other, and the
-- block has the needed bytes
unfoldable pub bits_there : ℕ → ℕ → ℕ → List ℕ → Bool
bits_there code s t block = bits_asked code && (eqb t s && leb (needed code s) (length block))

-- what is left in the two lent rows: all or nothing
unfoldable pub patterns_read : ℕ → Bool → List ℕ → List ℕ → List ℕ → List ℕ
patterns_read code high block row classes = cond (bits_there code (length row) (length classes) block) (values_from (pattern_of code high block) 0 (length row)) row

unfoldable pub classes_read : ℕ → Bool → List ℕ → List ℕ → List ℕ → List ℕ
classes_read code high block row classes =
    cond (bits_there code (length row) (length classes) block) (values_from (λ i. class_of code (pattern_of code high block i)) 0 (length row)) classes
