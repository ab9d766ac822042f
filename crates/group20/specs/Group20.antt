-- The data bytes of a group of code 3 (document 01, "Samples" and "What we write"), for any four samples.
-- Assumes nothing.
use Rattle.std.specs.Prelude.{Bool, List, ◌++◌, ℕ, ◌+◌, ◌*◌, ℤ, pos, get_or}
use Rattle.word.specs.Word.{bytes_of}
use Rattle.float20.specs.Float20.{exponent_of, mantissa_of, ones_bits}

-- the first word of a group: the exponent of sample 0 in bits 0-3, that of sample 3 in bits 12-15
unfoldable pub exponents_of : ℤ → ℤ → ℤ → ℤ → ℕ
exponents_of a b c d = exponent_of a + 16 * exponent_of b + 256 * exponent_of c + 4096 * exponent_of d

-- the five words of a group, each in file order
unfoldable pub words_of : Bool → ℕ → ℕ → ℕ → ℕ → ℕ → List ℕ
words_of high w a b c d = bytes_of 2 high w ++ (bytes_of 2 high a ++ (bytes_of 2 high b ++ (bytes_of 2 high c ++ bytes_of 2 high d)))

unfoldable pub group_bytes : Bool → ℤ → ℤ → ℤ → ℤ → List ℕ
group_bytes high a b c d =
    words_of high (exponents_of a b c d) (ones_bits (mantissa_of a)) (ones_bits (mantissa_of b)) (ones_bits (mantissa_of c)) (ones_bits (mantissa_of d))

-- group g of a row
unfoldable pub group_of : Bool → List ℤ → ℕ → List ℕ
group_of high row g =
    group_bytes high (get_or row (4 * g) (pos 0)) (get_or row (4 * g + 1) (pos 0)) (get_or row (4 * g + 2) (pos 0)) (get_or row (4 * g + 3) (pos 0))
