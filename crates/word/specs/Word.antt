-- Whole numbers of several bytes. "All whole numbers follow the byte order told by bytes 0 and 1: 55 3A is low byte
-- first, 3A 55 high byte first" (document 01, "The file block"). An order is a Bool: `true` is high byte first.
-- Assumes nothing.
use Rattle.std.specs.Prelude.{Bool, true, false, List, [], ◌∷◌, reverse, ℕ, zero, suc, ◌+◌, ◌*◌, ◌/◌, ◌%◌, take, drop}

-- the number that bytes are, low byte first: each byte counts 256 times what the byte before it counts
unfoldable pub low_first : List ℕ → ℕ
low_first [] = 0
low_first (b ∷ bs) = b + 256 * low_first bs

-- the number that bytes are in either order: high byte first is the other way round
unfoldable pub value_of : Bool → List ℕ → ℕ
value_of false bs = low_first bs
value_of true bs = low_first (reverse bs)

-- the whole number of w bytes at a place of f
unfoldable pub word_at : ℕ → Bool → List ℕ → ℕ → ℕ
word_at w high f at = value_of high (take w (drop at f))

-- the w bytes of a number, low byte first; what does not fit is cut off
unfoldable pub low_bytes : ℕ → ℕ → List ℕ
low_bytes zero n = []
low_bytes (suc w) n = n % 256 ∷ low_bytes w (n / 256)

-- the w bytes of a number in either order
unfoldable pub bytes_of : ℕ → Bool → ℕ → List ℕ
bytes_of w false n = low_bytes w n
bytes_of w true n = reverse (low_bytes w n)

-- two numbers below a base, one behind the other, as one
abbrev pub joined : ℕ → Bool → ℕ → ℕ → ℕ
joined base true a b = a * base + b
joined base false a b = b * base + a
