-- The data bytes of a row of samples (document 01, "Samples" and "What we write"). Every definition is for any row;
-- that what is read back is what was written holds of the rows that the code can hold. The groups of code 3 are
-- defined in row20/Row20 and group20/Group20.
-- Assumes nothing.
use Rattle.std.specs.Prelude.{Bool, List, [], ◌∷◌, ◌++◌, ℕ, ◌-◌, ◌%◌, ◌^◌, ℤ, pos, negsuc, length, replicate}
use Rattle.word.specs.Round.{round4}
use Rattle.word.specs.Word.{bytes_of}
use Rattle.sample.specs.Needed.{by_code}
use Rattle.row20.specs.Row20.{groups}

-- the bytes of the samples, one sample behind the other
unfoldable pub flat : {A : Type 0} → (A → List ℕ) → List A → List ℕ
flat f [] = []
flat f (x ∷ xs) = f x ++ flat f xs

-- ---- codes 1 and 2

-- the number below m that z differs from by a multiple of m. Two's complement of b bits is the residue at 2^b: "(a) +
-- (-a) = 2^16" (paper, appendix B)
unfoldable pub residue : ℕ → ℤ → ℕ
residue m (pos n) = n % m
residue m (negsuc n) = m - 1 - n % m

unfoldable pub fixed_bytes : ℕ → Bool → ℤ → List ℕ
fixed_bytes w high z = bytes_of w high (residue (256 ^ w) z)

-- ---- the data block

-- zeros up to a multiple of 4
unfoldable pub filled_up : List ℕ → List ℕ
filled_up bs = bs ++ replicate (round4 (length bs) - length bs) 0

unfoldable pub integers_data : ℕ → Bool → List ℤ → List ℕ
integers_data code high row = filled_up (by_code (flat (fixed_bytes 2 high) row) (flat (fixed_bytes 4 high) row) (groups high row) [] [] [] code)

unfoldable pub bits_data : ℕ → Bool → List ℕ → List ℕ
bits_data code high row = filled_up (by_code [] [] [] (flat (bytes_of 4 high) row) (flat (bytes_of 8 high) row) [] code)
