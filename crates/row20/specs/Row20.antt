-- The data bytes of a row in code 3 (document 01, "Samples" and "What we write"), for any row.
-- Assumes nothing.
use Rattle.std.specs.Prelude.{Bool, List, [], ◌∷◌, ◌++◌, ℕ, ℤ}
use Rattle.group20.specs.Group20.{group_bytes}

-- the groups of a row; what is no whole group at its end has none
unfoldable pub groups : Bool → List ℤ → List ℕ
groups high [] = []
groups high (a ∷ []) = []
groups high (a ∷ b ∷ []) = []
groups high (a ∷ b ∷ c ∷ []) = []
groups high (a ∷ b ∷ c ∷ d ∷ row) = group_bytes high a b c d ++ groups high row
