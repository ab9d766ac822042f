-- The answer of `listing` as a host takes it: no listing has the greatest number of bytes.
-- Assumes nothing.
use Rattle.std.specs.Prelude.{ℕ, Option, Some, None}

abbrev pub length_told : Option ℕ → ℕ
length_told (Some n) = n
length_told None = 18446744073709551615
