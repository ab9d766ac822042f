-- "It answers the same strings as the strict reading on each strictly accepted file" (document 02 §11): every question, in
-- every manner, and each lent row. xs is the lent buffer, n the length given beside it.
-- Assumes nothing.
use Rattle.std.specs.Prelude.{◌≡◌, ℕ, take, List}
use Rattle.refusal.specs.Verdicts.{accepted}
use Rattle.text.specs.declared.Manner.TheVariants.{Strict}
use Rattle.head_limits.specs.declared.Purpose.TheVariants.{Read}
use Rattle.image.specs.Image.{check_of}

-- ---- every question on a file that the strict check lets through, in the lenient manner

module _ (xs : List ℕ) (n : ℕ) (ok : check_of Strict Read xs n ≡ accepted) where
  abbrev pub f : List ℕ
  f = take n xs
