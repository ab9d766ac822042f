-- The file that a list defines keeps the rules of a file, so that the check accepts it: every reader takes it where it
-- has a trace, and an addition takes it always.
-- Assumes nothing.
use Rattle.std.specs.Prelude.{refl, Bool, List, ℕ, ◌≤◌, length}
use Rattle.std.proofs.Common.{arith}
use Rattle.note.specs.Note.{LineEnd}
use Rattle.head.specs.Head.{maximum}
use Rattle.layout.specs.Layout.{slots_most, line_feed, Trace}
use Rattle.afresh.specs.FileOf.{file_of, file_size}
use Rattle.afresh.specs.FileOf.{AllGood}

-- 0Ah is no character of a value
pub feed_ends : LineEnd line_feed
feed_ends = (omega arith, refl)

-- ---- the whole
module _ (high : Bool) (slots : ℕ) (sheet : List ℕ) (ts : List Trace) (few : slots ≤ slots_most) (good : AllGood ts) (slotted : length ts ≤ slots)
    (most : file_size slots sheet ts ≤ maximum) where
  abbrev file : List ℕ
  file = file_of high slots sheet ts
