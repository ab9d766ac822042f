-- All strings of a trace in one row, and the i-th string, on any file: where the row is filled, its i-th four numbers are those
-- of the string that the quick question for it answers. (On an accepted file both are the full ones, Full.)
-- Assumes nothing.
use Rattle.std.specs.Prelude.{ℤ, take, List, ℕ, ◌+◌}
use Rattle.head_words.specs.HeadWords.{high_first}
use Rattle.block.specs.Block.{data_at}
use Rattle.image.specs.Keeps.{trace_at}
use Rattle.reader.specs.Questions.{trace_number}

module _ (xs : List ℕ) (n : ℕ) (z : ℤ) where
  abbrev f : List ℕ
  f = take n xs

  abbrev k : ℕ
  k = trace_number z

  abbrev a : ℕ
  a = trace_at f k + 32

  abbrev e : ℕ
  e = data_at (high_first f) f (trace_at f k)
