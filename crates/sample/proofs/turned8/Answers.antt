-- `sample::turned8` meets its contract. The bytes the other way round, or nothing turned. Assumes nothing.
use Rattle.std.proofs.Common.{sym, arith}
use Rattle.word.specs.Word.{low_first, low_bytes, value_of, bytes_of}
use Rattle.sample.specs.Turned.{turned, turned_low}
use Rattle.sample.proofs.turned8.Goals as goal

pub returns-then-high : goal.returns-then-high
unfolding turned value_of bytes_of low_first low_bytes
returns-then-high c =
    rw c.if-high.true (omega arith)

pub returns-else-high : goal.returns-else-high
returns-else-high c =
    rw c.if-high.false (sym (turned_low 8 _ (omega arith)))
