-- `store::put2` meets its contract. The bytes are stored in the file's order. Assumes nothing.
use native.Mathlib.Omega.{arith}
use lib.ListN.{length-set}
use Rattle.word.specs.Put.{put}
use Rattle.word.specs.Word.{low_bytes, bytes_of}
use Rattle.store.proofs.put2.Goals as goal

pub bounds-buf-at1 : goal.bounds-buf-at1
unfolding put low_bytes bytes_of
bounds-buf-at1 c =
    simp length-set (omega arith)

pub bounds-buf-at1-else-high : goal.bounds-buf-at1-else-high
unfolding put low_bytes bytes_of
bounds-buf-at1-else-high c =
    simp length-set (omega arith)

pub returns-then-high : goal.returns-then-high
unfolding put low_bytes bytes_of
returns-then-high c =
    rw c.if-high.true

pub returns-else-high : goal.returns-else-high
unfolding put low_bytes bytes_of
returns-else-high c =
    rw c.if-high.false
