-- `word::word4` meets its contract. It is two words of half the width. Assumes nothing.
use native.Mathlib.Omega.{arith}
use Rattle.word.specs.WordLaws.{word_joined}
use Rattle.word.proofs.word4.Goals as goal

pub returns-then-high : goal.returns-then-high
returns-then-high c =
    (rw (word_joined 2 _ _ _ c.requires, ← c.word2-a.ensures.0, ← c.word2-b.ensures.0, c.if-high.true), omega arith)

pub returns-else-high : goal.returns-else-high
returns-else-high c =
    (rw (word_joined 2 _ _ _ c.requires, ← c.word2-a.ensures.0, ← c.word2-b.ensures.0, c.if-high.false), omega arith)
