-- `word::word2` meets its contract. A word of two is two words of one. Assumes nothing.
use Prim.Native.Nat.{◌+◌}
use native.Mathlib.Omega.{arith}
use Rattle.word.specs.WordLaws.{word_byte, word_joined}
use Rattle.word.proofs.word2.Goals as goal

pub returns-then-high : goal.returns-then-high
returns-then-high c =
    let args = c.args in
    let f = args.f.now in
    let at = args.at in (
      rw (
        word_joined 1 _ f at c.requires,
        word_byte _ f at (omega arith),
        word_byte _ f (at + 1) (omega arith),
        ← c.wide-a.ensures.0,
        ← c.wide-b.ensures.0,
        c.if-high.true,
      ),
      omega arith,
    )

pub returns-else-high : goal.returns-else-high
returns-else-high c =
    let args = c.args in
    let f = args.f.now in
    let at = args.at in (
      rw (
        word_joined 1 _ f at c.requires,
        word_byte _ f at (omega arith),
        word_byte _ f (at + 1) (omega arith),
        ← c.wide-a.ensures.0,
        ← c.wide-b.ensures.0,
        c.if-high.false,
      ),
      omega arith,
    )
