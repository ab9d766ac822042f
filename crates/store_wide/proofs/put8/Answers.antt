-- `store_wide::put8` meets its contract. It is two writes of half the width, one behind the other. Assumes nothing.
use mathlib.Core.Path.{◌∙◌}
use native.Mathlib.Omega.{arith}
use Rattle.word.specs.WordLaws.{put_joined}
use Rattle.store_wide.proofs.put8.Goals as goal

pub returns-then-high : goal.returns-then-high
returns-then-high c =
    let o = c.if-high.true in
    c.put4-then-high.ensures ∙ rw (c.put4.ensures, o) (put_joined 4 _ _ _ _ _ _ (omega arith) (omega arith) (omega arith))

pub returns-else-high : goal.returns-else-high
returns-else-high c =
    let o = c.if-high.false in
    c.put4-else-high-2.ensures ∙ rw (c.put4-else-high.ensures, o) (put_joined 4 _ _ _ _ _ _ (omega arith) (omega arith) (omega arith))
