-- `group20::pair` meets its contract. Which word counts 65536 times is by the order. Assumes nothing.
use Rattle.group20.proofs.pair.Goals as goal

pub returns-then-high : goal.returns-then-high
returns-then-high c =
    rw c.if-high.true

pub returns-else-high : goal.returns-else-high
returns-else-high c =
    rw c.if-high.false
