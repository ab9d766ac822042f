-- `decode::read3` meets its contract. Each order is read by itself. Assumes nothing.
use Rattle.std.proofs.Common.{arith, eq-eqb}
use Rattle.sample.specs.Needed.{needed}
use Rattle.decode.specs.SampleLaws.{too_short, no_groups, there, nothing_read, all_read}
use Rattle.decode.proofs.read3.Goals as goal

pub returns-then-row-ne0 : goal.returns-then-row-ne0
returns-then-row-ne0 c =
    let e = nothing_read 3 _ _ _ (no_groups _ _ c.if-row-ne0.true) in record { answer = e.0; filled = e.1 }

pub returns-then-block-row : goal.returns-then-block-row
unfolding needed
returns-then-block-row c =
    let e = nothing_read 3 _ _ _ (too_short 3 _ _ (omega arith)) in record { answer = e.0; filled = e.1 }

pub read_groups-requires : goal.read_groups-requires
unfolding needed
read_groups-requires c = (omega arith, omega arith)

pub read_groups-requires-else-high : goal.read_groups-requires-else-high
unfolding needed
read_groups-requires-else-high c = (omega arith, omega arith)

pub returns-then-high : goal.returns-then-high
unfolding needed
returns-then-high c =
    let h = there 3 _ _ (eq-eqb _ _ c.if-row-ne0.false) (omega arith) in
    rw c.if-high.true (let e = all_read 3 _ _ _ _ h c.read_groups.ensures in record { answer = e.0; filled = e.1 })

pub returns-else-high : goal.returns-else-high
unfolding needed
returns-else-high c =
    let h = there 3 _ _ (eq-eqb _ _ c.if-row-ne0.false) (omega arith) in
    rw c.if-high.false (let e = all_read 3 _ _ _ _ h c.read_groups-else-high.ensures in record { answer = e.0; filled = e.1 })
