-- `patterns::read` meets its contract. The classes are those of the patterns that were read. Assumes nothing.
use Rattle.decode.specs.SampleLaws.{unequal, bits_too_short, bits_there_lem, no_bits_read, all_bits_read}
use Rattle.patterns.proofs.Asked.{one_needs, too_few, enough}
use Rattle.patterns.proofs.read.Goals as goal

pub returns-then-classes-row : goal.returns-then-classes-row
returns-then-classes-row g c =
    let e = no_bits_read g.row.CODE c.args.high _ _ _ (unequal _ _ _ _ c.if-classes-row.true) in record { answer = e.0; filled = e.1.0; classed = e.1.1 }

pub nonzero_div-block : goal.nonzero_div-block
nonzero_div-block g c = rw c.needed.ensures.0 (one_needs _ c.requires)

pub returns-then-block-needed : goal.returns-then-block-needed
returns-then-block-needed g c =
    let e = no_bits_read g.row.CODE c.args.high _ _ _ (bits_too_short _ _ _ _ (too_few _ _ _ c.requires (rw c.needed.ensures.0 at c.if-block-needed.true))) in
    record { answer = e.0; filled = e.1.0; classed = e.1.1 }

pub fill-requires : goal.fill-requires
fill-requires g c = (c.requires, c.if-classes-row.false, enough _ _ _ c.requires (rw c.needed.ensures.0 at c.if-block-needed.false))

pub fill-requires-else-high : goal.fill-requires-else-high
fill-requires-else-high g c = (c.requires, c.if-classes-row.false, enough _ _ _ c.requires (rw c.needed.ensures.0 at c.if-block-needed.false))

pub returns-then-high : goal.returns-then-high
returns-then-high g c =
    let h = bits_there_lem g.row.CODE _ _ _ c.requires c.if-classes-row.false (enough _ _ _ c.requires (rw c.needed.ensures.0 at c.if-block-needed.false)) in
    rw c.if-high.true (let e = all_bits_read g.row.CODE _ _ _ _ _ _ h c.fill.ensures.filled c.fill.ensures.classed in
    record { answer = e.0; filled = e.1.0; classed = e.1.1 })

pub returns-else-high : goal.returns-else-high
returns-else-high g c =
    let h = bits_there_lem g.row.CODE _ _ _ c.requires c.if-classes-row.false (enough _ _ _ c.requires (rw c.needed.ensures.0 at c.if-block-needed.false)) in
    rw c.if-high.false (let e = all_bits_read g.row.CODE _ _ _ _ _ _ h c.fill-else-high.ensures.filled c.fill-else-high.ensures.classed in
    record { answer = e.0; filled = e.1.0; classed = e.1.1 })
