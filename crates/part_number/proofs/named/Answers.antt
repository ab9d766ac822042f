-- `part_number::named` meets its contract. -1 is told by its bit pattern, then the 16 bits, then the bound. Assumes
-- nothing.
use Rattle.std.proofs.Common.{◌∙◌}
use Rattle.part_number.proofs.Machine.{whole, nobody, somebody}
use Rattle.part_number.proofs.named.Goals as goal

pub returns-then-part-eqminus1 : goal.returns-then-part-eqminus1
returns-then-part-eqminus1 c =
    whole c.args.part _ c.ranges.part.sfits c.if-part-eqminus1.true

pub returns-in_default : goal.returns-in_default
returns-in_default c =
    nobody c.args.part _ c.ranges.part.sfits c.ranges.n.fits c.if-part-eqminus1.false c.in_default.ensures

pub returns : goal.returns
returns c =
    c.then_some.ensures ∙ somebody c.args.part _ c.ranges.part.sfits c.in-Ok.ensures.0 c.in-Ok.ensures.1
