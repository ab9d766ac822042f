-- `fit::is_found` meets its contract. Assumes nothing.
use Rattle.std.proofs.Common.{w32}
use Rattle.word.specs.Signed.{kept}
use Rattle.fit.proofs.is_found.Goals as goal

pub returns : goal.returns
returns c =
    rw (c.is_outside.ensures, kept w32 c.args.v c.ranges.v.sfits, kept w32 c.args.low c.ranges.low.sfits, kept w32 c.args.high c.ranges.high.sfits)
