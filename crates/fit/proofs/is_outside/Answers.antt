-- `fit::is_outside` meets its contract. The two tests are those of the definition. Assumes nothing.
use Rattle.std.proofs.Common.{w32}
use Rattle.word.specs.Signed.{kept}
use Rattle.fit.specs.Unfit.{outside}
use Rattle.fit.proofs.is_outside.Goals as goal

pub returns : goal.returns
unfolding outside
returns c =
    rw (kept w32 c.args.v c.ranges.v.sfits, kept w32 c.args.low c.ranges.low.sfits, kept w32 c.args.high c.ranges.high.sfits)
