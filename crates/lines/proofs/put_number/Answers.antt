-- `lines::put_number` meets its contract. A 16-bit number is below 100,000. Assumes nothing.
use Rattle.std.proofs.Common.{arith}
use Rattle.lines.specs.Sizes.{trace_number_lem}
use Rattle.lines.proofs.put_number.Goals as goal

pub put_digits-requires : goal.put_digits-requires
put_digits-requires c =
    let l = trace_number_lem c.args.k (omega arith) in omega (arith, l, c.requires)

pub returns : goal.returns
returns c =
    (c.put_digits.ensures, trace_number_lem c.args.k (omega arith))
