-- `float20::exponent` meets its contract. 17 leading zeros leave 15 bits. Assumes nothing.
use Rattle.std.proofs.Common.{arith}
use Rattle.float20.specs.Float20Laws.{zeros_most, exponent_told}
use Rattle.float20.proofs.exponent.Goals as goal

pub overflow_sub-result : goal.overflow_sub-result
overflow_sub-result c =
    omega (arith, zeros_most c.args.n c.requires)

pub returns : goal.returns
returns c =
    exponent_told c.args.n c.requires
