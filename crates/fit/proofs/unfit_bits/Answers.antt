-- `fit::unfit_bits` meets its contract. Only code 4 has patterns that it cannot hold. Assumes nothing.
use Rattle.std.proofs.Common.{arith}
use Rattle.fit.specs.Unfit.{holds_patterns}
use Rattle.fit.proofs.unfit_bits.Goals as goal

pub returns-in-4 : goal.returns-in-4
returns-in-4 c =
    rw c.in-4.is c.wide_of.ensures

pub returns-in_default : goal.returns-in_default
returns-in_default c =
    holds_patterns _ (λ e. omega arith) _
