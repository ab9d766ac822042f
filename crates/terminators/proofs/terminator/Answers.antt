-- `terminators::terminator` meets its contract. A good terminator has at most two characters. Assumes nothing.
use Rattle.std.proofs.Common.{rules, arith}
use Rattle.terminators.specs.Terminators.{terminator_at}
use Rattle.terminators.specs.TerminatorLaws.{good_most}
use Rattle.terminators.proofs.terminator.Goals as goal

pub slice_bounds-result-end : goal.slice_bounds-result-end
slice_bounds-result-end c =
    let m = good_most _ _ c.requires.1 in omega (arith, m.1, c.wide.ensures.0, c.requires.0)

pub returns : goal.returns
unfolding terminator_at
returns c =
    rw c.wide.ensures.0 (search rules)
