-- `quick::between` meets its contract. The line terminator has a character. Assumes nothing.
use mathlib.Core.Path.{ap}
use native.Mathlib.Omega.{arith}
use lib.ListN.{length}
use Rattle.terminators.specs.TerminatorLaws.{good_most, length_terminator}
use Rattle.quick.proofs.between.Goals as goal

pub walk-requires : goal.walk-requires
walk-requires c =
    let g = good_most c.args.f.now 11 c.requires.4 in
    let l = length_terminator c.args.f.now 11 (omega (arith, c.requires.2)) c.requires.4 in
    (c.requires.0, c.requires.1, omega (arith, g.0, l, ap length c.line_end.ensures.result_value))

pub returns : goal.returns
returns c =
    rw (c.walk.ensures, c.is_high.ensures, c.string_end.ensures.result_value, c.line_end.ensures.result_value)
