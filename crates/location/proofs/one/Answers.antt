-- `location::one` meets its contract: by the answer of the one value. Assumes nothing.
use Rattle.std.proofs.Common.{sym, ◌∙◌}
use Rattle.std.specs.Float.Ieee.{of_bits}
use Rattle.location.specs.Location.{one_of, goes_on, ends}
use Rattle.location.proofs.one.Goals as goal

pub returns-in_default : goal.returns-in_default
unfolding one_of
returns-in_default c =
    c.passed.ensures ∙ rw (c.in_default.is, ends c.args.a _ _ (sym c.coordinate_at-first.ensures ∙ c.in_default.is))

pub returns : goal.returns
unfolding of_bits one_of
returns c =
    rw (goes_on c.args.a _ _ (sym c.coordinate_at-first.ensures ∙ c.in-Ok.is))
