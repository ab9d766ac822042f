-- `fit::unfit_integers` meets its contract. Under code 3 a magnitude below 2^30 is a number between two bounds; the
-- other codes hold every integer. Assumes nothing.
use Rattle.std.proofs.Common.{◌∙◌, arith}
use Rattle.fit.specs.Unfit.{unfit_integers, unfit_integer, first_same, magnitude_bounds, holds_integers}
use Rattle.fit.proofs.unfit_integers.Goals as goal

pub returns-in-1 : goal.returns-in-1
unfolding unfit_integers unfit_integer
returns-in-1 c =
    rw c.in-1.is c.outside_of.ensures

pub returns-in-3 : goal.returns-in-3
unfolding unfit_integers unfit_integer
returns-in-3 c =
    rw c.in-3.is (c.outside_of-in-3.ensures ∙ first_same _ _ magnitude_bounds 0 _)

pub returns-in_default : goal.returns-in_default
unfolding unfit_integers unfit_integer
returns-in_default c =
    holds_integers _ (λ e. omega arith) (λ e. omega arith) _
