-- `fit::wide_of` meets its contract. Where none is found, the row is all good. Assumes nothing.
use Rattle.std.proofs.Common.{sym, ◌∙◌}
use Rattle.fit.specs.Unfit.{unfit_pattern, unfit_patterns}
use Rattle.fit.proofs.Found.{first_position, none_found}
use Rattle.fit.proofs.wide_of.Goals as goal

pub returns-then-any_wide : goal.returns-then-any_wide
unfolding unfit_patterns unfit_pattern
returns-then-any_wide c =
    c.first_wide.ensures ∙ first_position (unfit_pattern 4) c.args.row.now

pub returns : goal.returns
unfolding unfit_patterns unfit_pattern
returns c =
    none_found (unfit_pattern 4) c.args.row.now (sym c.any_wide.ensures ∙ c.if-any_wide.false)
