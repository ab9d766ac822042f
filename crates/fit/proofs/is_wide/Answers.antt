-- `fit::is_wide` meets its contract. Assumes nothing.
use Rattle.std.proofs.Common.{refl}
use Rattle.fit.specs.Unfit.{unfit_pattern}
use Rattle.fit.proofs.is_wide.Goals as goal

pub returns : goal.returns
unfolding unfit_pattern
returns c = refl
