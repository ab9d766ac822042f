-- `limits::is_bad_samples` meets its contract. Assumes nothing.
use Rattle.limits.proofs.is_bad_samples.Goals as goal

pub returns : goal.returns
returns c =
    rw (← c.needed.ensures.0)
