-- `head_limits::is_bad_count` meets its contract. Assumes nothing.
use Rattle.head_limits.proofs.is_bad_count.Goals as goal

pub returns : goal.returns
returns c =
    rw c.may_be_empty.ensures
