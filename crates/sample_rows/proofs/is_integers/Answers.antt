-- `sample_rows::is_integers` meets its contract. No other code is one of integers. Assumes nothing.
use Rattle.reader.specs.Leaves.{integers_none}
use Rattle.sample_rows.proofs.is_integers.Goals as goal

pub returns-in_default : goal.returns-in_default
returns-in_default c =
    let r = c.in_default.in_default-own.rest in integers_none _ r.0.0.1 r.0.1 r.1
