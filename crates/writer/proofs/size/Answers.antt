-- `writer::size` meets its contract. The rows of an addition into the largest room, with what row 28 says of the code
-- alone. Assumes nothing.
use Rattle.entry.proofs.EntryLaws.{code_judged}
use Rattle.writer.specs.Writes.{needs_told}
use Rattle.writer.proofs.size.Goals as goal

pub told-requires : goal.told-requires
told-requires c =
    code_judged c.code_fits-fit.ensures

pub returns : goal.returns
returns c =
    needs_told _ _ _ _ _ c.code_fits-fit.ensures c.told.ensures
