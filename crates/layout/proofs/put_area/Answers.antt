-- `layout::put_area` meets its contract. The part that is lent comes back as stores in the buffer. Assumes nothing.
use Rattle.word.specs.Put.{lent_back}
use Rattle.layout.proofs.put_area.Goals as goal

pub returns : goal.returns
returns c =
    lent_back _ _ _ _ c.write_area.ensures
