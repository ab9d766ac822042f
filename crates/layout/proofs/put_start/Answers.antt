-- `layout::put_start` meets its contract. The file block, the empty slots and the area are the start image. Assumes
-- nothing.
use Rattle.word.specs.Put.{length_put}
use Rattle.layout.specs.Stores.{start_put}
use Rattle.layout.proofs.put_start.Goals as goal

pub put_area-requires : goal.put_area-requires
put_area-requires c =
    rw (c.zeros.ensures, length_put, c.put_file_block.ensures, length_put) (c.requires.1, c.requires.2)

pub returns : goal.returns
returns c =
    rw (← start_put _ _ _ _) cc
