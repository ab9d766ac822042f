-- `layout::put_head` meets its contract. The block and its strings, one behind the other. Assumes nothing.
use Rattle.std.proofs.Common.{arith}
use Rattle.word.specs.Put.{length_put}
use Rattle.area.specs.Spelling.{measured_size}
use Rattle.area.specs.Writing.{writable}
use Rattle.layout.specs.Stores.{head_put}
use Rattle.layout.proofs.put_head.Goals as goal

pub overflow_cast-size : goal.overflow_cast-size
overflow_cast-size c =
    omega (arith, (measured_size _ _ _ _ c.requires.1).2)

pub put_area-requires : goal.put_area-requires
put_area-requires c =
    rw (c.put_block.ensures, length_put) (
      omega (arith, c.requires.0),
      writable _ _ _ _ _ c.requires.1
          (omega (arith, c.requires.0)),
    )

pub returns : goal.returns
returns c =
    rw (← head_put _ _ _ _ _ _ _ _ c.requires.1) cc
