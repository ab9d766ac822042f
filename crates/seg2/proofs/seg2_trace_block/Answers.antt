-- `seg2::seg2_trace_block` meets its contract: the promise of the function that it calls. Assumes nothing.
use mir.Syntax.{w32}
use mir.Facts.{to_z-of_z}
use Rattle.seg2.proofs.seg2_trace_block.Goals as goal

pub returns : goal.returns
returns c =
    rw (to_z-of_z {w = w32} c.ranges.trace) at c.trace_block.ensures
