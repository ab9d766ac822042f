-- `call_quick::trace_block` meets its contract. The answer of the function below it, as it crosses. Assumes nothing.
use Rattle.std.proofs.Common.{ap, ◌∙◌}
use mir.Syntax.{w32}
use mir.Facts.{to_z-of_z}
use Rattle.face.specs.Face.{as_trace}
use Rattle.call_quick.proofs.trace_block.Goals as goal

pub returns : goal.returns
returns c =
    c.trace_told.ensures ∙ ap as_trace (rw (to_z-of_z {w = w32} c.ranges.trace) at c.block.ensures)
