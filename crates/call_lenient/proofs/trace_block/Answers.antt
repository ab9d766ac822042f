-- `call_lenient::trace_block` meets its contract: the answers of the two functions below it, as they cross. Assumes nothing.
use Rattle.std.proofs.Common.{ap₂, ◌∙◌}
use mir.Syntax.{w32}
use mir.Facts.{to_z-of_z}
use Rattle.face_lenient.specs.FaceLenient.{lenient_trace}
use Rattle.call_lenient.proofs.trace_block.Goals as goal

pub returns : goal.returns
returns c =
    let own = rw (to_z-of_z {w = w32} c.ranges.trace) at c.trace_block.ensures in
    c.trace_beside.ensures ∙ ap₂ lenient_trace own c.strictly-strict.ensures
