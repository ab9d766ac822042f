-- `face_lenient::trace_beside` meets its contract. Assumes nothing.
use Rattle.face_lenient.specs.FaceLenient.{lenient_trace}
use Rattle.face_lenient.proofs.trace_beside.Goals as goal

pub returns : goal.returns
unfolding lenient_trace
returns c =
    rw (c.trace_told.ensures, c.told.ensures)
