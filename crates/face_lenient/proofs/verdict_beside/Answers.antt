-- `face_lenient::verdict_beside` meets its contract. Assumes nothing.
use Rattle.face_lenient.specs.FaceLenient.{lenient_verdict}
use Rattle.face_lenient.proofs.verdict_beside.Goals as goal

pub returns : goal.returns
unfolding lenient_verdict
returns c =
    rw (c.told.ensures, c.told-2.ensures)
