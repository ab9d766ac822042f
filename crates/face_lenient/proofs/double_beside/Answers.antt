-- `face_lenient::double_beside` meets its contract. Assumes nothing.
use Rattle.face_lenient.specs.FaceLenient.{lenient_double}
use Rattle.face_lenient.proofs.double_beside.Goals as goal

pub returns : goal.returns
unfolding lenient_double
returns c =
    rw (c.double_told.ensures, c.told.ensures)
