-- `face_lenient::number_beside` meets its contract. Assumes nothing.
use Rattle.face_lenient.specs.FaceLenient.{lenient_number}
use Rattle.face_lenient.proofs.number_beside.Goals as goal

pub returns : goal.returns
unfolding lenient_number
returns c =
    rw (c.number_told.ensures, c.told.ensures)
