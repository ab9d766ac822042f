-- `face_lenient::value_beside` meets its contract. Assumes nothing.
use Rattle.face_lenient.specs.FaceLenient.{lenient_value}
use Rattle.face_lenient.proofs.value_beside.Goals as goal

pub returns : goal.returns
unfolding lenient_value
returns c =
    rw (c.value_told.ensures, c.told.ensures)
