-- `face_lenient::location_beside` meets its contract. Assumes nothing.
use Rattle.face_lenient.specs.FaceLenient.{lenient_location}
use Rattle.face_lenient.proofs.location_beside.Goals as goal

pub returns : goal.returns
unfolding lenient_location
returns c =
    rw (c.location_told.ensures, c.told.ensures)
