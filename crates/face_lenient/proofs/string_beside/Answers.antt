-- `face_lenient::string_beside` meets its contract. Assumes nothing.
use Rattle.face_lenient.specs.FaceLenient.{lenient_string}
use Rattle.face_lenient.proofs.string_beside.Goals as goal

pub returns : goal.returns
unfolding lenient_string
returns c =
    rw (c.string_told.ensures, c.told.ensures)
