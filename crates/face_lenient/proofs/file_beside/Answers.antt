-- `face_lenient::file_beside` meets its contract. Assumes nothing.
use Rattle.face_lenient.specs.FaceLenient.{lenient_file}
use Rattle.face_lenient.proofs.file_beside.Goals as goal

pub returns : goal.returns
unfolding lenient_file
returns c =
    rw (c.file_told.ensures, c.told.ensures)
