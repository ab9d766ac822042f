-- `face_lenient::count_beside` meets its contract. Assumes nothing.
use Rattle.face_lenient.specs.FaceLenient.{lenient_count}
use Rattle.face_lenient.proofs.count_beside.Goals as goal

pub returns : goal.returns
unfolding lenient_count
returns c =
    rw (c.count_told.ensures, c.told.ensures)
