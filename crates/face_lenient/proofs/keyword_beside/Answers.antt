-- `face_lenient::keyword_beside` meets its contract. Assumes nothing.
use Rattle.face_lenient.specs.FaceLenient.{lenient_keyword}
use Rattle.face_lenient.proofs.keyword_beside.Goals as goal

pub returns : goal.returns
unfolding lenient_keyword
returns c =
    rw (c.keyword_told.ensures, c.told.ensures)
