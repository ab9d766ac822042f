-- `call_lenient_strings::keyword` meets its contract: the answers of the two functions below it, as they cross. Assumes nothing.
use Rattle.std.proofs.Common.{ap₂, ◌∙◌}
use mir.Syntax.{w32}
use mir.Facts.{to_z-of_z}
use Rattle.face_lenient.specs.FaceLenient.{lenient_keyword}
use Rattle.call_lenient_strings.proofs.keyword.Goals as goal

pub returns : goal.returns
returns c =
    let own = rw (to_z-of_z {w = w32} c.ranges.part) at c.keyword.ensures in
    c.keyword_beside.ensures ∙ ap₂ lenient_keyword own c.strictly-strict.ensures
