-- `call_lenient_rows::strings` meets its contract: the answers of the two functions below it, as they cross. Assumes
-- nothing.
use Rattle.std.proofs.Common.{ap₂, ◌∙◌}
use mir.Syntax.{w32}
use mir.Facts.{to_z-of_z}
use Rattle.face_lenient.specs.FaceLenient.{lenient_verdict}
use Rattle.call_lenient_rows.proofs.strings.Goals as goal

pub returns : goal.returns
returns c =
    let z = to_z-of_z {w = w32} c.ranges.part in record {
      answer = c.verdict_beside.ensures
          ∙ ap₂ lenient_verdict (rw z at c.strings.ensures.answer) c.strictly-strict.ensures;
      row = rw z at c.strings.ensures.row;
    }
