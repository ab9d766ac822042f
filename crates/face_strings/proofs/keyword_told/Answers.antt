-- `face_strings::keyword_told` meets its contract. Each arm is one of the answers. Assumes nothing.
use mir.Syntax.{w32}
use mir.Facts.{to_z-of_z}
use Rattle.face.specs.Face.{as_verdict}
use Rattle.face_values.specs.FaceValues.{as_keyword}
use Rattle.face_strings.proofs.keyword_told.Goals as goal

pub returns-in-Ok-true : goal.returns-in-Ok-true
unfolding as_verdict as_keyword
returns-in-Ok-true c =
    rw (c.in-Ok-true.is, c.in-Ok-true.field-0-test)

pub returns-in-Ok-false : goal.returns-in-Ok-false
unfolding as_verdict as_keyword
returns-in-Ok-false c =
    rw (c.in-Ok-false.is, c.in-Ok-false.field-0-test)

pub returns-in-Err : goal.returns-in-Err
unfolding as_verdict as_keyword
returns-in-Err c =
    rw (
      c.in-Err.is,
      to_z-of_z {w = w32} (record { sfits = c.struct_told-1.given.1.0.1 }),
      c.told-t.ensures,
    )
