-- `face_values::number_told` meets its contract. Each arm is one of the answers. Assumes nothing.
use mir.Syntax.{w32}
use mir.Facts.{to_z-of_z}
use Rattle.face.specs.Face.{as_verdict}
use Rattle.face_values.specs.FaceValues.{as_number}
use Rattle.face_values.proofs.number_told.Goals as goal

pub returns-in-Ok : goal.returns-in-Ok
unfolding as_verdict as_number
returns-in-Ok c =
    rw (c.in-Ok.is, to_z-of_z {w = w32} (record { sfits = c.struct_told-1.given.1.1.0.1 }), ← c.one_if.ensures)

pub returns-in-Err : goal.returns-in-Err
unfolding as_verdict as_number
returns-in-Err c =
    rw (
      c.in-Err.is,
      to_z-of_z {w = w32} (record { sfits = c.struct_told-in-Err-1.given.1.0.1 }),
      c.told-t.ensures,
    )
