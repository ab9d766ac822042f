-- `face_values::double_told` meets its contract. Each arm is one of the answers. Assumes nothing.
use mir.Syntax.{w32}
use mir.Facts.{to_z-of_z}
use Rattle.face.specs.Face.{as_verdict}
use Rattle.face_values.specs.FaceValues.{as_double}
use lib.Ieee.{of_bits}
use Rattle.face_values.proofs.double_told.Goals as goal

pub returns-in-Ok : goal.returns-in-Ok
unfolding as_verdict as_double of_bits
returns-in-Ok c =
    rw c.in-Ok.is

pub returns-in-Err : goal.returns-in-Err
unfolding as_verdict as_double of_bits
returns-in-Err c =
    rw (
      c.in-Err.is,
      to_z-of_z {w = w32} (record { sfits = c.struct_told-1.given.1.0.1 }),
      c.told-t.ensures,
    )
