-- `face::told` meets its contract. Each arm is one of the answers. Assumes nothing.
use mir.Syntax.{w32}
use mir.Facts.{to_z-of_z}
use Rattle.face.specs.Face.{as_verdict}
use Rattle.face.proofs.told.Goals as goal

pub returns-in-Ok : goal.returns-in-Ok
unfolding as_verdict
returns-in-Ok c =
    rw c.in-Ok.is

pub returns-in-Err : goal.returns-in-Err
unfolding as_verdict
returns-in-Err c =
    rw (c.in-Err.is, ← c.number.ensures, ← c.part_number.ensures, to_z-of_z {w = w32} (record { sfits = c.part_number.type_inv }))
