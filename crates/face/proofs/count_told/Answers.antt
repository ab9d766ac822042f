-- `face::count_told` meets its contract. Each arm is one of the answers. Assumes nothing.
use mir.Syntax.{w32}
use mir.Facts.{to_z-of_z}
use Rattle.face.specs.Face.{as_verdict, as_count}
use Rattle.face.proofs.count_told.Goals as goal

pub returns-in-Ok : goal.returns-in-Ok
unfolding as_verdict as_count
returns-in-Ok c =
    rw c.in-Ok.is

pub returns-in-Err : goal.returns-in-Err
unfolding as_verdict as_count
returns-in-Err c =
    rw (
      c.in-Err.is,
      to_z-of_z {w = w32} (record { sfits = c.struct_told-1.given.1.0.1 }),
      c.told-t.ensures,
    )
