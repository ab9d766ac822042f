-- `refusal::part_number` meets its contract: a trace's number fits 16 bits, so it is kept as a signed one. Assumes
-- nothing.
use native.Mathlib.Omega.{arith}
use mir.Syntax.{w32}
use mir.Facts.{to_z_pos}
use Rattle.refusal.proofs.part_number.Goals as goal

pub returns-in-File : goal.returns-in-File
returns-in-File c =
    rw c.in-File.is

pub returns-in-Trace : goal.returns-in-Trace
returns-in-Trace c =
    rw c.in-Trace.is (to_z_pos w32 (omega arith))
