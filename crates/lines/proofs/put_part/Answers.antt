-- `lines::put_part` meets its contract. One of the two. Assumes nothing.
use Rattle.std.proofs.Common.{arith}
use Rattle.lines.specs.Lines.{whose}
use Rattle.lines.proofs.put_part.Goals as goal

pub put_byte-requires : goal.put_byte-requires
unfolding whose
put_byte-requires c =
    omega (arith, c.requires)

pub put_number-requires : goal.put_number-requires
unfolding whose
put_number-requires c =
    c.requires

pub returns-in-File : goal.returns-in-File
unfolding whose
returns-in-File c =
    rw c.in-File.is (c.put_byte.ensures, omega arith)

pub returns-in-Trace : goal.returns-in-Trace
unfolding whose
returns-in-Trace c =
    rw c.in-Trace.is c.put_number.ensures
