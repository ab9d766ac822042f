-- `lines::put_whose` meets its contract. One of the two. Assumes nothing.
use Rattle.lines.specs.Lines.{whose}
use Rattle.lines.proofs.put_whose.Goals as goal

pub put_byte-requires : goal.put_byte-requires
unfolding whose
put_byte-requires c =
    rw c.in-File.is at c.requires

pub put_digits-requires : goal.put_digits-requires
unfolding whose
put_digits-requires c =
    rw c.in-Trace.is at c.requires

pub returns-in-File : goal.returns-in-File
unfolding whose
returns-in-File c =
    rw c.in-File.is c.put_byte.ensures

pub returns-in-Trace : goal.returns-in-Trace
unfolding whose
returns-in-Trace c =
    rw c.in-Trace.is c.put_digits.ensures
