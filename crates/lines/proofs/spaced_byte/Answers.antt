-- `lines::spaced_byte` meets its contract. A tab is 9. Assumes nothing.
use borrow.Author.Tests.{eq-eqb, ne_eqb}
use Rattle.lines.proofs.spaced_byte.Goals as goal

pub returns-then-b-eq9 : goal.returns-then-b-eq9
returns-then-b-eq9 c =
    rw (eq-eqb _ _ c.if-b-eq9.true)

pub returns : goal.returns
returns c =
    rw (ne_eqb _ _ c.if-b-eq9.false)
