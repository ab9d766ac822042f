-- `note::all_lines` meets its contract: the loops for one byte and for two answer as the walk does. Assumes nothing.
use mathlib.Core.Path.{◌∙◌}
use lib.ListN.{length}
use lib.Dec.{leb, eqb}
use borrow.Author.Tests.{eqb-true}
use Rattle.word.specs.Tests.{both}
use Rattle.note.specs.Note.{lines_one}
use Rattle.note.proofs.Note.{lines_two}
use Rattle.note.proofs.all_lines.Goals as goal

pub returns-then-u-eq1 : goal.returns-then-u-eq1
returns-then-u-eq1 c =
    let a = c.args in
    c.all_value_or.ensures ∙ lines_one a.u.now a.s.now c.if-u-eq1.true

pub returns-then-u-s : goal.returns-then-u-s
returns-then-u-s c =
    let a = c.args in
    let u = a.u.now in
    let two = both (eqb (length u) 2) (leb 32 (length a.s.now)) c.if-u-s.true in
    c.all_value_pairs.ensures ∙ lines_two u a.s.now (eqb-true (length u) 2 two.0) (rw c.is.ensures at c.if-is-u.false)
