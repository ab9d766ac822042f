-- `note_line::is_start` meets its contract. Assumes nothing.
use Rattle.std.proofs.Common.{◌<◌, length, eqb-true, ne_eqb, le-leb, sym, ◌∙◌, arith}
use Rattle.std.proofs.lemmas.Bool.{eqb-false, lt-leb}
use Rattle.note_line.specs.NoteLine.{starts, starts_none, starts_other}
use Rattle.note_line.proofs.is_start.Goals as goal

pub returns-then-s-u : goal.returns-then-s-u
unfolding starts
returns-then-s-u c =
    rw (lt-leb _ _ c.if-s-u.true)

pub returns-then-is_empty : goal.returns-then-is_empty
returns-then-is_empty c =
    c.if-is_empty.true ∙ starts_none c.args.u.now c.args.s.now (eqb-true _ _ (sym c.is_empty.ensures ∙ c.if-is_empty.true))

pub returns-then-s-u-2 : goal.returns-then-s-u-2
unfolding starts
returns-then-s-u-2 c =
    c.is_same.ensures ∙ rw (le-leb _ _ c.if-s-u.false)

pub returns-else-s-u-2 : goal.returns-else-s-u-2
returns-else-s-u-2 c =
    let n = eqb-false _ _ (sym c.is_empty.ensures ∙ c.if-is_empty.false) in
    let some : 0 < length c.args.u.now = omega (arith, n) in
    ne_eqb _ _ c.if-s-u-2.false ∙ starts_other c.args.u.now c.args.s.now some (omega (arith, some, c.if-s-u.false)) c.if-s-u-2.false
