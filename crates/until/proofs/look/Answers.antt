-- `until::look` meets its contract. Each answer is what its tests say. Assumes nothing.
use mathlib.Core.Path.{sym, ◌∙◌}
use borrow.Author.Tests.{eq-eqb, ne_eqb}
use Rattle.until.proofs.look.Goals as goal

pub returns-then-is_same : goal.returns-then-is_same
returns-then-is_same c =
    sym (rw (c.in-Keyword.is, sym c.is_same.ensures ∙ c.if-is_same.true))

pub returns-then-is_before : goal.returns-then-is_before
returns-then-is_before c =
    sym (rw (
      c.in-Keyword.is,
      sym c.is_same.ensures ∙ c.if-is_same.false,
      sym c.is_before.ensures ∙ c.if-is_before.true,
    ))

pub returns-then-j-i : goal.returns-then-j-i
returns-then-j-i c =
    sym (rw (c.in-Index.is, eq-eqb _ _ c.if-j-i.true))

pub returns-else-is_before : goal.returns-else-is_before
returns-else-is_before c =
    sym (rw (
      c.in-Keyword.is,
      sym c.is_same.ensures ∙ c.if-is_same.false,
      sym c.is_before.ensures ∙ c.if-is_before.false,
    ))

pub returns-else-j-i : goal.returns-else-j-i
returns-else-j-i c =
    sym (rw (c.in-Index.is, ne_eqb _ _ c.if-j-i.false))
