-- `strings::is_cut` meets its contract. Assumes nothing.
use mathlib.Core.Path.{sym, ◌∙◌}
use Rattle.strings.proofs.is_cut.Goals as goal

pub returns-then-open_end : goal.returns-then-open_end
returns-then-open_end c =
    rw (sym c.open_end.ensures ∙ c.if-open_end.true)

pub returns : goal.returns
returns c =
    rw (sym c.open_end.ensures ∙ c.if-open_end.false)
