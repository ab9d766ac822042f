-- `text::following` meets its contract. Assumes nothing.
use mathlib.Core.Path.{sym, ◌∙◌}
use Rattle.key_order.specs.Order.{rises_later}
use Rattle.text.specs.Manner.{strict_follows}
use Rattle.text.proofs.following.Goals as goal

pub returns-then-is_before : goal.returns-then-is_before
returns-then-is_before c =
    sym (strict_follows c.args.how _ _ (rises_later _ _ (sym c.is_before.ensures ∙ c.if-is_before.true)))

pub returns-in-Strict : goal.returns-in-Strict
returns-in-Strict c =
    c.rising.ensures ∙ rw c.in-Strict.is
