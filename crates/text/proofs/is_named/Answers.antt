-- `text::is_named` meets its contract. Assumes nothing.
use mathlib.Core.Path.{◌∙◌}
use Rattle.text.specs.Manner.{other_length}
use Rattle.text.proofs.is_named.Goals as goal

pub returns-then-k-key : goal.returns-then-k-key
returns-then-k-key c =
    let a = c.args in other_length a.how a.k.now a.key.now c.if-k-key.true

pub returns-in-Strict : goal.returns-in-Strict
returns-in-Strict c =
    c.is_same.ensures ∙ rw c.in-Strict.is

pub returns-in-Lenient : goal.returns-in-Lenient
returns-in-Lenient c =
    c.is_same_raised.ensures ∙ rw c.in-Lenient.is
