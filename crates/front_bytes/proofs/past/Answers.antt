-- `front_bytes::past` meets its contract. Assumes nothing.
use mathlib.Core.Path.{refl, sym, ◌∙◌}
use native.Mathlib.Omega.{arith}
use Rattle.word.specs.Part.{rest_from}
use Rattle.front_bytes.specs.OneByte.{past_has, past_not}
use Rattle.front_bytes.proofs.past.Goals as goal

pub returns-then-has : goal.returns-then-has
returns-then-has c =
    record { result_value = c.behind.ensures.result_value ∙ sym (past_has _ _ (sym c.has.ensures ∙ c.if-has.true)); own = c.behind.ensures.own }

pub returns-else-has : goal.returns-else-has
returns-else-has c =
    record { result_value = sym (past_not _ _ (sym c.has.ensures ∙ c.if-has.false)); own = rest_from 0 (omega arith) refl refl (omega arith) }
