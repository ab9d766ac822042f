-- `decimal_power::power` meets its contract: a law for each of the three cases. Assumes nothing.
use mathlib.Core.Path.{◌∙◌}
use mir.Syntax.{w32}
use Rattle.word.specs.Signed.{kept}
use Rattle.decimal_power.specs.Power.{power_down, power_less, power_more}
use Rattle.decimal_power.proofs.power.Goals as goal

pub returns-then-down : goal.returns-then-down
returns-then-down c =
    kept w32 c.signed.result c.signed.type_inv ∙ c.signed.ensures ∙ rw c.if-down.true (power_down _ _)

pub returns-then-n-e : goal.returns-then-n-e
returns-then-n-e c =
    kept w32 c.signed-then-n-e.result c.signed-then-n-e.type_inv ∙ c.signed-then-n-e.ensures
    ∙ rw c.if-down.false (power_less _ _ c.if-n-e.true)

pub returns-else-n-e : goal.returns-else-n-e
returns-else-n-e c =
    kept w32 c.signed-else-n-e.result c.signed-else-n-e.type_inv ∙ c.signed-else-n-e.ensures
    ∙ rw c.if-down.false (power_more _ _ c.if-n-e.false)
