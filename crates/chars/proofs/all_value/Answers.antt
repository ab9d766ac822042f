-- `chars::all_value` meets its contract. Assumes nothing.
use Rattle.std.proofs.Common.{sym, ◌∙◌}
use Rattle.chars.specs.Chars.{printed, value_char, printed_value}
use Rattle.chars.specs.Runs.{all_weaker}
use Rattle.chars.proofs.all_value.Goals as goal

pub returns-then-all : goal.returns-then-all
returns-then-all c =
    c.if-all.true ∙ sym (all_weaker printed value_char printed_value _ (sym c.all.ensures ∙ c.if-all.true))
