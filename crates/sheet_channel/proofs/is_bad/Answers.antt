-- `sheet_channel::is_bad` meets its contract. Each answer has its law. Assumes nothing.
use Rattle.std.proofs.Common.{◌∙◌, sym, eqb-true}
use Rattle.std.proofs.lemmas.Bool.{eqb-false}
use Rattle.sheet_channel.specs.Told.{sheet_without, sheet_with}
use Rattle.sheet_channel.proofs.is_bad.Goals as goal

pub returns-then-is_empty : goal.returns-then-is_empty
returns-then-is_empty c =
    sheet_without _ _ _ _ (c.find-l.ensures.has, c.find-l.ensures.value)
    (eqb-true _ _ (sym c.is_empty.ensures ∙ c.if-is_empty.true))

pub returns : goal.returns
returns c =
    c.is_bad.ensures
    ∙ rw c.value_of.ensures (sheet_with _ _ _ _ (c.find-l.ensures.has, c.find-l.ensures.value)
    (eqb-false _ _ (sym c.is_empty.ensures ∙ c.if-is_empty.false)))
