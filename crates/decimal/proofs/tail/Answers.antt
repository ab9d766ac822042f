-- `decimal::tail` meets its contract: a law for each answer, with what was found on the way. Assumes nothing.
use Rattle.std.proofs.Common.{◌∙◌, rules}
use Rattle.decimal.specs.Number.{no_e, no_exponent, more_behind, tail_judged}
use Rattle.decimal.proofs.tail.Goals as goal

pub returns-then-x-e : goal.returns-then-x-e
returns-then-x-e c =
    c.no_number.ensures ∙ no_e _ _ _ _ c.has-e.ensures c.if-x-e.true

pub returns-then-e-n : goal.returns-then-e-n
returns-then-e-n c =
    c.no_number-then-e-n.ensures
    ∙ no_exponent _ _ _ _ c.has-e.ensures c.past-z.ensures.result_value c.past-y.ensures.result_value c.run-n.ensures.0
    c.if-x-e.false
    c.if-e-n.true

pub returns-then-more : goal.returns-then-more
returns-then-more c =
    c.no_number-then-more.ensures
    ∙ more_behind _ _ _ _ c.has-e.ensures c.past-z.ensures.result_value c.past-y.ensures.result_value c.run-n.ensures.0
    c.if-x-e.false
    c.behind-rest.ensures.result_value c.if-e-n.false (search rules)

pub returns : goal.returns
returns c =
    c.judged.ensures
    ∙ tail_judged _ _ _ _ c.has-e.ensures c.past-z.ensures.result_value c.past-y.ensures.result_value c.run-n.ensures.0
    c.if-x-e.false
    c.behind-rest.ensures.result_value c.if-e-n.false (search rules) c.has.ensures c.front.ensures.result_value
