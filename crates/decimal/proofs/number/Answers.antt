-- `decimal::number` meets its contract: a law for each answer, with what was found on the way. Assumes nothing.
use Rattle.std.proofs.Common.{◌∙◌}
use Rattle.decimal.specs.Number.{no_digit, no_decimal, to_tail}
use Rattle.decimal.proofs.number.Goals as goal

pub returns-then-n-eq0 : goal.returns-then-n-eq0
returns-then-n-eq0 c =
    c.no_number.ensures ∙ no_digit _ c.past-s.ensures.result_value c.run-n.ensures.0 c.if-n-eq0.true

pub returns-then-point-m : goal.returns-then-point-m
returns-then-point-m c =
    c.no_number-then-point-m.ensures
    ∙ no_decimal _ c.past-s.ensures.result_value c.run-n.ensures.0 c.if-n-eq0.false c.behind-u.ensures.result_value c.has-point.ensures
    c.past-v.ensures.result_value c.run-m.ensures.0 c.if-point-m.true

pub returns : goal.returns
returns c =
    c.tail.ensures
    ∙ to_tail _ c.past-s.ensures.result_value c.run-n.ensures.0 c.if-n-eq0.false c.behind-u.ensures.result_value c.has-point.ensures
    c.past-v.ensures.result_value c.run-m.ensures.0 c.if-point-m.false c.has.ensures c.front.ensures.result_value
    c.front-2.ensures.result_value c.behind.ensures.result_value
