-- `location_text::location` meets its contract: a law for each count of values, with the places that were found. Assumes
-- nothing.
use Rattle.std.proofs.Common.{◌∙◌, arith}
use Rattle.location.specs.Location.{no_value, one_value, two_values, three_values, more_values}
use Rattle.location_text.proofs.location.Goals as goal

pub returns-then-n-a : goal.returns-then-n-a
returns-then-n-a c =
    c.value_count.ensures ∙ no_value _ c.over-a.ensures.0 c.if-n-a.true

pub returns-then-n-c : goal.returns-then-n-c
returns-then-n-c c =
    c.one.ensures
    ∙ one_value _ c.over-a.ensures.0 c.over-b.ensures.0 c.over-c.ensures.0 c.if-n-a.false c.if-n-c.true

pub returns-then-n-e : goal.returns-then-n-e
returns-then-n-e c =
    c.value_count-then-n-e.ensures
    ∙ two_values _ c.over-a.ensures.0 c.over-b.ensures.0 c.over-c.ensures.0 c.if-n-a.false
    c.over-d.ensures.0 c.over-e.ensures.0 c.if-n-c.false (omega (arith, c.if-n-e.true))

pub returns-then-g-n : goal.returns-then-g-n
returns-then-g-n c =
    c.value_count-then-g-n.ensures
    ∙ more_values _ c.over-a.ensures.0 c.over-b.ensures.0 c.over-c.ensures.0 c.if-n-a.false
    c.over-d.ensures.0 c.over-e.ensures.0 c.if-n-c.false c.over-f.ensures.0 c.over-g.ensures.0
    c.if-n-e.false c.if-g-n.true

pub returns : goal.returns
returns c =
    c.three.ensures
    ∙ three_values _ c.over-a.ensures.0 c.over-b.ensures.0 c.over-c.ensures.0 c.if-n-a.false
    c.over-d.ensures.0 c.over-e.ensures.0 c.if-n-c.false c.over-f.ensures.0 c.over-g.ensures.0
    c.if-n-e.false c.if-g-n.false
