-- `location::three` meets its contract: by the answers of the three values, in order. Assumes nothing.
use Rattle.std.proofs.Common.{sym, ◌∙◌}
use Rattle.location.specs.Location.{coordinate_of, three_of, goes_on, ends}
use Rattle.location.proofs.three.Goals as goal

pub returns-in_default : goal.returns-in_default
unfolding three_of
returns-in_default c =
    c.passed.ensures ∙ rw (c.in_default.is, ends c.args.a _ _ (sym c.coordinate_at-first.ensures ∙ c.in_default.is))

pub returns-in_default-second : goal.returns-in_default-second
unfolding three_of
returns-in_default-second c =
    c.passed-in_default-second.ensures
    ∙ rw (
      c.in_default-second.is,
      goes_on c.args.a _ _ (sym c.coordinate_at-first.ensures ∙ c.in-Ok.is),
      ends c.args.b _ (coordinate_of c.args.y.now) (sym c.coordinate_at-second.ensures ∙ c.in_default-second.is),
    )

pub returns-in_default-third : goal.returns-in_default-third
unfolding three_of
returns-in_default-third c =
    c.passed-in_default-third.ensures
    ∙ rw (
      c.in_default-third.is,
      goes_on c.args.a _ _ (sym c.coordinate_at-first.ensures ∙ c.in-Ok.is),
      goes_on c.args.b _ _ (sym c.coordinate_at-second.ensures ∙ c.in-Ok-second.is),
      ends c.args.c _ _ (sym c.coordinate_at-third.ensures ∙ c.in_default-third.is),
    )

pub returns : goal.returns
unfolding three_of
returns c =
    rw (
      goes_on c.args.a _ _ (sym c.coordinate_at-first.ensures ∙ c.in-Ok.is),
      goes_on c.args.b _ _ (sym c.coordinate_at-second.ensures ∙ c.in-Ok-second.is),
      goes_on c.args.c _ _ (sym c.coordinate_at-third.ensures ∙ c.in-Ok-third.is),
    )
