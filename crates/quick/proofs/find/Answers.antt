-- `quick::find` meets its contract. Assumes nothing.
use mathlib.Core.Path.{ap, ◌∙◌}
use lib.IntN.{ℤ}
use mir.Syntax.{w32}
use Rattle.word.specs.Signed.{handed}
use Rattle.until.specs.Until.{by_key}
use Rattle.quick.specs.Quick.{told_by, quick_walk, quick_find}
use borrow.Author.Rules.{rules}
use Rattle.quick.proofs.find.Goals as goal

pub walk-requires : goal.walk-requires
unfolding quick_find
walk-requires c =
    search rules

pub told-requires : goal.told-requires
unfolding quick_find
told-requires c =
    search rules

pub returns : goal.returns
unfolding quick_find
returns c =
    let args = c.args in
    c.told.ensures
    ∙ ap told_by (handed w32 (λ (z : ℤ). quick_walk (by_key args.key.now) args.buffer.now args.n z) args.trace c.ranges.trace.sfits
    c.walk.ensures)
