-- `quick_strings::string` meets its contract. Assumes nothing.
use mathlib.Core.Path.{ap, ◌∙◌}
use lib.IntN.{ℤ}
use mir.Syntax.{w32}
use Rattle.word.specs.Signed.{handed}
use Rattle.until.specs.Until.{by_index}
use Rattle.quick.specs.Quick.{told_by, quick_walk, quick_nth}
use borrow.Author.Rules.{rules}
use Rattle.quick_strings.proofs.string.Goals as goal

pub slice_bounds-walk-end : goal.slice_bounds-walk-end
unfolding quick_nth
slice_bounds-walk-end c =
    search rules

pub walk-requires : goal.walk-requires
unfolding quick_nth
walk-requires c =
    search rules

pub told-requires : goal.told-requires
unfolding quick_nth
told-requires c =
    search rules

pub returns : goal.returns
unfolding quick_nth
returns c =
    let args = c.args in
    c.told.ensures
    ∙ ap told_by (handed w32 (λ (z : ℤ). quick_walk (by_index args.i) args.buffer.now args.n z) args.trace c.ranges.trace.sfits
    c.walk.ensures)
