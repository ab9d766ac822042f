-- `quick_strings::count` meets its contract. Assumes nothing.
use mathlib.Core.Path.{ap, ◌∙◌}
use lib.IntN.{ℤ}
use mir.Syntax.{w32}
use Rattle.word.specs.Signed.{handed}
use Rattle.until.specs.Until.{to_end}
use Rattle.quick.specs.Quick.{counted_by, quick_walk, quick_count}
use borrow.Author.Rules.{rules}
use Rattle.quick_strings.proofs.count.Goals as goal

pub slice_bounds-walk-end : goal.slice_bounds-walk-end
unfolding quick_count
slice_bounds-walk-end c =
    search rules

pub walk-requires : goal.walk-requires
unfolding quick_count
walk-requires c =
    search rules

pub counted-requires : goal.counted-requires
unfolding quick_count
counted-requires c =
    search rules

pub returns : goal.returns
unfolding quick_count
returns c =
    let args = c.args in
    c.counted.ensures
    ∙ ap counted_by (handed w32 (λ (z : ℤ). quick_walk to_end args.buffer.now args.n z) args.trace c.ranges.trace.sfits
    c.walk.ensures)
