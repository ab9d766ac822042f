-- `fit::outside_of` meets its contract. Where none is found, the row is all good. Assumes nothing.
use Rattle.std.proofs.Common.{sym, ap₂, ◌∙◌, ℤ, w32, to_z, of_z}
use Rattle.word.specs.Signed.{kept}
use Rattle.fit.specs.Unfit.{first_from, outside}
use Rattle.fit.proofs.Found.{first_position, none_found}
use Rattle.fit.proofs.outside_of.Goals as goal

pub returns-then-any_outside : goal.returns-then-any_outside
unfolding outside
returns-then-any_outside c =
    let args = c.args in
    c.first_outside.ensures
    ∙ first_position (outside (to_z w32 (of_z w32 args.low)) (to_z w32 (of_z w32 args.high))) args.row.now
    ∙ ap₂ (λ (l h : ℤ). first_from (outside l h) 0 args.row.now) (kept w32 args.low c.ranges.low.sfits)
    (kept w32 args.high c.ranges.high.sfits)

pub returns : goal.returns
unfolding outside
returns c =
    let args = c.args in
    none_found (outside (to_z w32 (of_z w32 args.low)) (to_z w32 (of_z w32 args.high))) args.row.now
    (sym c.any_outside.ensures ∙ c.if-any_outside.false)
    ∙ ap₂ (λ (l h : ℤ). first_from (outside l h) 0 args.row.now) (kept w32 args.low c.ranges.low.sfits)
    (kept w32 args.high c.ranges.high.sfits)
