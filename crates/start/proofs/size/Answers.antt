-- `start::size` meets its contract. Row 31, the rows of the sheet, and the sum. Assumes nothing.
use Rattle.std.proofs.Common.{◌∙◌, sym, arith}
use Rattle.std.proofs.lemmas.Result.{err_from_is_err_and}
use Rattle.start.specs.StartWrites.{needs_bad, needs_sheet, needs_sized, small_size}
use Rattle.start.proofs.size.Goals as goal

pub returns-then-is_bad_start : goal.returns-then-is_bad_start
returns-then-is_bad_start c =
    rw c.of_file.ensures (needs_bad _ _ _ (sym c.is_bad_start.ensures ∙ c.if-is_bad_start.true))

pub returns-in_err-size : goal.returns-in_err-size
returns-in_err-size c =
    let p = err_from_is_err_and c.from_residual.result c.from_residual.ensures.1 in
    rw (p.1, p.2)
    (needs_sheet _ _ _ (sym c.is_bad_start.ensures ∙ c.if-is_bad_start.false) _ (sym c.in_err-size.ensures))

pub overflow_add-result-2 : goal.overflow_add-result-2
overflow_add-result-2 c =
    let args = c.args in
    omega (
      arith,
      small_size args.order args.slots args.sheet.now (sym c.is_bad_start.ensures ∙ c.if-is_bad_start.false)
          (sym c.in_ok-size.ensures),
    )

pub returns : goal.returns
returns c =
    needs_sized _ _ _ (sym c.is_bad_start.ensures ∙ c.if-is_bad_start.false) _ (sym c.in_ok-size.ensures)
