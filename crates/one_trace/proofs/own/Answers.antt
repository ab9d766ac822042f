-- `one_trace::own` meets its contract. The rows of the block are asked where its pointer was let through. Assumes
-- nothing.
use Rattle.std.proofs.Common.{sym, ◌∙◌, arith}
use Rattle.block.specs.BlockLaws.{pointed}
use Rattle.one_trace.proofs.AloneLaws.{own_bad, own_rows_lem}
use Rattle.std.proofs.lemmas.Result.{err_from_is_err_and}
use Rattle.one_trace.proofs.own.Goals as goal

pub slice_bounds-block_rows-end : goal.slice_bounds-block_rows-end
slice_bounds-block_rows-end c =
    omega (arith, (pointed _ _ _ _ (sym c.in_ok-pointer_row.ensures)).fits)

pub returns-in_err-pointer_row : goal.returns-in_err-pointer_row
returns-in_err-pointer_row c =
    let p = err_from_is_err_and c.from_residual.result c.from_residual.ensures.1 in
    rw (p.1, p.2)
    (own_bad _ c.args.f.now c.args.m c.args.k _ c.pointer-p.ensures.0 (sym c.in_err-pointer_row.ensures))

pub returns : goal.returns
returns c =
    own_rows_lem _ c.args.f.now c.args.m c.args.k _ c.pointer-p.ensures.0
    (sym c.in_ok-pointer_row.ensures) (c.told.ensures ∙ c.block_rows.ensures)
