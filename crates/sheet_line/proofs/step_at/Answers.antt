-- `sheet_line::step_at` meets its contract. Each answer has its law. Assumes nothing.
use Rattle.std.proofs.Common.{◌∙◌, sym, length-take-le}
use Rattle.std.proofs.lemmas.Result.{err_from_is_err_and}
use Rattle.refusal.specs.Verdicts.{placed_ok, placed_err}
use Rattle.sheet_line.specs.Judging.{step_open, step_good, step_bad}
use Rattle.sheet_line.proofs.step_at.Goals as goal

pub returns-then-s-n : goal.returns-then-s-n
returns-then-s-n c =
    rw c.of_file.ensures (step_open _ _ _ _ c.line_len-n.ensures.0 c.if-s-n.true)

pub slice_bounds-judge-end : goal.slice_bounds-judge-end
slice_bounds-judge-end c =
    sym (length-take-le _ _ c.line_len-n.ensures.1)

pub returns-in_err-w : goal.returns-in_err-w
returns-in_err-w c =
    let p = err_from_is_err_and c.from_residual.result c.from_residual.ensures.1 in
    let q = placed_err _ _ _ _ (sym c.in_err-w.ensures) in
    rw (p.1, p.2, q.2) (step_bad _ _ _ _ c.line_len-n.ensures.0 c.if-s-n.false _ (sym c.judge.ensures ∙ q.1))

pub returns : goal.returns
returns c =
    step_good _ _ _ _ c.line_len-n.ensures.0 c.if-s-n.false _
    (sym c.judge.ensures ∙ placed_ok _ _ _ _ (sym c.in_ok-w.ensures))
