-- `one_string::step` meets its contract: each answer is that of the frame or of what is judged in it. Assumes nothing.
use Rattle.std.proofs.Common.{◌≡◌, ◌∙◌, ap, sym, arith, Ok, Some, None}
use Rattle.std.proofs.lemmas.Result.{err_from_is_err_and}
use Rattle.strings.specs.Strings.{body, frame_of}
use Rattle.strings.proofs.Steps.{step_broken, step_ended, step_frame, step_wrong, step_next}
use Rattle.strings.specs.Walks.{InFrame}
use Rattle.refusal.specs.Verdicts.{placed}
use Rattle.one_string.proofs.step.Goals as goal
use Rattle.one_string.proofs.step.Goals.{In-Some}

-- the frame is a string's
text : (c : In-Some) → Ok (Some c.in-Some.o) ≡ placed c.framed.result c.args.whose c.args.at
text c = ap Ok (sym c.in-Some.is) ∙ c.in_ok-o.ensures

lies : (c : In-Some) → InFrame c.args.high c.args.t.now c.args.l.now c.in-Some.o
lies c = let s = c.args in step_frame _ _ _ s.u.now s.whose s.prev.now _ s.at c.framed.ensures _ (text c)

pub overflow_sub-end : goal.overflow_sub-end
overflow_sub-end c = let i = lies (goal.at.overflow_sub-end c).In-Some in omega (arith, i.low, i.fit)

pub slice_bounds-judge-count : goal.slice_bounds-judge-count
slice_bounds-judge-count c = let i = lies (goal.at.slice_bounds-judge-count c).In-Some in omega (arith, i.low, i.fit)

pub slice_bounds-judge-start : goal.slice_bounds-judge-start
slice_bounds-judge-start c = let i = lies (goal.at.slice_bounds-judge-start c).In-Some in omega (arith, i.low, i.fit)

pub slice_bounds-judge-end : goal.slice_bounds-judge-end
slice_bounds-judge-end c = let i = lies (goal.at.slice_bounds-judge-end c).In-Some in omega (arith, i.low, i.fit)

pub returns-in_err-o : goal.returns-in_err-o
returns-in_err-o c =
    let p = err_from_is_err_and c.from_residual.result c.from_residual.ensures.1 in
    rw (p.1, p.2) (step_broken _ _ _ _ _ _ _ _ c.framed.ensures _ c.in_err-o.ensures)

pub returns-in_default : goal.returns-in_default
returns-in_default c = step_ended _ _ _ _ c.args.whose _ _ _ c.framed.ensures (ap Ok (sym c.in_default.is) ∙ c.in_ok-o.ensures)

pub returns-in_err-n : goal.returns-in_err-n
unfolding body
returns-in_err-n c =
    let p = err_from_is_err_and c.from_residual-in_err-n.result c.from_residual-in_err-n.ensures.1 in
    rw (p.1, p.2) (step_wrong _ _ _ _ _ _ _ _ c.framed.ensures _ (text (goal.at.returns-in_err-n c).In-Some) c.judge.ensures _ c.in_err-n.ensures)

pub returns : goal.returns
unfolding body
returns c = step_next _ _ _ _ _ _ _ _ c.framed.ensures _ (text (goal.at.returns c).In-Some) c.judge.ensures _ c.in_ok-n.ensures
