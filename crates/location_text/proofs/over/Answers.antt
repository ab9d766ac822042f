-- `location_text::over` meets its contract: a run is no longer than what is left. Assumes nothing.
use Rattle.std.proofs.Common.{◌≡◌, ap, ◌∙◌, arith, drop, length-drop}
use Rattle.chars.specs.Runs.{run, run_le}
use Rattle.chars.specs.Chars.{is_of}
use Rattle.location_text.proofs.over.Goals as goal
use Rattle.location_text.proofs.over.Goals.{After-run}

found : (c : After-run) → c.run.result ≡ run (is_of c.args.kind)
    (drop c.args.i c.args.text.now)
found c = c.run.ensures.0 ∙ ap (run (is_of c.args.kind)) c.behind.ensures.result_value

pub overflow_add-result : goal.overflow_add-result
overflow_add-result c =
    let s = c.args in
    let r = run_le (is_of s.kind) (drop s.i s.text.now) in
    let l = length-drop s.i s.text.now in
    let f = found (goal.at.overflow_add-result c).After-run in
    omega arith

pub returns : goal.returns
returns c =
    let s = c.args in
    let r = run_le (is_of s.kind) (drop s.i s.text.now) in
    let l = length-drop s.i s.text.now in
    let f = found (goal.at.returns c).After-run in
    (rw f, omega arith, omega arith)
