-- `traces::traces` meets its contract. The invariant: the check from here answers as the check of all, p is where the
-- trace k begins, and behind trace 0 `with` tells whether that has a channel number. Assumes nothing.
use Rattle.std.proofs.Common.{◌≡◌, ◌+◌, ◌-◌, ◌≤◌, ◌∙◌, sym, refl, arith}
use Rattle.std.proofs.lemmas.Result.{err_from_is_err_and}
use Rattle.traces.specs.Traces.{with_channel, traces_from}
use Rattle.traces.specs.Walk.{pointed_from, next_stands, next_bad, next_past, chosen_first, turn_bad, turn_past}
use Rattle.traces.specs.Walk.{walk_over}
use Rattle.traces.proofs.traces.Goals as goal
use Rattle.traces.proofs.traces.Goals.{In_ok-end}

-- behind the trace k, whose checks were passed, the check answers as the check of all, and what was chosen is trace 0's
behind : (c : In_ok-end)
    → let args = c.args in
    let next = c.loop-k.k + 1 in
    (traces_from args.how args.high args.t.now args.u.now args.f.now (args.n - next) next c.in_ok-end.end
    ≡ pointed_from args.how args.high args.t.now args.u.now args.f.now args.n 0)
    × (c.in_ok-end.all ≡ with_channel args.how args.high args.t.now args.f.now)
behind c =
    let args = c.args in
    let low = c.loop-k-test.true in
    let here = (c.loop-k.invariant.1 low).0 in
    let chose = chosen_first args.how _ args.t.now args.f.now c.loop-k.with _ _ here c.loop-k.invariant.3 in
    let t = turn_past _ _ args.t.now args.u.now args.f.now _ _ _ low here _ chose _ _ (sym c.in_ok-end.ensures) in
    (t.0 ∙ c.loop-k.invariant.2, t.1)

pub returns-in_err-end : goal.returns-in_err-end
returns-in_err-end c =
    let args = c.args in
    let low = c.loop-k-test.true in
    let here = (c.loop-k.invariant.1 low).0 in
    let chose = chosen_first args.how _ args.t.now args.f.now c.loop-k.with _ _ here c.loop-k.invariant.3 in
    let p = err_from_is_err_and c.from_residual.result c.from_residual.ensures.1 in
    rw (p.1, p.2)
    (turn_bad _ _ args.t.now args.u.now args.f.now _ _ _ low here _ chose _ (sym c.in_err-end.ensures)
    ∙ c.loop-k.invariant.2)

pub returns-in_err-p : goal.returns-in_err-p
returns-in_err-p c =
    let args = c.args in
    let p = err_from_is_err_and c.from_residual-in_err-p.result c.from_residual-in_err-p.ensures.1 in
    rw (p.1, p.2)
    (next_bad _ args.f.now _ _ _ _ args.t.now args.u.now _ (sym c.in_err-p.ensures.0) ∙ (behind (goal.at.returns-in_err-p c).In_ok-end).0)

pub loop-k-preserved : goal.loop-k-preserved
loop-k-preserved c =
    let args = c.args in
    let l : c.loop-k.k + 1 ≤ args.n = omega arith in
    let e = c.in_ok-p.ensures in
    let s = next_stands _ args.f.now _ _ _ _ _ e.0 e.1 refl in (
      l,
      s,
      next_past _ args.f.now _ _ _ _ args.t.now args.u.now _ (sym e.0)
          ∙ (behind (goal.at.loop-k-preserved c).In_ok-end).0,
      λ _. (behind (goal.at.loop-k-preserved c).In_ok-end).1,
    )

pub returns : goal.returns
returns c =
    let args = c.args in
    walk_over _ _ args.t.now args.u.now args.f.now _ _ c.loop-k-test.false ∙ c.loop-k.invariant.2
