-- `double::double_from` meets its contract: a row for each answer. The power, loaded from the struct, is the number
-- that was stored. Assumes nothing.
use Rattle.std.proofs.Common.{⊎_elim, ◌≡◌, ap, ◌∙◌, rules, ◌≤◌, Err, lt-ltb, le-ltb, w32, nat_abs, to_z, of_z}
use Rattle.double.specs.Double.{double_from}
use Rattle.double.proofs.double_from.Goals as goal
use Rattle.double.proofs.double_from.Goals.{After-unsigned_abs-k}

loaded : (c : After-unsigned_abs-k) → to_z w32 (of_z w32 c.args.n.power) ≡ c.args.n.power
loaded c = search rules

far : (c : After-unsigned_abs-k) → c.unsigned_abs-k.result ≡ nat_abs c.args.n.power
far c = rw (loaded c) at c.unsigned_abs-k.ensures.value

pub returns-then-c-gt9007199254740991 : goal.returns-then-c-gt9007199254740991
unfolding double_from
returns-then-c-gt9007199254740991 c =
    let k = far (goal.at.returns-then-c-gt9007199254740991 c).After-unsigned_abs-k in
    ap Err c.of_file.ensures
    ∙ ⊎_elim (λ h. rw (lt-ltb 9007199254740991 c.args.n.coefficient h))
    (λ h. rw (le-ltb 9007199254740991 c.args.n.coefficient h.0, ← k, lt-ltb 15 c.unsigned_abs-k.result h.1))
    c.then-c-gt9007199254740991.either

pub returns : goal.returns
unfolding double_from
returns c =
    let p = loaded (goal.at.returns c).After-unsigned_abs-k in
    let k = far (goal.at.returns c).After-unsigned_abs-k in
    let n : nat_abs c.args.n.power ≤ 15 = rw k at c.if-k-gt15.false in
    rw (c.with_sign.ensures, c.scaled-x.ensures, p, k, le-ltb _ _ c.if-c-gt9007199254740991.false, le-ltb _ _ n)
