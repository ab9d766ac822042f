-- `numeral::write` meets its contract: a law for each answer. The power, loaded from the struct, is the number that was
-- stored. Assumes nothing.
use Rattle.std.proofs.Common.{◌≡◌, rules, ⊎_elim, w32, pos, nat_abs, to_z, of_z}
use Rattle.std.specs.Int.Signed.{lt_z}
use Rattle.refusal.specs.declared.Rule.TheVariants.{Digits}
use Rattle.refusal.specs.Writing.{refuse}
use Rattle.numeral.specs.Numeral.{raised}
use Rattle.numeral.specs.Answers.{Answers, zero_minus, many_decimals, large_coefficient, far_power, the_answer}
use Rattle.numeral.proofs.write.Goals as goal
use Rattle.numeral.proofs.write.Goals.{After-behind_e-to}

far : (c : After-behind_e-to)
    → (c.behind_e-to.result.down ≡ lt_z (raised c.args.n.power c.args.n.decimals) (pos 0))
    × (c.behind_e-to.result.far ≡ nat_abs (raised c.args.n.power c.args.n.decimals))
far c = let p : to_z w32 (of_z w32 c.args.n.power) ≡ c.args.n.power = search rules in rw p at c.behind_e-to.ensures

pub returns-then-n : goal.returns-then-n
returns-then-n c =
    rw c.of_file.ensures (let e = zero_minus _ _ c.if-n.true in record { answer = e.0; left = e.1 })

pub returns-then-n-gt-DECIMALS : goal.returns-then-n-gt-DECIMALS
returns-then-n-gt-DECIMALS c =
    let args = c.args in
    let e : Answers args.out.now args.n (refuse Digits 0) args.out.now =
    ⊎_elim (λ h. many_decimals args.out.now args.n c.if-n.false h) (λ h. large_coefficient args.out.now args.n c.if-n.false h.0 h.1)
    c.then-n-gt-DECIMALS.either in
    rw c.of_file-then-n-gt-DECIMALS.ensures (record { answer = e.0; left = e.1 })

pub returns-then-to-gt-FAR : goal.returns-then-to-gt-FAR
returns-then-to-gt-FAR c =
    let args = c.args in
    let f = far (goal.at.returns-then-to-gt-FAR c).After-behind_e-to in
    rw c.of_file-then-to-gt-FAR.ensures (
    let e = far_power args.out.now args.n c.if-n.false c.if-n-gt-DECIMALS.false c.if-n-gt-COEFFICIENT.false _ f.1 c.if-to-gt-FAR.true in
    record { answer = e.0; left = e.1 }
    )

pub returns : goal.returns
returns c =
    let args = c.args in
    let f = far (goal.at.returns c).After-behind_e-to in
    let e = the_answer args.out.now args.n c.if-n.false c.if-n-gt-DECIMALS.false c.if-n-gt-COEFFICIENT.false _ f.1 c.if-to-gt-FAR.false _ f.0 _ _
    c.put_fitting.ensures.answer c.put_fitting.ensures.left in
    record { answer = e.0; left = e.1 }
