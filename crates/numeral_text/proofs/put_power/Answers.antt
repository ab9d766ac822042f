-- `numeral_text::put_power` meets its contract. Assumes nothing.
use Rattle.std.proofs.Common.{ap, ◌∙◌, arith, length, length-set}
use Rattle.word.specs.Put.{length_put}
use Rattle.numeral_text.specs.Stored.{power_none, power_room, power_there}
use Rattle.numeral_text.proofs.put_power.Goals as goal

pub returns-then-none : goal.returns-then-none
returns-then-none c =
    let args = c.args in
    power_none args.out.now args.at args.far args.down (omega (arith, c.if-none.true))

pub bounds-out-at : goal.bounds-out-at
bounds-out-at c =
    let args = c.args in
    (power_room args.out.now args.at args.far args.down (omega (arith, c.if-none.false)) c.requires).0

pub put_sign-behind-requires : goal.put_sign-behind-requires
put_sign-behind-requires c =
    (power_room c.args.out.now _ _ _ c.if-none.false c.requires).1

pub put_digits-requires : goal.put_digits-requires
put_digits-requires c =
    (power_room c.args.out.now _ _ _ c.if-none.false c.requires).2 _ _ c.put_sign-behind.ensures

pub shape_of-out : goal.shape_of-out
shape_of-out c =
    ap length c.put_digits.ensures.1 ∙ length_put _ _ _ ∙ ap length c.put_sign-behind.ensures.1 ∙ length_put _ _ _
    ∙ length-set c.args.out.now c.args.at 69

pub returns : goal.returns
returns c =
    power_there c.args.out.now c.args.at c.args.far c.args.down c.if-none.false _ _ _ _
    c.put_sign-behind.ensures c.put_digits.ensures
