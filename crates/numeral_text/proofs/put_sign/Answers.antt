-- `numeral_text::put_sign` meets its contract. Assumes nothing.
use Rattle.numeral_text.specs.Stored.{sign_room, sign_there, sign_none}
use Rattle.numeral_text.proofs.put_sign.Goals as goal

pub bounds-out-at : goal.bounds-out-at
bounds-out-at c =
    sign_room c.args.out.now c.args.at c.args.minus c.if-minus.true c.requires

pub returns-then-minus : goal.returns-then-minus
returns-then-minus c =
    sign_there c.args.out.now c.args.at c.args.minus c.if-minus.true

pub returns : goal.returns
returns c =
    sign_none c.args.out.now c.args.at c.args.minus c.if-minus.false
