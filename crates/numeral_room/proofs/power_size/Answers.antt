-- `numeral_room::power_size` meets its contract. Assumes nothing.
use Rattle.numeral_room.specs.Sizes.{power_none_size, power_size}
use Rattle.numeral_room.proofs.power_size.Goals as goal

pub returns-then-to-lt1 : goal.returns-then-to-lt1
returns-then-to-lt1 c =
    power_none_size _ _ c.if-to-lt1.true

pub returns : goal.returns
returns c =
    let to = c.args.to in
    power_size to.down to.far _ _ c.if-to-lt1.false c.sign_size.ensures c.digit_count.ensures
