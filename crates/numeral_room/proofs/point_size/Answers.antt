-- `numeral_room::point_size` meets its contract. Assumes nothing.
use Rattle.numeral_room.specs.Sizes.{point_none_size, point_size}
use Rattle.numeral_room.proofs.point_size.Goals as goal

pub returns-then-k-lt1 : goal.returns-then-k-lt1
returns-then-k-lt1 c =
    point_none_size _ _ c.if-k-lt1.true

pub returns-else-k-lt1 : goal.returns-else-k-lt1
returns-else-k-lt1 c =
    point_size _ _ c.if-k-lt1.false
