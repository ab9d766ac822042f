-- `decimal_parts::made` meets its contract: at most 18 digits fit 64 bits, and at most 2 stay below a hundred. Assumes
-- nothing.
use Rattle.std.proofs.Common.{◌<◌, arith, w32}
use Rattle.word.specs.Signed.{kept}
use Rattle.decimal_parts.specs.Answer.{decimal_of}
use Rattle.digits.specs.Value.{room_none, room_behind, two_digits}
use Rattle.decimal_parts.proofs.made.Goals as goal
use Rattle.decimal_parts.proofs.made.Goals.{After-value-e}

small : (c : After-value-e) → c.value-e.result < 100
small c = rw c.value-e.ensures (two_digits _ (omega arith))

pub value-w-requires : goal.value-w-requires
unfolding decimal_of
value-w-requires c =
    room_none _ (omega arith)

pub value-c-requires : goal.value-c-requires
unfolding decimal_of
value-c-requires c =
    rw c.value-w.ensures (room_behind _ _ (omega arith))

pub value-e-requires : goal.value-e-requires
unfolding decimal_of
value-e-requires c =
    room_none _ (omega arith)

pub overflow_cast-e : goal.overflow_cast-e
unfolding decimal_of
overflow_cast-e c =
    let v = small (goal.at.overflow_cast-e c).After-value-e in record { fits = omega arith }

pub power-requires : goal.power-requires
unfolding decimal_of
power-requires c =
    (small (goal.at.power-requires c).After-value-e, omega arith)

pub returns : goal.returns
unfolding decimal_of
returns c =
    rw (
      kept w32 c.power.result c.power.type_inv,
      c.power.ensures,
      c.value-e.ensures,
      c.value-c.ensures,
      c.value-w.ensures,
    )
