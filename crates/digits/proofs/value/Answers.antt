-- `digits::value` meets its contract. The invariant: what was read, with the digits left behind it, is the whole, and
-- there is room for them.
-- Assumes nothing.
use Rattle.std.proofs.Common.{sym, ◌∙◌, arith}
use Rattle.digits.specs.Value.{room_lt, room_more, value_more, value_over}
use Rattle.digits.proofs.value.Goals as goal

pub overflow_mul-w : goal.overflow_mul-w
overflow_mul-w c =
    let r = room_lt _ _ c.loop-b.invariant.1 in omega arith

pub overflow_add-w : goal.overflow_add-w
overflow_add-w c =
    let r = room_lt _ _ c.loop-b.invariant.1 in omega arith

pub loop-b-preserved : goal.loop-b-preserved
loop-b-preserved c =
    let l = c.loop-b in (
      rw c.worth.ensures.0 (value_more l.w _ l.b-index c.loop-b-test.true ∙ l.invariant.0),
      rw c.worth.ensures.0 (room_more l.w _ _ l.b-index c.loop-b-test.true l.invariant.1),
    )

pub returns : goal.returns
returns c =
    sym (value_over _ _ c.loop-b.b-index c.loop-b-test.false) ∙ c.loop-b.invariant.0
