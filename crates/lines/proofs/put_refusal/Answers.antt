-- `lines::put_refusal` meets its contract. Number, part and place. Assumes nothing.
use Rattle.std.proofs.Common.{arith}
use Rattle.lines.specs.Lines.{refusal_line}
use Rattle.word.specs.Wrote.{joined}
use Rattle.lines.proofs.put_refusal.Goals as goal

pub put_bytes-a-requires : goal.put_bytes-a-requires
unfolding refusal_line
put_bytes-a-requires c =
    omega (arith, c.requires)

pub put_rule-b-requires : goal.put_rule-b-requires
unfolding refusal_line
put_rule-b-requires c =
    omega (arith, c.requires, c.put_bytes-a.ensures.0)

pub put_part-c-requires : goal.put_part-c-requires
unfolding refusal_line
put_part-c-requires c =
    omega (arith, c.requires, c.put_bytes-a.ensures.0, c.put_rule-b.ensures.0.0, c.put_rule-b.ensures.1)

pub put_byte-d-requires : goal.put_byte-d-requires
unfolding refusal_line
put_byte-d-requires c =
    omega (
      arith,
      c.requires,
      c.put_bytes-a.ensures.0,
      c.put_rule-b.ensures.0.0,
      c.put_rule-b.ensures.1,
      c.put_part-c.ensures.0.0,
      c.put_part-c.ensures.1,
    )

pub put_place-requires : goal.put_place-requires
unfolding refusal_line
put_place-requires c =
    omega (
      arith,
      c.requires,
      c.put_bytes-a.ensures.0,
      c.put_rule-b.ensures.0.0,
      c.put_rule-b.ensures.1,
      c.put_part-c.ensures.0.0,
      c.put_part-c.ensures.1,
      c.put_byte-d.ensures.0,
    )

pub returns : goal.returns
unfolding refusal_line
returns c = (
  (joined _ _ _ _ _ _ _ _ c.put_bytes-a.ensures (joined _ _ _ _ _ _ _ _ c.put_rule-b.ensures.0
      (joined _ _ _ _ _ _ _ _ c.put_part-c.ensures.0 (joined _ _ _ _ _ _ _ _ c.put_byte-d.ensures
      c.put_place.ensures.0)))),
  omega (
    arith,
    c.put_bytes-a.ensures.0,
    c.put_rule-b.ensures.0.0,
    c.put_rule-b.ensures.1,
    c.put_part-c.ensures.0.0,
    c.put_part-c.ensures.1,
    c.put_byte-d.ensures.0,
    c.put_place.ensures.0.0,
    c.put_place.ensures.1,
  ),
)
