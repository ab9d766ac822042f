-- `lines::put_label` meets its contract. Part and keyword, each with a tab behind it. Assumes nothing.
use Rattle.std.proofs.Common.{arith}
use Rattle.lines.specs.Lines.{label}
use Rattle.lines.specs.Sizes.{length_label}
use Rattle.word.specs.Wrote.{joined}
use Rattle.lines.proofs.put_label.Goals as goal

pub put_bytes-a-requires : goal.put_bytes-a-requires
unfolding label
put_bytes-a-requires c =
    let args = c.args in
    let l = length_label args.part args.key.now in omega (arith, l, c.requires)

pub put_whose-b-requires : goal.put_whose-b-requires
unfolding label
put_whose-b-requires c =
    let args = c.args in
    let l = length_label args.part args.key.now in omega (arith, l, c.requires, c.put_bytes-a.ensures.0)

pub put_byte-c-requires : goal.put_byte-c-requires
unfolding label
put_byte-c-requires c =
    let args = c.args in
    let l = length_label args.part args.key.now in
    omega (arith, l, c.requires, c.put_bytes-a.ensures.0, c.put_whose-b.ensures.0)

pub put_bytes-d-requires : goal.put_bytes-d-requires
unfolding label
put_bytes-d-requires c =
    let args = c.args in
    let l = length_label args.part args.key.now in
    omega (arith, l, c.requires, c.put_bytes-a.ensures.0, c.put_whose-b.ensures.0, c.put_byte-c.ensures.0)

pub put_byte-requires : goal.put_byte-requires
unfolding label
put_byte-requires c =
    let args = c.args in
    let l = length_label args.part args.key.now in
    omega (
      arith,
      l,
      c.requires,
      c.put_bytes-a.ensures.0,
      c.put_whose-b.ensures.0,
      c.put_byte-c.ensures.0,
      c.put_bytes-d.ensures.0,
    )

pub returns : goal.returns
unfolding label
returns c =
    joined _ _ _ _ _ _ _ _ c.put_bytes-a.ensures (joined _ _ _ _ _ _ _ _ c.put_whose-b.ensures
    (joined _ _ _ _ _ _ _ _ c.put_byte-c.ensures (joined _ _ _ _ _ _ _ _ c.put_bytes-d.ensures
    c.put_byte.ensures)))
