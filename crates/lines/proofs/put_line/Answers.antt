-- `lines::put_line` meets its contract. The label, the value, the end. Assumes nothing.
use Rattle.std.proofs.Common.{arith}
use Rattle.lines.specs.Lines.{string_line}
use Rattle.lines.specs.Sizes.{length_line}
use Rattle.word.specs.Wrote.{joined}
use Rattle.lines.proofs.put_line.Goals as goal

pub put_label-a-requires : goal.put_label-a-requires
unfolding string_line
put_label-a-requires c =
    let args = c.args in
    let l = length_line args.part args.key.now args.v.now in omega (arith, l, c.requires)

pub put_spaced-b-requires : goal.put_spaced-b-requires
unfolding string_line
put_spaced-b-requires c =
    let args = c.args in
    let l = length_line args.part args.key.now args.v.now in omega (arith, l, c.requires, c.put_label-a.ensures.0)

pub put_byte-requires : goal.put_byte-requires
unfolding string_line
put_byte-requires c =
    let args = c.args in
    let l = length_line args.part args.key.now args.v.now in
    omega (arith, l, c.requires, c.put_label-a.ensures.0, c.put_spaced-b.ensures.0)

pub returns : goal.returns
unfolding string_line
returns c =
    joined _ _ _ _ _ _ _ _ c.put_label-a.ensures (joined _ _ _ _ _ _ _ _ c.put_spaced-b.ensures
    c.put_byte.ensures)
