-- `lines::put_ended` meets its contract. The digits, then the end. Assumes nothing.
use Rattle.std.proofs.Common.{arith}
use Rattle.lines.specs.Lines.{ended}
use Rattle.lines.specs.Sizes.{length_ended}
use Rattle.word.specs.Wrote.{joined}
use Rattle.lines.proofs.put_ended.Goals as goal

pub put_digits-a-requires : goal.put_digits-a-requires
unfolding ended
put_digits-a-requires c =
    let args = c.args in
    let l = length_ended args.n args.b in omega (arith, l, c.requires)

pub put_byte-requires : goal.put_byte-requires
unfolding ended
put_byte-requires c =
    let args = c.args in
    let l = length_ended args.n args.b in omega (arith, l, c.requires, c.put_digits-a.ensures.0)

pub returns : goal.returns
unfolding ended
returns c =
    joined _ _ _ _ _ _ _ _ c.put_digits-a.ensures c.put_byte.ensures
