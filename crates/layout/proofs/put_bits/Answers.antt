-- `layout::put_bits` meets its contract. What is not code 4 is code 5. Assumes nothing.
use Rattle.std.proofs.Common.{arith}
use Rattle.word.specs.Put.{lent_back}
use Rattle.layout.specs.Layout.{samples_data}
use Rattle.layout.specs.Stores.{fifth}
use Rattle.layout.proofs.put_bits.Goals as goal

pub write4-requires : goal.write4-requires
unfolding samples_data
write4-requires c =
    let e = c.in-4.is in let h = rw e at c.requires.0 in omega (arith, h)

pub write5-requires : goal.write5-requires
unfolding samples_data
write5-requires c =
    let e = fifth c.requires.1 c.in_default.in_default-own.rest.1 in let h = rw e at c.requires.0 in omega (arith, h)

pub returns-in-4 : goal.returns-in-4
unfolding samples_data
returns-in-4 c =
    rw c.in-4.is (lent_back _ _ _ _ c.write4.ensures)

pub returns-in_default : goal.returns-in_default
unfolding samples_data
returns-in_default c =
    rw (fifth c.requires.1 c.in_default.in_default-own.rest.1) (lent_back _ _ _ _ c.write5.ensures)
