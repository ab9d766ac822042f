-- `layout::put_integers` meets its contract. What is neither code 1 nor 2 is code 3. Assumes nothing.
use Rattle.std.proofs.Common.{arith}
use Rattle.word.specs.Put.{lent_back}
use Rattle.layout.specs.Layout.{samples_data}
use Rattle.layout.specs.Stores.{third}
use Rattle.layout.proofs.put_integers.Goals as goal

pub write1-requires : goal.write1-requires
unfolding samples_data
write1-requires c =
    let e = c.in-1.is in let h = rw e at c.requires.0 in omega (arith, h)

pub write2-requires : goal.write2-requires
unfolding samples_data
write2-requires c =
    let e = c.in-2.is in let h = rw e at c.requires.0 in omega (arith, h)

pub write3-requires : goal.write3-requires
unfolding samples_data
write3-requires c =
    let k = third c.requires.1 c.in_default.in_default-own.rest.0.1 c.in_default.in_default-own.rest.1 in
    let e = k.0 in
    let h = rw e at c.requires.0 in
    (omega (arith, h), k.1, k.2)

pub returns-in-1 : goal.returns-in-1
unfolding samples_data
returns-in-1 c =
    rw c.in-1.is (lent_back _ _ _ _ c.write1.ensures)

pub returns-in-2 : goal.returns-in-2
unfolding samples_data
returns-in-2 c =
    rw c.in-2.is (lent_back _ _ _ _ c.write2.ensures)

pub returns-in_default : goal.returns-in_default
unfolding samples_data
returns-in_default c =
    rw (third c.requires.1 c.in_default.in_default-own.rest.0.1 c.in_default.in_default-own.rest.1).0 (lent_back _ _ _ _ c.write3.ensures)
