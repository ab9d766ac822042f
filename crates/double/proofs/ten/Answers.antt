-- `double::ten` meets its contract: each arm is its power of ten, computed once; what is left for the last arm is 15.
-- Assumes nothing.
use Rattle.std.specs.Prelude.{◌≡◌, refl}
use Rattle.std.proofs.Common.{arith}
use Rattle.std.specs.Float.Ieee.{of_bits, of_int}
use Rattle.double.proofs.ten.Goals as goal

pub returns-in-0 : goal.returns-in-0
unfolding of_bits of_int
returns-in-0 c =
    rw c.in-0.is refl

pub returns-in-1 : goal.returns-in-1
unfolding of_bits of_int
returns-in-1 c =
    rw c.in-1.is refl

pub returns-in-2 : goal.returns-in-2
unfolding of_bits of_int
returns-in-2 c =
    rw c.in-2.is refl

pub returns-in-3 : goal.returns-in-3
unfolding of_bits of_int
returns-in-3 c =
    rw c.in-3.is refl

pub returns-in-4 : goal.returns-in-4
unfolding of_bits of_int
returns-in-4 c =
    rw c.in-4.is refl

pub returns-in-5 : goal.returns-in-5
unfolding of_bits of_int
returns-in-5 c =
    rw c.in-5.is refl

pub returns-in-6 : goal.returns-in-6
unfolding of_bits of_int
returns-in-6 c =
    rw c.in-6.is refl

pub returns-in-7 : goal.returns-in-7
unfolding of_bits of_int
returns-in-7 c =
    rw c.in-7.is refl

pub returns-in-8 : goal.returns-in-8
unfolding of_bits of_int
returns-in-8 c =
    rw c.in-8.is refl

pub returns-in-9 : goal.returns-in-9
unfolding of_bits of_int
returns-in-9 c =
    rw c.in-9.is refl

pub returns-in-10 : goal.returns-in-10
unfolding of_bits of_int
returns-in-10 c =
    rw c.in-10.is refl

pub returns-in-11 : goal.returns-in-11
unfolding of_bits of_int
returns-in-11 c =
    rw c.in-11.is refl

pub returns-in-12 : goal.returns-in-12
unfolding of_bits of_int
returns-in-12 c =
    rw c.in-12.is refl

pub returns-in-13 : goal.returns-in-13
unfolding of_bits of_int
returns-in-13 c =
    rw c.in-13.is refl

pub returns-in-14 : goal.returns-in-14
unfolding of_bits of_int
returns-in-14 c =
    rw c.in-14.is refl

pub returns-in_default : goal.returns-in_default
unfolding of_bits of_int
returns-in_default c =
    let e : c.args.k ≡ 15 = omega arith in
    rw e refl
