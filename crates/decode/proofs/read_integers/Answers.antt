-- `decode::read_integers` meets its contract. Each arm is the decoder of its code; no other code is one of integers.
-- Assumes nothing.
use Rattle.std.proofs.Common.{arith}
use Rattle.decode.specs.SampleLaws.{no_integers, nothing_read}
use Rattle.decode.proofs.read_integers.Goals as goal

pub returns-in-1 : goal.returns-in-1
returns-in-1 c =
    rw c.in-1.is (record { answer = c.read1.ensures.answer; filled = c.read1.ensures.filled })

pub returns-in-2 : goal.returns-in-2
returns-in-2 c =
    rw c.in-2.is (record { answer = c.read2.ensures.answer; filled = c.read2.ensures.filled })

pub returns-in-3 : goal.returns-in-3
returns-in-3 c =
    rw c.in-3.is (record { answer = c.read3.ensures.answer; filled = c.read3.ensures.filled })

pub returns-in_default : goal.returns-in_default
returns-in_default c =
    let e = nothing_read _ _ _ _ (no_integers c.args.code _ _ (λ e. omega arith) (λ e. omega arith) (λ e. omega arith)) in record { answer = e.0; filled = e.1 }
