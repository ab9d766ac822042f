-- `patterns::read_bits` meets its contract. Each arm is the decoder of its code; no other code is one of bits. Assumes
-- nothing.
use Rattle.std.proofs.Common.{arith}
use Rattle.decode.specs.SampleLaws.{no_bits, no_bits_read}
use Rattle.patterns.proofs.read_bits.Goals as goal

pub returns-in-4 : goal.returns-in-4
returns-in-4 c =
    rw c.in-4.is (record { answer = c.read4.ensures.answer; filled = c.read4.ensures.filled; classed = c.read4.ensures.classed })

pub returns-in-5 : goal.returns-in-5
returns-in-5 c =
    rw c.in-5.is (record { answer = c.read5.ensures.answer; filled = c.read5.ensures.filled; classed = c.read5.ensures.classed })

pub returns-in_default : goal.returns-in_default
returns-in_default c =
    let e = no_bits_read _ _ _ _ _ (no_bits c.args.code _ _ _ (λ e. omega arith) (λ e. omega arith)) in record {
      answer = e.0;
      filled = e.1.0;
      classed = e.1.1;
    }
