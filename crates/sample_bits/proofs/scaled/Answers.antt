-- `sample_bits::scaled` meets its contract. 15 bits shifted by at most 15 lose nothing. Assumes nothing.
use Rattle.sample_bits.proofs.Machine.{mantissa_shifts}
use Rattle.sample_bits.proofs.scaled.Goals as goal

pub returns : goal.returns
returns c =
    let args = c.args in
    rw c.ones.ensures (mantissa_shifts args.mantissa args.exponent c.requires)
