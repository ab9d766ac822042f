-- `sample_bits::exponent_in` meets its contract. A shift divides, and a mask is a remainder. Assumes nothing.
use Rattle.std.proofs.Common.{◌*◌, ◌/◌, ◌^◌}
use Rattle.std.proofs.lemmas.Nat.{and_mask}
use Rattle.std.specs.Int.Bits.{mask_lt}
use Rattle.sample_bits.specs.SampleBits.{exponent_in}
use Rattle.sample_bits.proofs.exponent_in.Goals as goal

pub returns : goal.returns
unfolding exponent_in
returns c =
    let n = c.args.word / 2 ^ (4 * c.args.k) in (and_mask n 4, mask_lt n 4)
