-- `sample_bits::twos32` meets its contract. The machine reads its bits in two's complement. Assumes nothing.
use Rattle.std.proofs.Common.{◌∙◌, w32}
use Rattle.word.specs.Signed.{kept}
use Rattle.sample_bits.proofs.Machine.{signed_twos}
use Rattle.sample_bits.proofs.twos32.Goals as goal

pub returns : goal.returns
returns c =
    kept w32 c.cast_signed.result c.cast_signed.type_inv ∙ c.cast_signed.ensures ∙ signed_twos w32 _ c.ranges.n.fits
