-- `sample_bits::twos16` meets its contract. The machine reads its bits in two's complement. Assumes nothing.
use Rattle.std.proofs.Common.{◌∙◌, w16}
use Rattle.word.specs.Signed.{kept}
use Rattle.sample_bits.proofs.Machine.{signed_twos}
use Rattle.sample_bits.proofs.twos16.Goals as goal

pub returns : goal.returns
returns c =
    kept w16 c.cast_signed.result c.cast_signed.type_inv ∙ c.cast_signed.ensures ∙ signed_twos w16 _ c.ranges.n.fits
