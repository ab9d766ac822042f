-- `decode::sample2` meets its contract. Two's complement of the sample's word. Assumes nothing.
use Rattle.std.proofs.Common.{ap, ◌∙◌, w32}
use Rattle.word.specs.Signed.{kept}
use Rattle.sample.specs.Needed.{width}
use Rattle.sample_bits.specs.SampleBits.{twos}
use Rattle.decode.specs.Sample.{pattern_of, sample_of}
use Rattle.decode.proofs.sample2.Goals as goal

pub returns : goal.returns
unfolding sample_of pattern_of width
returns c =
    kept w32 c.twos32.result c.twos32.type_inv ∙ c.twos32.ensures ∙ ap (twos 2147483648) c.word4_at.ensures
