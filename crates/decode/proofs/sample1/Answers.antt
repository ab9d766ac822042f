-- `decode::sample1` meets its contract. Two's complement of the sample's word. Assumes nothing.
use Rattle.std.proofs.Common.{ap, ◌∙◌}
use Rattle.sample.specs.Needed.{width}
use Rattle.sample_bits.specs.SampleBits.{twos}
use Rattle.decode.specs.Sample.{pattern_of, sample_of}
use Rattle.decode.proofs.Machine.{fits16, kept16}
use Rattle.decode.proofs.sample1.Goals as goal

pub overflow_cast-result : goal.overflow_cast-result
unfolding sample_of pattern_of width
overflow_cast-result c =
    fits16 c.twos16.result c.twos16.type_inv

pub returns : goal.returns
unfolding sample_of pattern_of width
returns c =
    kept16 c.twos16.result c.twos16.type_inv ∙ c.twos16.ensures ∙ ap (twos 32768) c.word_at.ensures
