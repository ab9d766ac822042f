-- `decode::group_sample` meets its contract. The exponent comes out of the first word, the mantissa is k words behind
-- it and one. Assumes nothing.
use Rattle.std.proofs.Common.{ap, ap₂, ◌∙◌, ℕ, w32}
use Rattle.sample_bits.specs.SampleBits.{exponent_in, scaled}
use Rattle.decode.specs.Sample.{group_sample}
use Rattle.word.specs.Signed.{kept}
use Rattle.decode.proofs.group_sample.Goals as goal

pub returns : goal.returns
unfolding group_sample
returns c =
    kept w32 c.scaled.result c.scaled.type_inv ∙ c.scaled.ensures ∙ ap₂ scaled
    (c.exponent_in.ensures.0 ∙ ap (λ (w : ℕ). exponent_in w c.args.k) c.requires.1) c.word_at.ensures
