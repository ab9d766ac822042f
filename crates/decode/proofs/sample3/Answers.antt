-- `decode::sample3` meets its contract. Sample i is one of the four of group i / 4. Assumes nothing.
use Rattle.std.proofs.Common.{◌∙◌, w32}
use Rattle.word.specs.Signed.{kept}
use Rattle.decode.specs.Sample.{sample_of}
use Rattle.decode.proofs.sample3.Goals as goal

pub returns : goal.returns
unfolding sample_of
returns c =
    kept w32 c.group_sample.result c.group_sample.type_inv ∙ c.group_sample.ensures
