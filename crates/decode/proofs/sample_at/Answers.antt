-- `decode::sample_at` meets its contract. Each arm is the sample of its code. Assumes nothing.
use Rattle.std.proofs.Common.{sym, ◌∙◌, arith, w32}
use Rattle.word.specs.Signed.{kept}
use Rattle.decode.specs.Sample.{sample_end}
use Rattle.decode.specs.SampleLaws.{no_sample}
use Rattle.decode.proofs.sample_at.Goals as goal

pub sample1-requires : goal.sample1-requires
unfolding sample_end
sample1-requires c =
    rw c.in-1.is at c.requires

pub sample2-requires : goal.sample2-requires
unfolding sample_end
sample2-requires c =
    rw c.in-2.is at c.requires

pub sample3-requires : goal.sample3-requires
unfolding sample_end
sample3-requires c =
    rw c.in-3.is at c.requires

pub returns-in-1 : goal.returns-in-1
returns-in-1 c =
    rw c.in-1.is (kept w32 c.sample1.result c.sample1.type_inv ∙ c.sample1.ensures)

pub returns-in-2 : goal.returns-in-2
returns-in-2 c =
    rw c.in-2.is (kept w32 c.sample2.result c.sample2.type_inv ∙ c.sample2.ensures)

pub returns-in-3 : goal.returns-in-3
returns-in-3 c =
    rw c.in-3.is (kept w32 c.sample3.result c.sample3.type_inv ∙ c.sample3.ensures)

pub returns-in_default : goal.returns-in_default
returns-in_default c =
    sym (no_sample _ _ _ _ (λ e. omega arith) (λ e. omega arith) (λ e. omega arith))
