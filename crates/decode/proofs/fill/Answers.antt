-- `decode::fill` meets its contract. The invariant: what is left to store, stored, makes the whole row. Assumes nothing.
use Rattle.std.proofs.Common.{◌∙◌, arith, w32}
use Rattle.word.specs.Signed.{kept}
use Rattle.sample.specs.Run.{fill_one, fill_end}
use Rattle.decode.specs.SampleLaws.{sample_inside, all_read}
use Rattle.decode.proofs.fill.Goals as goal

pub sample_at-requires : goal.sample_at-requires
sample_at-requires g c = sample_inside _ _ _ _ c.requires (omega arith)

pub loop-i-preserved : goal.loop-i-preserved
loop-i-preserved g c =
    fill_one c.loop-i.invariant (omega arith) (kept w32 c.sample_at.result c.sample_at.type_inv ∙ c.sample_at.ensures)

pub returns : goal.returns
returns g c = (all_read _ _ _ _ _ c.requires (fill_end c.loop-i.invariant (omega arith))).1
