-- `encode::write3` meets its contract. Zeros follow the groups. Assumes nothing.
use Rattle.std.proofs.Common.{refl, ◌∙◌, arith}
use Rattle.word.specs.Put.{length_put}
use Rattle.sample.specs.Needed.{needed, room}
use Rattle.row20.specs.Row20.{groups}
use Rattle.row20.specs.RowLaws.{length_groups}
use Rattle.encode.specs.Write.{integers_data}
use Rattle.encode.specs.WriteLaws.{zeros_end}
use Rattle.encode.proofs.write3.Goals as goal

pub fill_up-requires : goal.fill_up-requires
unfolding room needed
fill_up-requires c =
    rw (c.write_groups.ensures, length_put) (omega arith)

pub returns : goal.returns
unfolding integers_data
returns c =
    c.fill_up.ensures ∙ zeros_end _ (groups _ _) _ _ c.write_groups.ensures (length_groups _ _) refl
