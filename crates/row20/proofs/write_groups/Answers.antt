-- `row20::write_groups` meets its contract. What is left behind the pairs, written, makes the whole. Assumes nothing.
use Rattle.std.proofs.Common.{◌/◌, length, ap, ◌∙◌}
use Rattle.word.specs.Put.{put}
use Rattle.row20.specs.RowLaws.{Writing, pairs_from, pairs_all}
use Rattle.row20.proofs.write_groups.Goals.{then-high, else-high}
use Rattle.row20.proofs.write_groups.Goals as goal

pub returns : goal.returns
returns c =
    let row = c.args.row.now in
    let paired : Writing (pairs_from c.args.high row) 20 c.args.part.now (length row / 8) c.if-high.part =
    elim c.if-high.branch [
      | then-high w ↦ rw (w.part-is, w.if-high.true) w.write_pairs.ensures
      | else-high w ↦ rw (w.part-is, w.if-high.false) w.write_pairs-else-high.ensures
    ] in
    c.write_rest.ensures ∙ paired.rest ∙ ap (put _ 0) (pairs_all _ _)
