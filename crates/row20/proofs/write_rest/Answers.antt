-- `row20::write_rest` meets its contract. Behind the pairs there is a group, or nothing. Assumes nothing.
use Rattle.std.proofs.Common.{sym, ap, ◌∙◌, arith}
use Rattle.word.specs.Put.{put, put_none}
use Rattle.sample.specs.Needed.{needed, room}
use Rattle.group20.specs.GroupLaws.{put_one}
use Rattle.row20.specs.RowLaws.{one_left, pairs_one, pairs_none}
use Rattle.row20.proofs.write_rest.Goals as goal

pub group_of-p-requires : goal.group_of-p-requires
unfolding room needed
group_of-p-requires c =
    (one_left _ _ c.if-pairs-row.true c.requires.3, c.requires.4)

pub put_front-requires : goal.put_front-requires
unfolding room needed
put_front-requires c =
    (omega (arith, one_left _ _ c.if-pairs-row.true c.requires.3), c.group_of-p.ensures.small)

pub put_word-requires : goal.put_word-requires
unfolding room needed
put_word-requires c =
    omega (arith, one_left _ _ c.if-pairs-row.true c.requires.3)

pub returns-then-pairs-row : goal.returns-then-pairs-row
unfolding room needed
returns-then-pairs-row c =
    let args = c.args in
    c.put_word.ensures ∙ rw c.put_front.ensures (put_one _ _ _ c.group_of-p.ensures)
    ∙ ap (put _ _) (sym (pairs_one args.high args.row.now args.pairs c.if-pairs-row.true c.requires.1 c.requires.3))

pub returns-else-pairs-row : goal.returns-else-pairs-row
unfolding room needed
returns-else-pairs-row c =
    let args = c.args in
    sym (ap (put _ _) (pairs_none args.high args.row.now args.pairs c.if-pairs-row.false) ∙ put_none _ _)
