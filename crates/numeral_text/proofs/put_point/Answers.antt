-- `numeral_text::put_point` meets its contract. Assumes nothing.
use Rattle.std.proofs.Common.{ap, ◌∙◌, length, length-set}
use Rattle.word.specs.Put.{length_put}
use Rattle.numeral_text.specs.Stored.{point_none, point_room, point_there}
use Rattle.numeral_text.proofs.put_point.Goals as goal

pub returns-then-k-lt1 : goal.returns-then-k-lt1
returns-then-k-lt1 c =
    point_none _ _ _ _ c.if-k-lt1.true

pub bounds-out-at : goal.bounds-out-at
bounds-out-at c =
    (point_room c.args.out.now _ _ _ c.if-k-lt1.false c.requires).0

pub put_last-requires : goal.put_last-requires
put_last-requires c =
    (point_room c.args.out.now _ _ _ c.if-k-lt1.false c.requires).1

pub shape_of-out : goal.shape_of-out
shape_of-out c =
    ap length c.put_last.ensures.1 ∙ length_put _ _ _ ∙ length-set c.args.out.now c.args.at 46

pub returns : goal.returns
returns c =
    point_there c.args.out.now c.args.at c.args.c c.args.k _ _ c.if-k-lt1.false
    c.put_last.ensures
