-- `append::begin` meets its contract. The gap, the block and the strings are all that stands before the samples.
-- Assumes nothing.
use Rattle.std.proofs.Common.{sym, arith}
use Rattle.std.proofs.Common.{length-take-le}
use Rattle.append.specs.GrownLaws.{small, told, head_room, front_put}
use Rattle.append.proofs.begin.Goals as goal

pub overflow_cast-s : goal.overflow_cast-s
overflow_cast-s c =
    omega (arith, (small c.requires).count_word)

pub slice_bounds-t-end : goal.slice_bounds-t-end
slice_bounds-t-end c =
    (told c.requires c.file_block-b.ensures.0).string_most

pub slice_bounds-put_head-end-2 : goal.slice_bounds-put_head-end-2
slice_bounds-put_head-end-2 c =
    sym (length-take-le _ _ (told c.requires c.file_block-b.ensures.0).string_most)

pub slice_bounds-u-end : goal.slice_bounds-u-end
slice_bounds-u-end c =
    (told c.requires c.file_block-b.ensures.0).line_most

pub slice_bounds-put_head-end-3 : goal.slice_bounds-put_head-end-3
slice_bounds-put_head-end-3 c =
    sym (length-take-le _ _ (told c.requires c.file_block-b.ensures.0).line_most)

pub put_head-requires : goal.put_head-requires
put_head-requires c =
    let b = told c.requires c.file_block-b.ensures.0 in
    head_room c.requires _ c.round_up-at.ensures c.room.ensures.0 b.string_end_lem b.line_end_lem c.zeros.ensures

pub returns : goal.returns
returns c =
    let b = told c.requires c.file_block-b.ensures.0 in record {
      place = (rw c.room.ensures.0, b.high);
      left = front_put _ _ _ _ _ b.high b.string_end_lem b.line_end_lem c.round_up-at.ensures
          c.zeros.ensures c.put_head.ensures;
    }
