-- `until::place` meets its contract: the string lies in the area, and its separators are counted. Assumes nothing.
use Rattle.strings.specs.Strings.{gap_len}
use borrow.Author.Rules.{rules}
use Rattle.until.proofs.place.Goals as goal

pub overflow_sub-end : goal.overflow_sub-end
unfolding gap_len
overflow_sub-end c =
    search rules

pub overflow_add-end : goal.overflow_add-end
unfolding gap_len
overflow_add-end c =
    search rules

pub overflow_add-result : goal.overflow_add-result
unfolding gap_len
overflow_add-result c =
    search rules

pub slice_bounds-run-count : goal.slice_bounds-run-count
unfolding gap_len
slice_bounds-run-count c =
    search rules

pub slice_bounds-run-start : goal.slice_bounds-run-start
unfolding gap_len
slice_bounds-run-start c =
    search rules

pub slice_bounds-run-end : goal.slice_bounds-run-end
unfolding gap_len
slice_bounds-run-end c =
    search rules

pub run-requires : goal.run-requires
unfolding gap_len
run-requires c =
    search rules

pub overflow_add-result-2 : goal.overflow_add-result-2
unfolding gap_len
overflow_add-result-2 c =
    search rules

pub returns : goal.returns
unfolding gap_len
returns c =
    rw (← c.run.ensures.0)
