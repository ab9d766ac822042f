-- `places::write` meets its contract: its stores are those of `put`. Assumes nothing.
use native.Mathlib.Omega.{arith}
use lib.ListN.{length-set}
use Rattle.word.specs.Put.{put}
use borrow.Author.Rules.{rules}
use Rattle.places.proofs.write.Goals as goal

pub overflow_add-j1 : goal.overflow_add-j1
unfolding put
overflow_add-j1 c =
    search rules

pub overflow_add-j2 : goal.overflow_add-j2
unfolding put
overflow_add-j2 c =
    search rules

pub overflow_add-j3 : goal.overflow_add-j3
unfolding put
overflow_add-j3 c =
    search rules

pub offset_bounds-row-j : goal.offset_bounds-row-j
unfolding put
offset_bounds-row-j c =
    search rules

pub bounds-row-j : goal.bounds-row-j
unfolding put
bounds-row-j c =
    search rules

pub overflow_sub-row : goal.overflow_sub-row
unfolding put
overflow_sub-row c =
    search rules

pub offset_bounds-row-j1 : goal.offset_bounds-row-j1
unfolding put
offset_bounds-row-j1 c =
    search rules

pub bounds-row-j1 : goal.bounds-row-j1
unfolding put
bounds-row-j1 c =
    simp length-set (omega arith)

pub offset_bounds-row-j2 : goal.offset_bounds-row-j2
unfolding put
offset_bounds-row-j2 c =
    search rules

pub bounds-row-j2 : goal.bounds-row-j2
unfolding put
bounds-row-j2 c =
    simp length-set (omega arith)

pub overflow_sub-row-2 : goal.overflow_sub-row-2
unfolding put
overflow_sub-row-2 c =
    search rules

pub offset_bounds-row-j3 : goal.offset_bounds-row-j3
unfolding put
offset_bounds-row-j3 c =
    search rules

pub bounds-row-j3 : goal.bounds-row-j3
unfolding put
bounds-row-j3 c =
    simp length-set (omega arith)

pub shape_of-row : goal.shape_of-row
unfolding put
shape_of-row c =
    search rules

pub returns : goal.returns
unfolding put
returns c =
    search rules
