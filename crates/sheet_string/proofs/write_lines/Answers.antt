-- `sheet_string::write_lines` meets its contract. The invariant: what is left to store, stored, makes the whole. Assumes
-- nothing.
use Rattle.std.proofs.Common.{rules, refl, arith, ◌+◌, ◌≤◌, ◌<◌, length}
use Rattle.word.specs.Part.{part, part_rest}
use Rattle.word.specs.Put.{length_put}
use Rattle.sheet.specs.Lines.{sheet_lines}
use Rattle.sheet_string.specs.StringBytes.{more_of, noting_start, noting_fits, noting_turn, noting_over}
use Rattle.sheet_string.proofs.write_lines.Goals as goal
use Rattle.sheet_string.proofs.write_lines.Goals.{After-line_len}

-- the line that the walk is at has the keyword and the tab, and ends before the sheet does; its value has room
fits : (c : After-line_len)
    → let n = c.line_len.result in
    let at = c.loop-at.at in
    let args = c.args in
    (5 ≤ n) × (at + n < length args.s.now)
    × (c.loop-at.end + (length args.u.now + length (part (at + 5) (at + n) args.s.now)) ≤ args.to + length (more_of args.u.now (sheet_lines args.s.now)))
fits c =
    noting_fits _ _ _ _ c.loop-at.at _ _ c.loop-at.invariant.2 c.loop-at-test.true _ (rw part_rest at c.line_len.ensures.0)

pub loop-at-init : goal.loop-at-init
loop-at-init c =
    (search rules, refl, noting_start _ _ _ _ c.requires.0)

pub slice_bounds-write_more-count : goal.slice_bounds-write_more-count
slice_bounds-write_more-count c =
    let b = fits (goal.at.slice_bounds-write_more-count c).After-line_len in omega (arith, b.0, b.1)

pub slice_bounds-write_more-start : goal.slice_bounds-write_more-start
slice_bounds-write_more-start c =
    let b = fits (goal.at.slice_bounds-write_more-start c).After-line_len in omega (arith, b.0, b.1)

pub write_more-end-requires : goal.write_more-end-requires
write_more-end-requires c =
    let b = fits (goal.at.write_more-end-requires c).After-line_len in omega (arith, b.0, b.1, b.2)

pub loop-at-preserved : goal.loop-at-preserved
loop-at-preserved c =
    let b = fits (goal.at.loop-at-preserved c).After-line_len in (
      omega (arith, b.1),
      rw (c.write_more-end.ensures.1, length_put) c.loop-at.invariant.1,
      noting_turn _ _ _ _ c.loop-at.at _ _
          c.loop-at.invariant.2 c.loop-at-test.true _ (rw part_rest at c.line_len.ensures.0) _ _
          c.write_more-end.ensures.0 c.write_more-end.ensures.1,
    )

pub returns : goal.returns
returns c =
    noting_over _ _ _ _ _ _ _ c.loop-at.invariant.2 c.loop-at-test.false
