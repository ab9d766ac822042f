-- `quick::walk` meets its contract. The strings of a trace that passed its rows stand in the image. Assumes nothing.
use Rattle.std.proofs.Common.{◌≡◌, sym, ◌∙◌, ◌+◌, ◌≤◌, arith, length, take}
use lib.IntN.{ℤ}
use mir.Syntax.{w32}
use Rattle.word.specs.Bytes.{each_bytes}
use Rattle.word.specs.Signed.{handed}
use Rattle.one_trace.specs.Alone.{block_alone}
use Rattle.one_trace.specs.AloneLaws.{Alone}
use Rattle.quick.specs.QuickLaws.{walk_refused, shown, area_lies, walk_told, number_plain, number_casts}
use Rattle.std.proofs.lemmas.Result.{err_from_is_err_and}
use Rattle.quick.proofs.walk.Goals as goal
use Rattle.quick.proofs.walk.Goals.{In_ok-x}
use Rattle.std.specs.Prelude.{Ok}

-- the block that was answered
read : (c : In_ok-x)
    → let args = c.args in
    block_alone args.buffer.now args.n args.trace ≡ Ok c.in_ok-x.x
read c =
    let args = c.args in
    sym (handed w32 (λ (z : ℤ). block_alone args.buffer.now args.n z) args.trace c.ranges.trace.sfits c.in_ok-x.ensures)

-- what its rows have shown, and where its strings lie
alone : (c : In_ok-x)
    → let args = c.args in
    Alone args.buffer.now args.n args.trace
alone c = shown _ _ _ _ (read c)

lies : (c : In_ok-x)
    → let args = c.args in
    let x = c.in_ok-x.x in
    (x.p + 32 ≤ x.p + x.b) × (x.p + x.b ≤ length (take args.n args.buffer.now))
lies c = area_lies _ _ _ _ (read c)

pub overflow_cast-k : goal.overflow_cast-k
overflow_cast-k c =
    let by = each_bytes c.args.buffer.now (λ i. (c.shared_slice_known-1.given i).fits) in
    let q = number_casts (alone (goal.at.overflow_cast-k c).In_ok-x) c.ranges.trace.sfits by in
    (q.0, q.1)

pub overflow_cast-k-2 : goal.overflow_cast-k-2
overflow_cast-k-2 c =
    let by = each_bytes c.args.buffer.now (λ i. (c.shared_slice_known-1.given i).fits) in
    record { fits = (number_casts (alone (goal.at.overflow_cast-k-2 c).In_ok-x) c.ranges.trace.sfits by).2 }

pub slice_bounds-between-end : goal.slice_bounds-between-end
slice_bounds-between-end c =
    sym (alone (goal.at.slice_bounds-between-end c).In_ok-x).size

pub overflow_add-x : goal.overflow_add-x
overflow_add-x c =
    omega (arith, (lies (goal.at.overflow_add-x c).In_ok-x).0, (lies (goal.at.overflow_add-x c).In_ok-x).1, (alone (goal.at.overflow_add-x c).In_ok-x).size)

pub overflow_add-x-2 : goal.overflow_add-x-2
overflow_add-x-2 c =
    omega (
      arith,
      (lies (goal.at.overflow_add-x-2 c).In_ok-x).0,
      (lies (goal.at.overflow_add-x-2 c).In_ok-x).1,
      (alone (goal.at.overflow_add-x-2 c).In_ok-x).size,
    )

pub between-requires : goal.between-requires
between-requires c =
    let s = alone (goal.at.between-requires c).In_ok-x in
    ((lies (goal.at.between-requires c).In_ok-x).0, (lies (goal.at.between-requires c).In_ok-x).1, omega (arith, s.size, s.least), s.head.strings, s.head.lines)

pub returns-in_err-x : goal.returns-in_err-x
returns-in_err-x c =
    let args = c.args in
    let p = err_from_is_err_and c.from_residual.result c.from_residual.ensures.1 in
    rw (p.1, p.2)
    (walk_refused _ _ _ _
    (sym (handed w32 (λ (z : ℤ). block_alone args.buffer.now args.n z) args.trace c.ranges.trace.sfits c.in_err-x.ensures)))

pub returns : goal.returns
returns c =
    walk_told _ _ _ _ (read (goal.at.returns c).In_ok-x) _ _ (number_plain (alone (goal.at.returns c).In_ok-x) c.ranges.trace.sfits) c.between.ensures
