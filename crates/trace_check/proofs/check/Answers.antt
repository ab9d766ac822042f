-- `trace_check::check` meets its contract. The strings are asked only where the rows were passed, and stand where the rows'
-- block says; the channel number is asked where they were passed too. Assumes nothing.
use Rattle.std.proofs.Common.{◌≡◌, ◌+◌, ◌≤◌, ◌∙◌, length, sym, arith, Ok, subst}
use Rattle.std.proofs.lemmas.Result.{err_from_is_err_and}
use Rattle.seek.specs.Sought.{SpanIn, checked_refused, checked_has}
use Rattle.trace.specs.Trace.{area_verdict}
use Rattle.block.specs.Block.{block_answer}
use Rattle.block.specs.BlockLaws.{head_at}
use Rattle.trace.specs.TraceLaws.{rows_bad, rows_shown, rows_size, rows_data, channel_in}
use Rattle.trace.proofs.TraceLaws.{strings_bad, strings_through}
use Rattle.trace_check.proofs.check.Goals as goal
use Rattle.trace_check.proofs.check.Goals.{In_ok-x}

-- the rows were passed, and this is the block
block : (c : In_ok-x) → let s = c.args in block_answer s.high (head_at s.f.now s.p) (length s.f.now) s.k s.p ≡ Ok c.in_ok-x.x
block c = sym c.in_ok-x.ensures

-- where it lies: its strings begin and end in the file
lies : (c : In_ok-x)
    → let args = c.args in
    let x = c.in_ok-x.x in
    (args.p + 32 ≤ args.p + x.b) × (args.p + x.b ≤ length args.f.now)
lies c =
    let args = c.args in
    let q = rows_shown _ args.f.now args.k args.p _ (block c) in
    let z = rows_size _ args.f.now args.k args.p _ (block c) in
    (omega (arith, q.least, z), omega (arith, q.fits, z))

pub overflow_add-end : goal.overflow_add-end
overflow_add-end c =
    omega (arith, (lies (goal.at.overflow_add-end c).In_ok-x).1)

pub strings_of-requires : goal.strings_of-requires
strings_of-requires c =
    let l = lies (goal.at.strings_of-requires c).In_ok-x in
    (l.0, l.1, c.requires.2)

pub overflow_add-end-2 : goal.overflow_add-end-2
overflow_add-end-2 c =
    let args = c.args in
    let e = block (goal.at.overflow_add-end-2 c).In_ok-x in
    let q = rows_shown _ args.f.now args.k args.p _ e in
    let z = rows_size _ args.f.now args.k args.p _ e in
    let d = rows_data _ args.f.now args.k args.p _ e in
    omega (arith, q.data_fits, z, d)

pub numbered-requires : goal.numbered-requires
numbered-requires c =
    let args = c.args in
    let e = block (goal.at.numbered-requires c).In_ok-x in
    let s = checked_has _ _ _ _ _ _ _ _ _ (sym c.in_ok-value.ensures) in
    (c.requires.1, subst (SpanIn args.f.now) (sym s.1) (channel_in args.how _ args.t.now args.u.now args.f.now args.with args.k args.p _ e))

pub returns-in_err-x : goal.returns-in_err-x
returns-in_err-x c =
    let args = c.args in
    let p = err_from_is_err_and c.from_residual.result c.from_residual.ensures.1 in
    rw (p.1, p.2) (rows_bad args.how _ args.t.now args.u.now args.f.now _ args.k args.p _ (sym c.in_err-x.ensures))

pub returns-in_err-value : goal.returns-in_err-value
unfolding area_verdict
returns-in_err-value c =
    let args = c.args in
    let e = block (goal.at.returns-in_err-value c).In_ok-x in
    let p = err_from_is_err_and c.from_residual-in_err-value.result c.from_residual-in_err-value.ensures.1 in
    rw (p.1, p.2)
    (strings_bad args.how _ args.t.now args.u.now args.f.now _ args.k args.p _ e _
    (checked_refused _ _ _ _ _ _ _ _ _ (sym c.in_err-value.ensures)))

pub returns : goal.returns
unfolding area_verdict
returns c =
    let args = c.args in
    let e = block (goal.at.returns c).In_ok-x in
    let s = checked_has _ _ _ _ _ _ _ _ _ (sym c.in_ok-value.ensures) in
    strings_through args.how _ args.t.now args.u.now args.f.now args.with args.k args.p _ e _ s.0 s.1 c.numbered.ensures
