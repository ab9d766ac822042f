-- `one_trace::block` meets its contract. What rows 1 to 7 have shown is what the rest asks. Assumes nothing.
use Rattle.std.proofs.Common.{refl, sym, ap, ◌∙◌, arith, length, take}
use lib.IntN.{ℤ}
use lib.Seq.{length-take-le}
use mir.Syntax.{w32}
use Rattle.word.specs.Signed.{handed}
use Rattle.file_length.specs.FileLength.{long_enough}
use Rattle.image.specs.ImageLaws.{in_words, head_shown, head_room, head_count}
use Rattle.one_trace.specs.Alone.{named_of}
use Rattle.one_trace.specs.AloneLaws.{alone_length}
use Rattle.one_trace.proofs.AloneLaws.{alone_head, alone_named}
use Rattle.std.proofs.lemmas.Result.{err_from_is_err_and}
use Rattle.one_trace.proofs.block.Goals as goal
use Rattle.std.specs.Prelude.{Err}

pub returns-then-is_bad_length : goal.returns-then-is_bad_length
returns-then-is_bad_length c =
    ap Err c.of_file.ensures ∙ alone_length c.args.buffer.now c.args.n c.args.trace (sym c.is_bad_length.ensures ∙ c.if-is_bad_length.true)

pub slice_bounds-f-end : goal.slice_bounds-f-end
slice_bounds-f-end c =
    let l = long_enough (length c.args.buffer.now) c.args.n (sym c.is_bad_length.ensures ∙ c.if-is_bad_length.false) in
    sym (length-take-le _ _ l.2)

pub slice_bounds-head-end : goal.slice_bounds-head-end
slice_bounds-head-end c =
    let l = long_enough (length c.args.buffer.now) c.args.n (sym c.is_bad_length.ensures ∙ c.if-is_bad_length.false) in
    sym (length-take-le 32 (take c.args.n c.args.buffer.now) (rw (length-take-le c.args.n c.args.buffer.now l.2) l.0))

pub head-requires : goal.head-requires
head-requires c =
    let l = long_enough (length c.args.buffer.now) c.args.n (sym c.is_bad_length.ensures ∙ c.if-is_bad_length.false) in
    let q = length-take-le 32 (take c.args.n c.args.buffer.now) (rw (length-take-le c.args.n c.args.buffer.now l.2) l.0)
    in
    omega (arith, q)

pub named-requires : goal.named-requires
named-requires c =
    let h = head_shown _ (take c.args.n c.args.buffer.now) _ (sym c.in_ok-x.ensures.0) in
    let m = head_room _ (take c.args.n c.args.buffer.now) _ (sym c.in_ok-x.ensures.0) in
    let n = head_count _ (take c.args.n c.args.buffer.now) _ (sym c.in_ok-x.ensures.0) in
    let w = in_words _ c.in_ok-x.x refl c.in_ok-x.ensures.1 in
    (omega (arith, h.count, m, n), omega (arith, h.fits, m), w.1)

pub returns-in_err-x : goal.returns-in_err-x
returns-in_err-x c =
    let p = err_from_is_err_and c.from_residual.result c.from_residual.ensures.1 in
    rw (p.1, p.2)
    (alone_head c.args.buffer.now c.args.n c.args.trace (sym c.is_bad_length.ensures ∙ c.if-is_bad_length.false) (sym c.in_err-x.ensures.0))

pub returns : goal.returns
returns c =
    alone_named c.args.buffer.now c.args.n c.args.trace (sym c.is_bad_length.ensures ∙ c.if-is_bad_length.false)
    (sym c.in_ok-x.ensures.0)
    (handed w32 (λ (z : ℤ). named_of (take c.args.n c.args.buffer.now) c.in_ok-x.x z) c.args.trace
    c.ranges.trace.sfits c.named.ensures)
