-- `writer::add_integers` meets its contract. A refusal leaves all as it was, and else the buffer is grown. Assumes
-- nothing.
use Rattle.std.proofs.Common.{refl}
use Rattle.std.proofs.lemmas.Result.{err_from_is_err_and}
use Rattle.word.specs.Bytes.{each_bytes}
use Rattle.layout.specs.Layout.{integers, integers_trace, count}
use Rattle.entry.specs.EntryLaws.{judged}
use Rattle.writer.specs.Writes.{begins, kept_left}
use Rattle.writer.proofs.Writes.{grown_left}
use Rattle.writer.proofs.add_integers.Goals as goal

pub told-requires : goal.told-requires
unfolding count
told-requires c =
    judged (integers c.args.row.now) c.integers_fit-fit.ensures

pub returns-in_err-end : goal.returns-in_err-end
unfolding count
returns-in_err-end c =
    let args = c.args in
    let x = integers_trace args.sheet.now args.code args.row.now in
    let p = err_from_is_err_and c.from_residual.result c.from_residual.ensures.1 in
    let e = kept_left args.buffer.now _ x c.integers_fit-fit.ensures c.in_err-end.ensures refl in
    record { answer = rw (p.1, p.2) e.0; left = e.1 }

pub grow_integers-requires : goal.grow_integers-requires
unfolding count
grow_integers-requires c =
    let args = c.args in
    let x = integers_trace args.sheet.now args.code args.row.now in
    let bytes = each_bytes args.buffer.now (λ i. (c.slice_known-1.given i).fits) in
    begins _ _ x c.integers_fit-fit.ensures c.in_ok-end.ensures bytes refl

pub returns : goal.returns
unfolding count
returns c =
    let args = c.args in
    let x = integers_trace args.sheet.now args.code args.row.now in
    let e = grown_left _ _ x c.integers_fit-fit.ensures c.in_ok-end.ensures refl c.grow_integers.ensures in
    record { answer = e.0; left = e.1 }
