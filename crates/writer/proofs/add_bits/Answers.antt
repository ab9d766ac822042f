-- `writer::add_bits` meets its contract. A refusal leaves all as it was, and else the buffer is grown. Assumes
-- nothing.
use Rattle.std.proofs.Common.{refl}
use Rattle.std.proofs.lemmas.Result.{err_from_is_err_and}
use Rattle.word.specs.Bytes.{each_bytes}
use Rattle.layout.specs.Layout.{patterns, patterns_trace, count}
use Rattle.entry.specs.EntryLaws.{judged}
use Rattle.writer.specs.Writes.{begins, kept_left}
use Rattle.writer.proofs.Writes.{grown_left}
use Rattle.writer.proofs.add_bits.Goals as goal

pub told-requires : goal.told-requires
unfolding count
told-requires c =
    judged (patterns c.args.row.now) c.bits_fit-fit.ensures

pub returns-in_err-end : goal.returns-in_err-end
unfolding count
returns-in_err-end c =
    let args = c.args in
    let x = patterns_trace args.sheet.now args.code args.row.now in
    let p = err_from_is_err_and c.from_residual.result c.from_residual.ensures.1 in
    let e = kept_left args.buffer.now _ x c.bits_fit-fit.ensures c.in_err-end.ensures refl in
    record { answer = rw (p.1, p.2) e.0; left = e.1 }

pub grow_bits-requires : goal.grow_bits-requires
unfolding count
grow_bits-requires c =
    let args = c.args in
    let x = patterns_trace args.sheet.now args.code args.row.now in
    let bytes = each_bytes args.buffer.now (λ i. (c.slice_known-1.given i).fits) in
    begins _ _ x c.bits_fit-fit.ensures c.in_ok-end.ensures bytes refl

pub returns : goal.returns
unfolding count
returns c =
    let args = c.args in
    let x = patterns_trace args.sheet.now args.code args.row.now in
    let e = grown_left _ _ x c.bits_fit-fit.ensures c.in_ok-end.ensures refl c.grow_bits.ensures in
    record { answer = e.0; left = e.1 }
