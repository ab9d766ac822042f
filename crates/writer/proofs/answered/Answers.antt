-- `writer::answered` meets its contract. The rows before the samples, then the others. Assumes nothing.
use Rattle.std.proofs.Common.{sym}
use Rattle.std.proofs.lemmas.Result.{err_from_is_err_and}
use Rattle.area.specs.Spelling.{measured_size}
use Rattle.opening.proofs.OpeningLaws.{opened}
use Rattle.writer.specs.Writes.{rows_shut, rows_ended}
use Rattle.writer.proofs.answered.Goals as goal

pub returns-in_err-size : goal.returns-in_err-size
returns-in_err-size c =
    let p = err_from_is_err_and c.from_residual.result c.from_residual.ensures.1 in
    rw (p.1, p.2) (rows_shut _ _ _ _ _ _ _ (sym c.in_err-size.ensures))

pub ended-requires : goal.ended-requires
ended-requires c =
    let o = opened _ _ _ _ (sym c.in_ok-size.ensures) in (o.most, (measured_size _ _ _ _ o.measured).2, c.requires)

pub returns : goal.returns
returns c =
    rows_ended _ _ _ _ _ _ _ (sym c.in_ok-size.ensures) c.ended.ensures
