-- `start::start` meets its contract. The question for its room, then row 30, then the image. Assumes nothing.
use Rattle.std.proofs.Common.{refl}
use Rattle.std.proofs.lemmas.Result.{err_from_is_err_and}
use Rattle.start.specs.StartWrites.{start_writable}
use Rattle.start.proofs.StartWrites.{start_kept, start_full, start_put}
use Rattle.start.proofs.start.Goals as goal

pub returns-in_err-end : goal.returns-in_err-end
returns-in_err-end c =
    let args = c.args in
    let p = err_from_is_err_and c.from_residual.result c.from_residual.ensures.1 in
    let e = start_kept args.buffer.now _ _ _ c.in_err-end.ensures refl in
    record { answer = rw (p.1, p.2) e.0; left = e.1 }

pub returns-then-buffer-end : goal.returns-then-buffer-end
returns-then-buffer-end c =
    let b = start_full _ _ _ _ c.in_ok-end.ensures refl c.if-buffer-end.true in
    record { answer = rw c.of_file.ensures b.0; left = b.1 }

pub put_start-requires : goal.put_start-requires
put_start-requires c =
    let args = c.args in
    start_writable args.buffer.now _ _ _ c.in_ok-end.ensures refl c.if-buffer-end.false

pub returns : goal.returns
returns c =
    let e = start_put _ _ _ _ c.in_ok-end.ensures refl c.if-buffer-end.false c.put_start.ensures in
    record { answer = e.0; left = e.1 }
