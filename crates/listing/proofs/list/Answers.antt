-- `listing::list` meets its contract: each answer prints its text. Assumes nothing.
use Rattle.std.proofs.Common.{sym, ◌∙◌, arith}
use Rattle.word.specs.Bytes.{each_bytes}
use Rattle.listing.specs.Room.{file_few}
use Rattle.listing.specs.Told.{enough, print_full, print_told, prints_refusal, prints_file, whole_image}
use Rattle.listing.proofs.list.Goals as goal

pub returns-then-too_short : goal.returns-then-too_short
returns-then-too_short c =
    let args = c.args in let e = print_full _ args.input.now args.out.now
    (sym c.too_short.ensures ∙ c.if-too_short.true) in record {
      answer = e.0;
      within = e.1.0;
      left = e.1.1;
    }

pub put_refusal-requires : goal.put_refusal-requires
put_refusal-requires c =
    let args = c.args in
    let room = enough args.input.now args.out.now (sym c.too_short.ensures ∙ c.if-too_short.false) in omega (arith, room)

pub put_file-requires : goal.put_file-requires
put_file-requires c =
    let args = c.args in
    let room = enough args.input.now args.out.now (sym c.too_short.ensures ∙ c.if-too_short.false) in
    let ok = sym c.check.ensures ∙ c.in-Ok.is in
    let whole = whole_image args.input.now ok in
    let few = file_few args.input.now whole.0 whole.1 whole.2
    (each_bytes args.input.now (λ i. (c.shared_slice_known-1.given i).fits)) in
    (whole.0, whole.1, omega (arith, few, room))

pub returns-in-Err : goal.returns-in-Err
returns-in-Err c =
    let args = c.args in let tested = sym c.too_short.ensures ∙ c.if-too_short.false in
    let room = enough args.input.now args.out.now tested in
    let e = print_told _ args.input.now args.out.now tested _ _ _
    (prints_refusal args.input.now (sym c.check.ensures ∙ c.in-Err.is)) c.put_refusal.ensures.0
    (omega (arith, c.put_refusal.ensures.1, room)) in record { answer = e.0; within = e.1.0; left = e.1.1 }

pub returns-in-Ok : goal.returns-in-Ok
returns-in-Ok c =
    let args = c.args in let tested = sym c.too_short.ensures ∙ c.if-too_short.false in
    let room = enough args.input.now args.out.now tested in let ok = sym c.check.ensures ∙ c.in-Ok.is in
    let whole = whole_image args.input.now ok in let few = file_few args.input.now whole.0 whole.1 whole.2
    (each_bytes args.input.now (λ i. (c.shared_slice_known-1.given i).fits)) in let e = print_told _ args.input.now args.out.now tested _ _ _
    (prints_file args.input.now ok) c.put_file.ensures (omega (arith, c.put_file.ensures.0, few, room)) in record { answer = e.0; within = e.1.0; left = e.1.1 }
