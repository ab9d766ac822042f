-- `listing::program` meets its contract: 19 first, else the listing. Assumes nothing.
use Rattle.std.proofs.Common.{sym, ap, ◌∙◌, arith}
use Rattle.lines.specs.Lines.{refusal_line}
use Rattle.listing.specs.Told.{enough, print_full, print_told, prints_large, prints_listing}
use Rattle.listing.proofs.program.Goals as goal

pub returns-then-small : goal.returns-then-small
returns-then-small c =
    let e = prints_listing c.args.input.now (omega (arith, c.if-small.true)) in
    record { answer = rw e at c.list.ensures.answer; within = c.list.ensures.within; left = rw e at c.list.ensures.left }

pub returns-then-too_short : goal.returns-then-too_short
returns-then-too_short c =
    let args = c.args in let e = print_full _ args.input.now args.out.now
    (sym c.too_short.ensures ∙ c.if-too_short.true) in record {
      answer = e.0;
      within = e.1.0;
      left = e.1.1;
    }

pub put_refusal-requires : goal.put_refusal-requires
put_refusal-requires c =
    let args = c.args in
    let room = enough args.input.now args.out.now (sym c.too_short.ensures ∙ c.if-too_short.false) in omega (arith, room)

pub returns : goal.returns
returns c =
    let args = c.args in let tested = sym c.too_short.ensures ∙ c.if-too_short.false in
    let room = enough args.input.now args.out.now tested in
    let e = print_told _ args.input.now args.out.now tested _ _ _
    (ap refusal_line c.of_file.ensures ∙ prints_large args.input.now (omega (arith, c.if-small.false)))
    c.put_refusal.ensures.0
    (omega (arith, c.put_refusal.ensures.1, room)) in record { answer = e.0; within = e.1.0; left = e.1.1 }
