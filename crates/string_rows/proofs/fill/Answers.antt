-- `string_rows::fill` meets its contract. The row has four numbers a string, or it stays as it was. Assumes nothing.
use mathlib.Core.Path.{sym, ap, ◌∙◌}
use native.Mathlib.Omega.{arith}
use lib.ListN.{length}
use Rattle.places.specs.Numbers.{numbers_of}
use Rattle.reader.specs.Leaves.{placed}
use Rattle.string_rows.specs.Rows.{row_good, row_bad}
use Rattle.string_rows.proofs.fill.Goals as goal

pub returns-then-unequal : goal.returns-then-unequal
returns-then-unequal c =
    let args = c.args in let no = row_bad args.c (length args.row.now)
    (λ e. absurd (omega (arith, e, c.if-unequal.true))) in record {
      answer = c.row_length.ensures ∙ sym no;
      row = rw no;
    }

pub returns-then-size-fours : goal.returns-then-size-fours
returns-then-size-fours c =
    let args = c.args in let no = row_bad args.c (length args.row.now)
    (λ e. absurd (omega (arith, e, c.if-size-fours.true))) in record {
      answer = c.row_length-then-size-fours.ensures ∙ sym no;
      row = rw no;
    }

pub fill-requires : goal.fill-requires
fill-requires c =
    let args = c.args in
    let p = placed args.how args.f.now args.a args.e _ _ c.is_high.ensures c.string_end.ensures.result_value in
    (c.requires.0, c.requires.1, omega (arith, c.requires.4, ap length p, c.if-size-fours.false, c.if-unequal.false), omega arith)

pub returns : goal.returns
returns c =
    let args = c.args in let p = placed args.how args.f.now args.a args.e _ _ c.is_high.ensures
    c.string_end.ensures.result_value in let good = row_good args.c (length args.row.now) (omega (
      arith,
      c.if-size-fours.false,
      c.if-unequal.false,
    )) in record { answer = sym good; row = rw good (c.fill.ensures ∙ ap numbers_of p) }
