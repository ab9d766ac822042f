-- `part_rows::strings` meets its contract. What was opened lies in the image. Assumes nothing.
use Rattle.std.proofs.Common.{◌≡◌, sym, ap, ◌∙◌, arith, length, take}
use lib.IntN.{ℤ}
use mir.Syntax.{w32}
use Rattle.word.specs.Signed.{handed}
use Rattle.reader.specs.Reach.{Reached, reached}
use Rattle.reader.specs.Leaves.{opened_of, placed}
use Rattle.string_rows.specs.Rows.{strings_bad, strings_told, strings_left_lem}
use Rattle.std.proofs.lemmas.Result.{err_from_is_err_and}
use Rattle.part_rows.proofs.strings.Goals as goal
use Rattle.part_rows.proofs.strings.Goals.{In_ok-a}
use Rattle.std.specs.Prelude.{Ok}

-- the area that was opened
led : (c : In_ok-a)
    → let args = c.args in
    opened_of args.how args.buffer.now args.n args.part ≡ Ok (c.in_ok-a.a, c.in_ok-a.e)
led c =
    let args = c.args in
    sym (handed w32 (λ (z : ℤ). opened_of args.how args.buffer.now args.n z) args.part c.ranges.part.sfits
    c.in_ok-a.ensures)

lies : (c : In_ok-a)
    → let args = c.args in
    Reached args.how args.buffer.now args.n args.part c.in_ok-a.a c.in_ok-a.e
lies c = reached _ _ _ _ _ _ (led c)

pub slice_bounds-f-end : goal.slice_bounds-f-end
slice_bounds-f-end c =
    sym (lies (goal.at.slice_bounds-f-end c).In_ok-a).known.size

pub is_high-high-requires : goal.is_high-high-requires
is_high-high-requires c =
    let r = lies (goal.at.is_high-high-requires c).In_ok-a in omega (arith, r.known.size, r.known.least)

pub string_end-t-requires : goal.string_end-t-requires
string_end-t-requires c =
    let r = lies (goal.at.string_end-t-requires c).In_ok-a in (omega (arith, r.known.size, r.known.least), r.good)

pub count-c-requires : goal.count-c-requires
count-c-requires c =
    let r = lies (goal.at.count-c-requires c).In_ok-a in (r.low, r.end)

pub fill-requires : goal.fill-requires
fill-requires c =
    let args = c.args in
    let r = lies (goal.at.fill-requires c).In_ok-a in
    let p = placed args.how (take args.n args.buffer.now) _ _ _ _ c.is_high-high.ensures c.string_end-t.ensures.result_value in
    (r.low, r.end, omega (arith, r.known.size, r.known.least), r.good, c.count-c.ensures ∙ ap length p)

pub returns-in_err-a : goal.returns-in_err-a
returns-in_err-a c =
    let args = c.args in let o = sym (handed w32 (λ (z : ℤ). opened_of args.how args.buffer.now args.n z) args.part c.ranges.part.sfits
    c.in_err-a.ensures) in let e = strings_bad args.how args.buffer.now args.n args.part args.row.now _ o in
    let p = err_from_is_err_and c.from_residual.result c.from_residual.ensures.1 in record { answer = rw (p.1, p.2) e.0; row = e.1 }

pub returns : goal.returns
returns c =
    let args = c.args in let p = placed args.how (take args.n args.buffer.now) _ _ _ _ c.is_high-high.ensures
    c.string_end-t.ensures.result_value in let s = c.count-c.ensures ∙ ap length p in record {
      answer = strings_told args.how args.buffer.now args.n args.part args.row.now _ _
          (led (goal.at.returns c).In_ok-a) _ s _ c.fill.ensures.answer;
      row = strings_left_lem args.how args.buffer.now args.n args.part args.row.now _ _
          (led (goal.at.returns c).In_ok-a) _ s _ c.fill.ensures.row;
    }
