-- `quick_rows::strings` meets its contract. The strings of a trace that passed its rows stand in the image, and the walk
-- along them has counted them. Assumes nothing.
use Rattle.std.proofs.Common.{◌≡◌, sym, ap, ◌∙◌, ◌+◌, ◌≤◌, ◌<◌, arith, length, take}
use lib.IntN.{ℤ, nat_abs}
use lib.Dec.{T}
use lib.Signed.{non_neg}
use mir.Syntax.{w32}
use mir.Val.{to_z, of_z, Fits}
use Rattle.word.specs.Bytes.{each_bytes}
use Rattle.word.specs.Signed.{handed}
use Rattle.reader.specs.Questions.{trace_number}
use Rattle.one_trace.specs.Alone.{block_alone}
use Rattle.one_trace.specs.AloneLaws.{Alone}
use Rattle.quick.specs.QuickLaws.{shown, area_lies, number_plain, number_casts}
use Rattle.quick_rows.specs.Told.{strings_refused, strings_bad, as_many, strings_told, strings_left_lem, no_string}
use Rattle.std.proofs.lemmas.Result.{err_from_is_err_and}
use Rattle.quick_rows.proofs.strings.Goals as goal
use Rattle.quick_rows.proofs.strings.Goals.{In_ok-x}
use Rattle.std.specs.Prelude.{Ok}

-- the block that was answered
read : (c : In_ok-x)
    → let args = c.args in
    block_alone args.buffer.now args.n args.trace ≡ Ok c.in_ok-x.x
read c =
    let args = c.args in
    sym (handed w32 (λ (z : ℤ). block_alone args.buffer.now args.n z) args.trace c.ranges.trace.sfits c.in_ok-x.ensures)

-- what its rows have shown, and where its strings lie
alone : (c : In_ok-x)
    → let args = c.args in
    Alone args.buffer.now args.n args.trace
alone c = shown _ _ _ _ (read c)

lies : (c : In_ok-x)
    → let args = c.args in
    let x = c.in_ok-x.x in
    (x.p + 32 ≤ x.p + x.b) × (x.p + x.b ≤ length (take args.n args.buffer.now))
lies c = area_lies _ _ _ _ (read c)

-- its number, as the machine casts it
casts : (c : In_ok-x)
    → let z = c.args.trace in
    T (non_neg (to_z w32 (of_z w32 z))) × Fits w32 (nat_abs (to_z w32 (of_z w32 z))) × (nat_abs (to_z w32 (of_z w32 z)) < 65536)
casts c =
    number_casts (alone c) c.ranges.trace.sfits (each_bytes c.args.buffer.now (λ i. (c.shared_slice_known-1.given i).fits))

plain : (c : In_ok-x)
    → let z = c.args.trace in
    nat_abs (to_z w32 (of_z w32 z)) ≡ trace_number z
plain c = number_plain (alone c) c.ranges.trace.sfits

pub slice_bounds-f-end : goal.slice_bounds-f-end
slice_bounds-f-end c =
    sym (alone (goal.at.slice_bounds-f-end c).In_ok-x).size

pub overflow_add-a : goal.overflow_add-a
overflow_add-a c =
    omega (arith, (lies (goal.at.overflow_add-a c).In_ok-x).0, (lies (goal.at.overflow_add-a c).In_ok-x).1, (alone (goal.at.overflow_add-a c).In_ok-x).size)

pub overflow_add-e : goal.overflow_add-e
overflow_add-e c =
    omega (arith, (lies (goal.at.overflow_add-e c).In_ok-x).0, (lies (goal.at.overflow_add-e c).In_ok-x).1, (alone (goal.at.overflow_add-e c).In_ok-x).size)

pub overflow_cast-trace : goal.overflow_cast-trace
overflow_cast-trace c =
    let q = casts (goal.at.overflow_cast-trace c).In_ok-x in (q.0, q.1)

pub overflow_cast-trace-2 : goal.overflow_cast-trace-2
overflow_cast-trace-2 c =
    record { fits = (casts (goal.at.overflow_cast-trace-2 c).In_ok-x).2 }

pub between-requires : goal.between-requires
between-requires c =
    let s = alone (goal.at.between-requires c).In_ok-x in
    ((lies (goal.at.between-requires c).In_ok-x).0, (lies (goal.at.between-requires c).In_ok-x).1, omega (arith, s.size, s.least), s.head.strings, s.head.lines)

pub fill-requires : goal.fill-requires
fill-requires c =
    let s = alone (goal.at.fill-requires c).In_ok-x in (
      (lies (goal.at.fill-requires c).In_ok-x).0,
      (lies (goal.at.fill-requires c).In_ok-x).1,
      omega (arith, s.size, s.least),
      s.head.strings,
      as_many _ _ _ c.args.row.now _ (read (goal.at.fill-requires c).In_ok-x) _ (plain (goal.at.fill-requires c).In_ok-x) _
          (sym (ap Ok (sym c.in-Over.is) ∙ c.in_ok-c.ensures)),
    )

pub returns-in_err-x : goal.returns-in_err-x
returns-in_err-x c =
    let args = c.args in let e = strings_refused _ _ _ args.row.now _
    (sym (handed w32 (λ (z : ℤ). block_alone args.buffer.now args.n z) args.trace c.ranges.trace.sfits
    c.in_err-x.ensures)) in
    let p = err_from_is_err_and c.from_residual.result c.from_residual.ensures.1 in record { answer = rw (p.1, p.2) e.0; row = e.1 }

pub returns-in-Over : goal.returns-in-Over
returns-in-Over c =
    let row = c.args.row.now in let w = sym (ap Ok (sym c.in-Over.is) ∙ c.in_ok-c.ensures) in record {
      answer = strings_told _ _ _ row _ (read (goal.at.returns-in-Over c).In_ok-x) _
          (plain (goal.at.returns-in-Over c).In_ok-x) _ w _ c.fill.ensures.answer;
      row = strings_left_lem _ _ _ row _ (read (goal.at.returns-in-Over c).In_ok-x) _
          (plain (goal.at.returns-in-Over c).In_ok-x) _ w _ c.fill.ensures.row;
    }

pub returns-in_err-c : goal.returns-in_err-c
returns-in_err-c c =
    let e = strings_bad _ _ _ c.args.row.now _ (read (goal.at.returns-in_err-c c).In_ok-x) _ (plain (goal.at.returns-in_err-c c).In_ok-x) _
    (sym c.in_err-c.ensures) in
    let p = err_from_is_err_and c.from_residual-in_err-c.result c.from_residual-in_err-c.ensures.1 in record { answer = rw (p.1, p.2) e.0; row = e.1 }

pub returns-in-At : goal.returns-in-At
returns-in-At c =
    absurd (no_string _ _ _ c.args.row.now _ (read (goal.at.returns-in-At c).In_ok-x) _ (plain (goal.at.returns-in-At c).In_ok-x) _
    (sym (ap Ok (sym c.in-At.is) ∙ c.in_ok-c.ensures)))
