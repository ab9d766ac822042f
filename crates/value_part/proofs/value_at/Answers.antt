-- `value_part::value_at` meets its contract. What was found lies in the buffer. Assumes nothing.
use Rattle.std.proofs.Common.{None, ◌∙◌, ap, ◌≡◌, Result, Ok, Option, Some, refl, arith, rules}
use Rattle.word.specs.Part.{part_none}
use Rattle.reader.specs.Reach.{held}
use Rattle.refusal.specs.declared.Refusal.{Refusal}
use Rattle.strings.specs.declared.Place.{Place}
use Rattle.value_part.proofs.value_at.Goals as goal
use Rattle.value_part.proofs.value_at.Goals.{In-Ok-Some, In-Ok-None}

-- what was found
there : (c : In-Ok-Some) → ◌≡◌ {A = Result (Option Place) Refusal} c.args.s (Ok (Some c.in-Ok-Some.p))
there c =
    let e : ◌≡◌ {A = Result (Option Place) Refusal} c.args.s (Ok c.in-Ok-Some.field-0) = c.in-Ok-Some.is in
    let k : ◌≡◌ {A = Option Place} c.in-Ok-Some.field-0 (Some c.in-Ok-Some.p) = rw e at c.in-Ok-Some.field-0-is in e ∙ ap Ok k

absent : (c : In-Ok-None) → ◌≡◌ {A = Result (Option Place) Refusal} c.args.s (Ok None)
absent c =
    let e : ◌≡◌ {A = Result (Option Place) Refusal} c.args.s (Ok c.in-Ok-None.field-0) = c.in-Ok-None.is in
    let k : ◌≡◌ {A = Option Place} c.in-Ok-None.field-0 None = rw e at c.in-Ok-None.field-0-is in e ∙ ap Ok k

pub slice_bounds-result-count : goal.slice_bounds-result-count
slice_bounds-result-count c =
    let b = held _ c.args.s _ (there (goal.at.slice_bounds-result-count c).In-Ok-Some) c.requires in
    omega (arith, b.0, b.1, b.2, b.3)

pub slice_bounds-result-start : goal.slice_bounds-result-start
slice_bounds-result-start c =
    let b = held _ c.args.s _ (there (goal.at.slice_bounds-result-start c).In-Ok-Some) c.requires in
    omega (arith, b.0, b.1, b.2, b.3)

pub slice_bounds-result-end : goal.slice_bounds-result-end
slice_bounds-result-end c =
    let b = held _ c.args.s _ (there (goal.at.slice_bounds-result-end c).In-Ok-Some) c.requires in
    omega (arith, b.0, b.1, b.2, b.3)

pub returns-in-Ok-Some : goal.returns-in-Ok-Some
returns-in-Ok-Some c =
    rw (there (goal.at.returns-in-Ok-Some c).In-Ok-Some) (search rules)

pub returns-in-Ok-None : goal.returns-in-Ok-None
returns-in-Ok-None c =
    rw (absent (goal.at.returns-in-Ok-None c).In-Ok-None) (record {
      result_value = search (rules, part_none);
      own = record { bytes = search (rules, part_none); block = refl; place = omega arith };
    })

pub returns-in-Err : goal.returns-in-Err
returns-in-Err c =
    rw c.in-Err.is (record {
      result_value = search (rules, part_none);
      own = record { bytes = search (rules, part_none); block = refl; place = omega arith };
    })
