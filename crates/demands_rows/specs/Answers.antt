-- Demand 1: "every call ends with an answer for all bytes and all numbers given to it; input that meets rows of the
-- refusal table gets the first of them in its order, with its place; no other input is refused, and after a refusal no
-- byte or sample of the caller's buffers has changed." The rows of each call are lists (FileRows, QuestionRows,
-- WriterRows), and each answer is a value of its definition for all arguments, so there always is one.
-- Assumes nothing.
use Rattle.std.specs.Prelude.{◌≡◌, refl, List, ◌↔◌, ℕ, ℤ, length, Result, Ok, Err}
use Rattle.std.proofs.Common.{sym, ap, ◌∙◌}
use Rattle.head_limits.specs.declared.Purpose.{Purpose}
use Rattle.text.specs.declared.Manner.TheVariants.{Strict}
use Rattle.refusal.specs.Verdicts.{asked, accepted, Verdict}
use Rattle.refusal.specs.declared.Refusal.{Refusal}
use Rattle.image.specs.Image.{check_of}
use Rattle.reader.specs.Questions.{strings_answer, strings_left, integers_answer, bits_answer, integers_left, patterns_left, classes_left}
use Rattle.reader.specs.Answers.{integers_kept, bits_kept}
use Rattle.layout.specs.Layout.{start_size, Trace}
use Rattle.start.specs.Start.{start_answer, start_left}
use Rattle.writer.specs.Answers.{add_answer, add_left}
use Rattle.start.specs.StartShown.{not_refused, start_refused}
use Rattle.writer.specs.Shown.{add_refused}
use Rattle.refusal.specs.FirstRow.{NoneMet, Met, first_of, refused_by_the_first, accepted_where_none_is_met}
use Rattle.demands_rows.specs.FileRows.{check_rows, check_answers_first}
use Rattle.demands_rows.specs.QuestionRows.{strings_asked_rows, strings_answer_first, integers_asked_rows, bits_asked_rows, integers_answer_first, bits_answer_first}
use Rattle.demands_rows.specs.WriterRows.{start_rows, start_answers_first}

-- ---- "input that meets rows of the refusal table gets the first of them in its order, with its place; no other input
-- is refused"

-- Rules out a check that refuses what keeps the rules, or that accepts what breaks one.
pub check_refuses_by_the_first : (purpose : Purpose) (xs : List ℕ) (n : ℕ) (r : Refusal)
    → (check_of Strict purpose xs n ≡ Err r) ↔ Met (check_rows Strict purpose xs n) r
check_refuses_by_the_first purpose xs n r = rw (check_answers_first Strict purpose xs n) (refused_by_the_first (check_rows Strict purpose xs n) r)

pub check_accepts_where_none : (purpose : Purpose) (xs : List ℕ) (n : ℕ) → (check_of Strict purpose xs n ≡ accepted) ↔ NoneMet (check_rows Strict purpose xs n)
check_accepts_where_none purpose xs n = rw (check_answers_first Strict purpose xs n) (accepted_where_none_is_met (check_rows Strict purpose xs n))

-- a length is answered, or a refusal
to_passed : (v : Verdict) (end to : ℕ) → asked Err v (Ok end) ≡ Ok to → v ≡ accepted
to_passed (Ok _) end to e = refl
to_passed (Err r) end to e = absurd (not_refused r to e)

refused_met : (v : Verdict) (end : ℕ) (r : Refusal) → asked Err v (Ok end) ≡ Err r → v ≡ Err r
refused_met (Ok _) end r e = absurd (not_refused r end (sym e))
refused_met (Err q) end r e = let s : q ≡ r = cc in ap Err s

pub writes : (vs : List Verdict) (end : ℕ) (a : Result ℕ Refusal) → a ≡ asked Err (first_of vs) (Ok end)
    → ((r : Refusal) → (a ≡ Err r) ↔ Met vs r) × ((a ≡ Ok end) ↔ NoneMet vs)
writes vs end a e = (
  λ r. (
    λ h. (refused_by_the_first vs r).0 (refused_met (first_of vs) end r (sym e ∙ h)),
    λ m. e ∙ ap (λ (v : Verdict). asked Err v (Ok end)) ((refused_by_the_first vs r).1 m),
  ),
  (
    λ h. (accepted_where_none_is_met vs).0 (to_passed (first_of vs) end end (sym e ∙ h)),
    λ m. e ∙ ap (λ (v : Verdict). asked Err v (Ok end)) ((accepted_where_none_is_met vs).1 m),
  ),
)

-- Rules out a start that refuses every list.
pub start_refuses_by_the_first : (xs : List ℕ) (order slots : ℕ) (sheet : List ℕ) (r : Refusal)
    → (start_answer xs order slots sheet ≡ Err r) ↔ Met (start_rows xs order slots sheet) r
start_refuses_by_the_first xs order slots sheet =
    (writes (start_rows xs order slots sheet) (start_size slots sheet) (start_answer xs order slots sheet) (start_answers_first xs order slots sheet)).0

pub start_accepts_where_none : (xs : List ℕ) (order slots : ℕ) (sheet : List ℕ)
    → (start_answer xs order slots sheet ≡ Ok (start_size slots sheet)) ↔ NoneMet (start_rows xs order slots sheet)
start_accepts_where_none xs order slots sheet =
    (writes (start_rows xs order slots sheet) (start_size slots sheet) (start_answer xs order slots sheet) (start_answers_first xs order slots sheet)).1

-- Rules out a row of samples that is refused for another reason, or filled where it must not be.
pub strings_refused_by_the_first : (xs : List ℕ) (n : ℕ) (z : ℤ) (s : ℕ) (r : Refusal)
    → (strings_answer Strict xs n z s ≡ Err r) ↔ Met (strings_asked_rows Strict xs n z s) r
strings_refused_by_the_first xs n z s r = rw (strings_answer_first Strict xs n z s) (refused_by_the_first (strings_asked_rows Strict xs n z s) r)

pub strings_accepted_where_none : (xs : List ℕ) (n : ℕ) (z : ℤ) (s : ℕ)
    → (strings_answer Strict xs n z s ≡ accepted) ↔ NoneMet (strings_asked_rows Strict xs n z s)
strings_accepted_where_none xs n z s = rw (strings_answer_first Strict xs n z s) (accepted_where_none_is_met (strings_asked_rows Strict xs n z s))

pub integers_refused_by_the_first : (xs : List ℕ) (n : ℕ) (z : ℤ) (s : ℕ) (r : Refusal)
    → (integers_answer Strict xs n z s ≡ Err r) ↔ Met (integers_asked_rows Strict xs n z s) r
integers_refused_by_the_first xs n z s r = rw (integers_answer_first Strict xs n z s) (refused_by_the_first (integers_asked_rows Strict xs n z s) r)

pub integers_accepted_where_none : (xs : List ℕ) (n : ℕ) (z : ℤ) (s : ℕ)
    → (integers_answer Strict xs n z s ≡ accepted) ↔ NoneMet (integers_asked_rows Strict xs n z s)
integers_accepted_where_none xs n z s = rw (integers_answer_first Strict xs n z s) (accepted_where_none_is_met (integers_asked_rows Strict xs n z s))

pub bits_refused_by_the_first : (xs : List ℕ) (n : ℕ) (z : ℤ) (s c : ℕ) (r : Refusal)
    → (bits_answer Strict xs n z s c ≡ Err r) ↔ Met (bits_asked_rows Strict xs n z s c) r
bits_refused_by_the_first xs n z s c r = rw (bits_answer_first Strict xs n z s c) (refused_by_the_first (bits_asked_rows Strict xs n z s c) r)

pub bits_accepted_where_none : (xs : List ℕ) (n : ℕ) (z : ℤ) (s c : ℕ) → (bits_answer Strict xs n z s c ≡ accepted) ↔ NoneMet (bits_asked_rows Strict xs n z s c)
bits_accepted_where_none xs n z s c = rw (bits_answer_first Strict xs n z s c) (accepted_where_none_is_met (bits_asked_rows Strict xs n z s c))

-- ---- "after a refusal no byte or sample of the caller's buffers has changed". Check and questions on blocks, strings
-- and numbers are lent no memory that they may change. Rules out a writer that stores before its last row, and a reader
-- that fills a row in part.

pub refused_start_changes_nothing : (xs : List ℕ) (order slots : ℕ) (sheet : List ℕ) (r : Refusal) → start_answer xs order slots sheet ≡ Err r
    → start_left xs order slots sheet ≡ xs
refused_start_changes_nothing = start_refused

pub refused_addition_changes_nothing : (xs : List ℕ) (n : ℕ) (x : Trace) (r : Refusal) → add_answer xs n x ≡ Err r → add_left xs n x ≡ xs
refused_addition_changes_nothing = add_refused

pub refused_strings_change_nothing : (xs : List ℕ) (n : ℕ) (z : ℤ) (row : List ℕ) (r : Refusal) → strings_answer Strict xs n z (length row) ≡ Err r
    → strings_left Strict xs n z row ≡ row
unfolding strings_left
refused_strings_change_nothing xs n z row r e = rw e

pub refused_integers_change_nothing : (xs : List ℕ) (n : ℕ) (z : ℤ) (row : List ℤ) (r : Refusal) → integers_answer Strict xs n z (length row) ≡ Err r
    → integers_left Strict xs n z row ≡ row
refused_integers_change_nothing = integers_kept Strict

pub refused_bits_change_nothing : (xs : List ℕ) (n : ℕ) (z : ℤ) (row classes : List ℕ) (r : Refusal)
    → bits_answer Strict xs n z (length row) (length classes) ≡ Err r → (patterns_left Strict xs n z row classes ≡ row)
    × (classes_left Strict xs n z row classes ≡ classes)
refused_bits_change_nothing = bits_kept Strict
