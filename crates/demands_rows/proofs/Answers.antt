-- Theorems on what specs/Answers defines. They stand here, as a wrong definition there is to be refused and not to be unread.
-- Assumes nothing.
use Rattle.std.specs.Prelude.{◌≡◌, List, ◌↔◌, ℕ, take, Ok, Err}
use Rattle.refusal.specs.declared.Refusal.{Refusal}
use Rattle.layout.specs.Layout.{Trace}
use Rattle.append.specs.Grown.{new_length}
use Rattle.writer.specs.Answers.{add_answer}
use Rattle.refusal.specs.FirstRow.{NoneMet, Met}
use Rattle.demands_rows.specs.WriterRows.{add_rows}
use Rattle.demands_rows.proofs.WriterRows.{addition_answers_first}
use Rattle.demands_rows.specs.Answers.{writes}

-- Rules out an addition that refuses every trace.
pub addition_refuses_by_the_first : (xs : List ℕ) (n : ℕ) (x : Trace) (r : Refusal) → (add_answer xs n x ≡ Err r) ↔ Met (add_rows xs n x) r
addition_refuses_by_the_first xs n x = (writes (add_rows xs n x) (new_length (take n xs) n x) (add_answer xs n x) (addition_answers_first xs n x)).0

pub addition_accepts_where_none : (xs : List ℕ) (n : ℕ) (x : Trace) → (add_answer xs n x ≡ Ok (new_length (take n xs) n x)) ↔ NoneMet (add_rows xs n x)
addition_accepts_where_none xs n x = (writes (add_rows xs n x) (new_length (take n xs) n x) (add_answer xs n x) (addition_answers_first xs n x)).1
