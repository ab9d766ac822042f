-- Theorems on what specs/Room defines. They stand here, as a wrong definition there is to be refused and not to be unread.
-- Assumes nothing.
use Rattle.std.specs.Prelude.{◌≡◌, List, ◌↔◌, ℕ, take, Ok, Err}
use Rattle.refusal.specs.declared.Refusal.{Refusal}
use Rattle.refusal.specs.FirstRow.{NoneMet, Met}
use Rattle.layout.specs.Layout.{start_size}
use Rattle.start.specs.Start.{start_needs}
use Rattle.append.specs.Grown.{length_for}
use Rattle.writer.specs.Answers.{add_needs}
use Rattle.demands_rows.specs.Answers.{writes}
use Rattle.demands_room.specs.Room.{add_size_answers_first, add_size_rows, start_size_answers_first, start_size_rows}

pub start_size_refuses_by_the_first : (order slots : ℕ) (sheet : List ℕ) (r : Refusal)
    → (start_needs order slots sheet ≡ Err r) ↔ Met (start_size_rows order slots sheet) r
start_size_refuses_by_the_first order slots sheet =
    (writes (start_size_rows order slots sheet) (start_size slots sheet) (start_needs order slots sheet) (start_size_answers_first order slots sheet)).0

pub start_size_answers_where_none : (order slots : ℕ) (sheet : List ℕ)
    → (start_needs order slots sheet ≡ Ok (start_size slots sheet)) ↔ NoneMet (start_size_rows order slots sheet)
start_size_answers_where_none order slots sheet =
    (writes (start_size_rows order slots sheet) (start_size slots sheet) (start_needs order slots sheet) (start_size_answers_first order slots sheet)).1

pub add_size_refuses_by_the_first : (xs : List ℕ) (n : ℕ) (sheet : List ℕ) (code s : ℕ) (r : Refusal)
    → (add_needs xs n sheet code s ≡ Err r) ↔ Met (add_size_rows xs n sheet code s) r
add_size_refuses_by_the_first xs n sheet code s =
    (writes (add_size_rows xs n sheet code s) (length_for (take n xs) n sheet code s) (add_needs xs n sheet code s)
    (add_size_answers_first xs n sheet code s)).0

pub add_size_answers_where_none : (xs : List ℕ) (n : ℕ) (sheet : List ℕ) (code s : ℕ)
    → (add_needs xs n sheet code s ≡ Ok (length_for (take n xs) n sheet code s)) ↔ NoneMet (add_size_rows xs n sheet code s)
add_size_answers_where_none xs n sheet code s =
    (writes (add_size_rows xs n sheet code s) (length_for (take n xs) n sheet code s) (add_needs xs n sheet code s)
    (add_size_answers_first xs n sheet code s)).1
