-- Theorems on what specs/Decimals defines. They stand here, as a wrong definition there is to be refused and not to be unread.
-- Assumes nothing.
use Rattle.std.specs.Prelude.{◌≡◌, ◌↔◌, ℕ, length, Ok, Err}
use Rattle.refusal.specs.declared.Refusal.{Refusal}
use Rattle.refusal.specs.FirstRow.{NoneMet, Met}
use Rattle.decimal_parts.specs.declared.Decimal.{Decimal}
use Rattle.numeral.specs.Numeral.{numeral_of, numeral_answer}
use Rattle.demands_rows.specs.Answers.{writes}
use Rattle.demands_rows.specs.Decimals.{writing_answers_first, writing_rows}

pub writing_refuses_by_the_first : (room : ℕ) (n : Decimal) (r : Refusal) → (numeral_answer room n ≡ Err r) ↔ Met (writing_rows room n) r
writing_refuses_by_the_first room n = (writes (writing_rows room n) (length (numeral_of n)) (numeral_answer room n) (writing_answers_first room n)).0

pub writing_accepts_where_none : (room : ℕ) (n : Decimal) → (numeral_answer room n ≡ Ok (length (numeral_of n))) ↔ NoneMet (writing_rows room n)
writing_accepts_where_none room n = (writes (writing_rows room n) (length (numeral_of n)) (numeral_answer room n) (writing_answers_first room n)).1
