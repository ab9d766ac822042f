-- A start gives the file of no traces; an addition to the file of a list gives the file of the list with that trace at
-- its end (document 01, "What we write").
-- Assumes nothing.
use Rattle.std.specs.Prelude.{◌≡◌, List, ℕ, length, drop, eqb, Ok}
use Rattle.std.proofs.Common.{◌∙◌, arith}
use Rattle.word.specs.Put.{length_put, drop_put_after}
use Rattle.layout.specs.Layout.{start_image}
use Rattle.start.specs.Start.{start_answer, start_left}
use Rattle.layout.specs.LayoutLaws.{length_start_image}
use Rattle.start.specs.StartShown.{started, start_left_lem}

-- ---- the start

module _ (xs : List ℕ) (order slots : ℕ) (sheet : List ℕ) (e : ℕ) (to : start_answer xs order slots sheet ≡ Ok e) where
  pub length_start : length (start_image (eqb order 1) slots sheet) ≡ e
  length_start = length_start_image (eqb order 1) slots sheet ∙ (started xs order slots sheet e to).new

  -- "This and every other writer leave the bytes past what they write"
  pub start_past : (drop e (start_left xs order slots sheet) ≡ drop e xs) × (length (start_left xs order slots sheet) ≡ length xs)
  start_past =
      let l = length_start in
      rw (start_left_lem xs order slots sheet e to)
      (drop_put_after e (start_image (eqb order 1) slots sheet) xs 0 (omega arith), length_put xs 0 (start_image (eqb order 1) slots sheet))
