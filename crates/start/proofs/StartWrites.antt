-- Theorems on what specs/StartWrites defines. They stand here, as a wrong definition there is to be refused and not to be unread.
-- Assumes nothing.
use Rattle.std.specs.Prelude.{◌≡◌, List, ℕ, ◌≤◌, ◌<◌, length, eqb, Result, Ok, Err}
use Rattle.std.proofs.Common.{sym, ◌∙◌}
use borrow.Author.Tests.{lt-ltb, le-ltb}
use Rattle.word.specs.Put.{put}
use Rattle.refusal.specs.declared.Refusal.{Refusal}
use Rattle.refusal.specs.declared.Rule.TheVariants.{NoRoom}
use Rattle.refusal.specs.Writing.{refuse}
use Rattle.layout.specs.Layout.{start_image}
use Rattle.start.specs.Start.{start_answer, start_needs, start_left}
use Rattle.start.specs.StartShown.{start_refused, start_left_lem}
use Rattle.start.proofs.StartShown.{start_roomed}

module _ (xs : List ℕ) (order slots : ℕ) (sheet : List ℕ) {w : Result ℕ Refusal} (e : w ≡ start_needs order slots sheet) where
  pub start_kept : {r : Refusal} → w ≡ Err r → (Err r ≡ start_answer xs order slots sheet) × (xs ≡ start_left xs order slots sheet)
  start_kept {r} h =
      let a : start_answer xs order slots sheet ≡ Err r = start_roomed xs order slots sheet ∙ rw (← e, h) in
      (sym a, sym (start_refused xs order slots sheet r a))

  pub start_full : {end : ℕ} → w ≡ Ok end → length xs < end
      → (refuse NoRoom 0 ≡ start_answer xs order slots sheet) × (xs ≡ start_left xs order slots sheet)
  start_full {end} h l =
      let a : start_answer xs order slots sheet ≡ refuse NoRoom 0 = start_roomed xs order slots sheet ∙ rw (← e, h, lt-ltb (length xs) end l) in
      (sym a, sym (start_refused xs order slots sheet _ a))

  pub start_put : {end : ℕ} {ys : List ℕ} → w ≡ Ok end → end ≤ length xs → ys ≡ put xs 0 (start_image (eqb order 1) slots sheet)
      → (Ok end ≡ start_answer xs order slots sheet) × (ys ≡ start_left xs order slots sheet)
  start_put {end} h l f =
      let a : start_answer xs order slots sheet ≡ Ok end = start_roomed xs order slots sheet ∙ rw (← e, h, le-ltb (length xs) end l) in
      (sym a, f ∙ sym (start_left_lem xs order slots sheet end a))
