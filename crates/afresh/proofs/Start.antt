-- Theorems on what specs/Start defines. They stand here, as a wrong definition there is to be refused and not to be unread.
-- Assumes nothing.
use Rattle.std.specs.Prelude.{◌≡◌, refl, true, ◌⊎◌, ℕ, ◌*◌, ◌%◌, length, get_or, ltb, eqb, Ok, Err, false, not, List, []}
use Rattle.std.proofs.Common.{ap, ⊎_elim, arith, le-ltb, eq-eqb}
use Rattle.head_limits.specs.declared.Purpose.TheVariants.{Read, Grow}
use Rattle.text.specs.declared.Manner.TheVariants.{Strict}
use Rattle.refusal.specs.Verdicts.{and_then, accepted}
use Rattle.word.specs.Tests.{join_neither}
use Rattle.refusal.specs.declared.Rule.TheVariants.{TraceCount}
use Rattle.refusal.specs.declared.Part.TheVariants.{File}
use Rattle.refusal.specs.Table.{refusal}
use Rattle.sheet.specs.Area.{area_size}
use Rattle.head_limits.specs.HeadLimits.{known, bad_room}
use Rattle.head_words.specs.HeadWords.{revision_of, room_of, count_of}
use Rattle.head.specs.Head.{head_of}
use Rattle.head.specs.HeadLaws.{own_known, own_revision, own_room, own_count}
use Rattle.image.specs.Image.{image_of, check_of}
use Rattle.file_length.specs.FileLength.{length_accepts}
use Rattle.layout.specs.Layout.{nul, line_feed}
use Rattle.start.specs.Start.{start_answer, start_left}
use Rattle.start.specs.StartShown.{started}
use Rattle.afresh.specs.FileLaws.{size_low, file_fronted}
use Rattle.afresh.proofs.Step.{start_afresh}
use Rattle.afresh.proofs.Kept.{file_accepted}

no_file : (f : List ℕ) → ((get_or f 0 0 ≡ 85) × (get_or f 1 0 ≡ 58)) ⊎ ((get_or f 0 0 ≡ 58) × (get_or f 1 0 ≡ 85))
    → revision_of f ≡ 1 → bad_room (room_of f) ≡ false
    → count_of f ≡ 0 → image_of Strict Read f ≡ Err (refusal TraceCount File 6)
unfolding image_of head_of and_then
no_file f a b c d =
    let k : known f ≡ true = ⊎_elim (λ e. rw (e.0, e.1)) (λ e. rw (e.0, e.1)) a in
    rw (own_known f, own_revision f, own_room f, own_count f, k, b, c, d)

module _ (xs : List ℕ) (order slots : ℕ) (sheet : List ℕ) (e : ℕ) (to : start_answer xs order slots sheet ≡ Ok e) where
  pub start_accepted : check_of Strict Grow (start_left xs order slots sheet) e ≡ accepted
  start_accepted =
      let s = started xs order slots sheet e to in
      file_accepted Grow (eqb order 1) slots sheet [] (start_left xs order slots sheet) e (start_afresh xs order slots sheet e to) s.some
      (area_size nul line_feed sheet, s.sized) s.in_maximum (λ z. refl)

  pub start_refused : check_of Strict Read (start_left xs order slots sheet) e ≡ Err (refusal TraceCount File 6)
  unfolding check_of
  start_refused =
      let s = started xs order slots sheet e to in
      let is = start_afresh xs order slots sheet e to in
      let k = file_fronted (eqb order 1) slots sheet [] s.few is.slotted in
      let low = size_low slots sheet [] in
      let size = is.size in
      let some = s.some in
      let room : bad_room (4 * slots) ≡ false =
      join_neither (ltb (4 * slots) 4) (not (eqb (4 * slots % 4) 0)) (le-ltb (4 * slots) 4 (omega arith)) (ap not (eq-eqb (4 * slots % 4) 0 (omega arith))) in
      rw (length_accepts (length (start_left xs order slots sheet)) e (omega arith) s.in_maximum is.fits, is.image)
      (no_file _ k.first k.revision (rw k.room room) k.count)
