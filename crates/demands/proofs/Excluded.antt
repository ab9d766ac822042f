-- Theorems on what specs/Excluded defines. They stand here, as a wrong definition there is to be refused and not to be unread.
-- Assumes nothing.
use Rattle.std.specs.Prelude.{◌≡◌, refl, List, [], ◌∷◌, ℕ, ◌*◌, ◌≤◌, ◌<◌, length, eqb, Ok}
use Rattle.std.proofs.Common.{sym, ap, ◌∙◌, inr, arith}
use Rattle.head_limits.specs.declared.Purpose.TheVariants.{Read}
use Rattle.text.specs.declared.Manner.TheVariants.{Strict}
use Rattle.sample.specs.Needed.{needed, room}
use Rattle.chars.specs.Runs.{run, same}
use Rattle.sheet_line.specs.SheetLine.{line_len, line_key_len}
use Rattle.sheet.specs.Lines.{sheet_lines_from, sheet_lines}
use Rattle.sheet.specs.Area.{joined, sheet_strings, text_size, area_size}
use Rattle.image.specs.Image.{check_of}
use Rattle.reader.specs.Questions.{file_answer}
use Rattle.layout.specs.Layout.{nul, line_feed, start_size, Trace, count, trace_size}
use Rattle.start.specs.Start.{start_answer, start_left}
use Rattle.afresh.specs.FileOf.{sizes, file_size}
use Rattle.afresh.specs.Calls.{answers_of}
use Rattle.afresh.specs.Afresh.{lengths}
use Rattle.afresh.proofs.Afresh.{start_accepted, none_refused, written_afresh, afresh_accepted}
use Rattle.afresh.specs.Worked.{units, shot, worked_sizes, worked_good, shot_without}
use Rattle.afresh.proofs.Worked.{worked_writable}
use Rattle.demands.specs.ListReads.{list_file_block}
use Rattle.demands.specs.GoodLists.{GoodList}
use Rattle.demands.proofs.GoodLists.{writable_is_good, good_is_writable}
use Rattle.demands.specs.Excluded.{buffer_of, length_of, traces_in}
use Rattle.refusal.specs.Verdicts.{accepted}

-- every list that can be written is a file that the reader takes, with as many traces as the list
pub not_all_files_refused : (xs : List ℕ) (order slots : ℕ) (sheet : List ℕ) (ts : List Trace) → GoodList xs order slots sheet ts → 0 < length ts
    → (check_of Strict Read (buffer_of xs order slots sheet ts) (length_of xs order slots sheet ts) ≡ accepted)
    × (file_answer Strict (buffer_of xs order slots sheet ts) (length_of xs order slots sheet ts)
    ≡ Ok (record { high = eqb order 1; m = 4 * slots; n = length ts; strings = 1; lines = 1 }))
not_all_files_refused xs order slots sheet ts g some =
    let w = good_is_writable g in
    let h = (written_afresh xs order slots sheet ts w).holds in
    let s = h.size in
    let m = w.most in (
      afresh_accepted xs order slots sheet ts w Read (λ z. absurd (omega arith)),
      list_file_block h w.some w.measures (omega arith) some,
    )

-- such lists are there: document 01's own file ("pointer 56, B 44, D 8, length 108"), and one with two slots and that
-- trace twice
two_sizes : file_size 2 units (shot ∷ shot ∷ []) ≡ 164
unfolding start_size area_size sheet_strings sheet_lines sheet_lines_from line_len line_key_len run joined same text_size room needed count file_size sizes
two_sizes = refl

two_good : (xs : List ℕ) → 164 ≤ length xs → GoodList xs 0 2 units (shot ∷ shot ∷ [])
two_good xs h =
    let s : file_size 2 units (shot ∷ shot ∷ []) ≡ 164 = two_sizes in
    writable_is_good (record {
      either = omega arith;
      some = omega arith;
      few = omega arith;
      measures = worked_good.0;
      good = ((worked_good.1.0.0, (worked_good.1.0.0, tt)), inr (shot_without, (shot_without, tt)));
      slotted = omega arith;
      fits = omega arith;
      most = omega arith;
    })

pub not_the_same_for_all : (xs : List ℕ) → 164 ≤ length xs
    → file_answer Strict (buffer_of xs 0 1 units (shot ∷ [])) (length_of xs 0 1 units (shot ∷ []))
    ≡ file_answer Strict (buffer_of xs 0 2 units (shot ∷ shot ∷ [])) (length_of xs 0 2 units (shot ∷ shot ∷ []))
    → ⊥
not_the_same_for_all xs h e =
    let a = (not_all_files_refused xs 0 1 units (shot ∷ []) (writable_is_good (worked_writable xs (omega arith))) (omega arith)).1 in
    let b = (not_all_files_refused xs 0 2 units (shot ∷ shot ∷ []) (two_good xs h) (omega arith)).1 in
    let n : ◌≡◌ {A = ℕ} 1 2 = ap traces_in (sym a ∙ e ∙ b) in
    omega arith

-- ---- "a start or an addition that refuses every list": none of the calls for a list that can be written is refused

pub no_good_list_refused : (xs : List ℕ) (order slots : ℕ) (sheet : List ℕ) (ts : List Trace) → GoodList xs order slots sheet ts
    → (start_answer xs order slots sheet ≡ Ok (start_size slots sheet))
    × (answers_of (start_left xs order slots sheet) (start_size slots sheet) ts ≡ lengths (start_size slots sheet) ts)
no_good_list_refused xs order slots sheet ts g = let w = good_is_writable g in
    (start_accepted xs order slots sheet ts w, none_refused xs order slots sheet ts w)

-- such a list is document 01's: the start answers 56, the addition 108, in every buffer that has room
pub a_list_is_written : (xs : List ℕ) → 108 ≤ length xs
    → (start_answer xs 0 1 units ≡ Ok 56) × (answers_of (start_left xs 0 1 units) 56 (shot ∷ []) ≡ Ok 108 ∷ [])
unfolding lengths
a_list_is_written xs h =
    let r = no_good_list_refused xs 0 1 units (shot ∷ []) (writable_is_good (worked_writable xs h)) in
    let s = worked_sizes.0 in
    let t : trace_size nul line_feed shot ≡ 52 = omega (arith, worked_sizes.1, worked_sizes.2) in
    (rw s at r.0, (rw (s, t) at r.1))
