-- What each row of a start leaves, and what the question for its room has shown before the first store.
-- Assumes nothing.
use Rattle.std.specs.Prelude.{◌≡◌, true, false, ◌||◌, List, ℕ, ◌+◌, ◌-◌, ◌*◌, ◌≤◌, length, ltb, Result, Ok, Err}
use Rattle.std.proofs.Common.{sym, ◌∙◌, arith}
use borrow.Author.Tests.{le-ltb}
use Rattle.word.specs.Tests.{neither, at_most}
use Rattle.refusal.specs.declared.Refusal.{Refusal}
use Rattle.refusal.specs.declared.Rule.TheVariants.{StartValues}
use Rattle.head.specs.Head.{maximum}
use Rattle.sheet.specs.Area.{area_most, area_size, measured_of}
use Rattle.area.specs.Spelling.{measured_size}
use Rattle.sheet_texts.specs.Texts.{Writable}
use Rattle.area.specs.Writing.{writable}
use Rattle.refusal.specs.Writing.{refuse}
use Rattle.layout.specs.Layout.{nul, line_feed, slots_most, start_size}
use Rattle.start.specs.Start.{bad_start, start_into, start_needs}
use Rattle.start.specs.StartShown.{needed}

-- ---- the question for its room

module _ (order slots : ℕ) (sheet : List ℕ) where
  pub needs_bad : bad_start order slots ≡ true → refuse StartValues 0 ≡ start_needs order slots sheet
  unfolding start_needs start_into
  needs_bad h = rw h

  module _ (good : bad_start order slots ≡ false) where
    pub needs_sheet : (r : Refusal) → measured_of nul line_feed sheet ≡ Err r → Err r ≡ start_needs order slots sheet
    unfolding start_needs start_into
    needs_sheet r h = rw (good, h)

    pub few_slots : slots ≤ slots_most
    few_slots = at_most slots 1 slots_most (neither (ltb 1 order) (ltb slots 1 || ltb slots_most slots) good).1

    -- the sum stays far below what a word holds
    pub small_size : {size : ℕ} → measured_of nul line_feed sheet ≡ Ok size → 32 + 4 * slots + size ≤ maximum
    small_size {size} m =
        let k : size ≤ area_most = (measured_size nul line_feed sheet size m).2 in
        let l : slots ≤ slots_most = few_slots in
        omega arith

    -- so the maximum is never met
    pub needs_sized : (size : ℕ) → measured_of nul line_feed sheet ≡ Ok size → Ok (32 + 4 * slots + size) ≡ start_needs order slots sheet
    unfolding start_needs start_into start_size
    needs_sized size m =
        let a : area_size nul line_feed sheet ≡ size = (measured_size nul line_feed sheet size m).1 in
        rw (good, m, a, le-ltb maximum (32 + 4 * slots + size) (small_size m))

-- ---- the start

module _ (xs : List ℕ) (order slots : ℕ) (sheet : List ℕ) {w : Result ℕ Refusal} (e : w ≡ start_needs order slots sheet) where
  -- what has been shown before the first store
  pub start_writable : {end : ℕ} → w ≡ Ok end → end ≤ length xs
      → (slots ≤ slots_most) × (32 + 4 * slots ≤ length xs) × Writable nul line_feed sheet (length xs - (32 + 4 * slots))
  unfolding start_size
  start_writable {end} h l =
      let n = needed order slots sheet end (sym e ∙ h) in
      (n.few, omega (arith, n.new), writable nul line_feed sheet (area_size nul line_feed sheet) (length xs - (32 + 4 * slots)) n.sized (omega (arith, n.new)))
