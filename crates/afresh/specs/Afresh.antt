-- Written afresh: every list of good traces that has its slots and its room is written, none of its calls refused, and
-- what is left is the file that the list defines.
-- Assumes nothing.
use Rattle.std.specs.Prelude.{Result, Ok, List, [], ◌∷◌, ℕ, ◌+◌, ◌≤◌, length}
use Rattle.head.specs.Head.{maximum}
use Rattle.layout.specs.Layout.{slots_most, nul, line_feed, Trace, trace_size}
use Rattle.start.specs.Start.{start_left}
use Rattle.afresh.specs.FileOf.{file_size, Measures, AllGood}
use Rattle.refusal.specs.declared.Refusal.{Refusal}

-- "the new length is answered; it is where the new trace's D bytes end": the answers to the calls for a list, where the
-- image ends at a place before them
unfoldable pub lengths : ℕ → List Trace → List (Result ℕ Refusal)
lengths at [] = []
lengths at (x ∷ ts) = Ok (at + trace_size nul line_feed x) ∷ lengths (at + trace_size nul line_feed x) ts

-- ---- from the start

-- the lists that can be written into a buffer: what rows 24 to 31 ask, said of the start's inputs and of the list at
-- once
pub record Writable (xs : List ℕ) (order slots : ℕ) (sheet : List ℕ) (ts : List Trace) : Type 0 where
  pub either : order ≤ 1
  pub some : 1 ≤ slots
  pub few : slots ≤ slots_most
  pub measures : Measures sheet
  pub good : AllGood ts
  pub slotted : length ts ≤ slots
  pub fits : file_size slots sheet ts ≤ length xs
  pub most : file_size slots sheet ts ≤ maximum

module _ (xs : List ℕ) (order slots : ℕ) (sheet : List ℕ) (ts : List Trace) (w : Writable xs order slots sheet ts) where
  abbrev begun : List ℕ
  begun = start_left xs order slots sheet
