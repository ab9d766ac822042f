-- Theorems on what specs/StartShown defines. They stand here, as a wrong definition there is to be refused and not to be unread.
-- Assumes nothing.
use Rattle.std.specs.Prelude.{◌≡◌, refl, Bool, true, false, List, ℕ, length, Result, Ok, Err}
use Rattle.refusal.specs.declared.Rule.TheVariants.{StartValues}
use Rattle.refusal.specs.Rows.{pick}
use Rattle.head.specs.Head.{maximum}
use Rattle.sheet.specs.Area.{measured_of}
use Rattle.layout.specs.Layout.{nul, line_feed, start_size}
use Rattle.refusal.specs.Writing.{refuse}
use Rattle.start.specs.Start.{within, roomed, on_measured, bad_start, start_into, start_answer, start_needs}
use Rattle.start.specs.StartShown.{within_roomed}
use Rattle.refusal.specs.declared.Refusal.{Refusal}

-- so a start is the question for its room, and then row 30
pub start_roomed : (xs : List ℕ) (order slots : ℕ) (sheet : List ℕ) → start_answer xs order slots sheet ≡ roomed (length xs) (start_needs order slots sheet)
unfolding start_answer start_needs start_into
start_roomed xs order slots sheet = go (bad_start order slots) (measured_of nul line_feed sheet)
  where
    end : ℕ
    end = start_size slots sheet

    go : (w : Bool) (m : Result ℕ Refusal) → pick w (refuse StartValues 0) (on_measured m (within (length xs) end))
        ≡ roomed (length xs) (pick w (refuse StartValues 0) (on_measured m (within maximum end)))
    go true m = refl
    go false (Ok b) = within_roomed (length xs) end
    go false (Err r) = refl
