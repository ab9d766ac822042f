-- Theorems on what specs/OpeningLaws defines. They stand here, as a wrong definition there is to be refused and not to be unread.
-- Assumes nothing.
use Rattle.std.specs.Prelude.{◌≡◌, refl, Bool, true, false, List, ℕ, ◌+◌, ◌*◌, take, Result, Ok, Err}
use Rattle.std.proofs.Common.{arith}
use borrow.Author.Tests.{ltb-false}
use Rattle.refusal.specs.declared.Refusal.{Refusal}
use Rattle.refusal.specs.declared.Rule.TheVariants.{NoSlot}
use Rattle.refusal.specs.declared.Part.TheVariants.{File}
use Rattle.refusal.specs.Table.{refusal}
use Rattle.refusal.specs.Rows.{pick}
use Rattle.refusal.specs.Verdicts.{Verdict, asked, accepted}
use Rattle.text.specs.declared.Manner.TheVariants.{Strict}
use Rattle.sheet.specs.Area.{measured_of}
use Rattle.head_limits.specs.declared.Purpose.TheVariants.{Grow}
use Rattle.head_words.specs.HeadWords.{room_of, count_of}
use Rattle.terminators.specs.Terminators.{string_end, line_end}
use Rattle.image.specs.Image.{check_of}
use Rattle.opening.specs.Opening.{no_slot, wrong_channel, with_row, taken_of, area_answer}
use Rattle.opening.specs.OpeningLaws.{Opened, placed}

-- ---- from an answer back through the rows

not_size : (r : Refusal) (b : ℕ) → Err r ≡ Ok b → ⊥
not_size r b e = let z : ◌≡◌ {A = ℕ} 0 1 = cc in omega arith

from_verdict : (v : Verdict) (m : Result ℕ Refusal) (b : ℕ) → asked Err v m ≡ Ok b → (v ≡ accepted) × (m ≡ Ok b)
from_verdict (Ok _) m b e = (refl, e)
from_verdict (Err r) m b e = absurd (not_size r b e)

from_slot : (w : Bool) (r : Refusal) (m : Result ℕ Refusal) (b : ℕ) → pick w (Err r) m ≡ Ok b → (w ≡ false) × (m ≡ Ok b)
from_slot true r m b e = absurd (not_size r b e)
from_slot false r m b e = (refl, e)

from_row : (w : Bool) (m : Result ℕ Refusal) (b : ℕ) → with_row w m ≡ Ok b → (w ≡ false) × (m ≡ Ok b)
from_row true (Ok a) b e = absurd (not_size _ b e)
from_row false (Ok a) b e = (refl, e)
from_row w (Err r) b e = absurd (not_size r b e)

pub opened : (xs : List ℕ) (n : ℕ) (sheet : List ℕ) (size : ℕ) → area_answer xs n sheet ≡ Ok size → Opened xs n sheet size
unfolding area_answer taken_of
opened xs n sheet size e =
    let f : List ℕ = take n xs in
    let v = from_verdict (check_of Strict Grow xs n) _ size e in
    let s = from_slot (no_slot (room_of f) (count_of f)) (refusal NoSlot File 0) (taken_of f sheet) size v.1 in
    let m = from_row (wrong_channel f sheet) (measured_of (string_end f) (line_end f) sheet) size s.1 in
    record {
      accepted = v.0;
      most = (placed Grow xs n v.0).0.1;
      slot = ltb-false (room_of f) (4 * count_of f + 4) s.0;
      measured = m.1;
      channel = m.0;
    }
