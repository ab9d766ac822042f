-- When a file is started: exactly where none of the rows of document 01 ("Starting: 31, 25, 26, 27, 30") is met. So no
-- start is refused that could be made, and the length that is answered is the layout's. The room that it needs is that
-- length, and a start is the question for it and then row 30.
-- Assumes nothing.
use Rattle.std.specs.Prelude.{◌≡◌, refl, Bool, true, false, ◌||◌, List, ℕ, ◌≤◌, length, ltb, eqb, Result, Ok, Err}
use Rattle.std.proofs.Common.{sym, ap, ◌∙◌, arith, le-ltb, ltb-false}
use Rattle.word.specs.Tests.{neither, join_neither}
use Rattle.word.specs.Put.{put}
use Rattle.refusal.specs.declared.Refusal.{Refusal}
use Rattle.refusal.specs.declared.Rule.TheVariants.{NoRoom, StartValues}
use Rattle.refusal.specs.declared.Part.TheVariants.{File}
use Rattle.refusal.specs.Table.{refusal}
use Rattle.refusal.specs.Rows.{pick}
use Rattle.head.specs.Head.{maximum}
use Rattle.sheet.specs.Area.{area_size, measured_of}
use Rattle.area.specs.Spelling.{measured_size}
use Rattle.layout.specs.Layout.{nul, line_feed, slots_most, start_image, start_size}
use Rattle.refusal.specs.Writing.{refuse}
use Rattle.start.specs.Start.{within, roomed, on_measured, bad_start, start_into, start_answer, start_needs, start_left}

-- ---- from an answer back through the rows

pub not_refused : (r : Refusal) (end : ℕ) → Err r ≡ Ok end → ⊥
not_refused r end e = let z : ◌≡◌ {A = ℕ} 0 1 = cc in omega arith

pub from_measured : (m : Result ℕ Refusal) (more : Result ℕ Refusal) (end : ℕ) → on_measured m more ≡ Ok end → (b : ℕ) × (m ≡ Ok b) × (more ≡ Ok end)
from_measured (Ok b) more end e = (b, refl, e)
from_measured (Err r) more end e = absurd (not_refused r end e)

pub from_row : (w : Bool) (r : Refusal) (more : Result ℕ Refusal) (end : ℕ) → pick w (Err r) more ≡ Ok end → (w ≡ false) × (more ≡ Ok end)
from_row true r more end e = absurd (not_refused r end e)
from_row false r more end e = (refl, e)

-- 30: the new length is the answer, and within the buffer and the maximum
pub from_within : (size new end : ℕ) → within size new ≡ Ok end → (new ≡ end) × (end ≤ size) × (end ≤ maximum)
from_within size new end e =
    let a = from_row (ltb size new || ltb maximum new) (refusal NoRoom File 0) (Ok new) end e in
    let b = neither (ltb size new) (ltb maximum new) a.0 in
    let c = ltb-false size new b.0 in
    let d = ltb-false maximum new b.1 in
    let q = a.1 in
    let s : new ≡ end = cc in
    (s, omega arith, omega arith)

pub to_within : (size new end : ℕ) → new ≡ end → end ≤ size → end ≤ maximum → within size new ≡ Ok end
to_within size new end e l m = rw (e, join_neither (ltb size end) (ltb maximum end) (le-ltb size end l) (le-ltb maximum end m))

-- a size that is answered is the area's
pub as_area : (t u s : List ℕ) (b : ℕ) → measured_of t u s ≡ Ok b → measured_of t u s ≡ Ok (area_size t u s)
as_area t u s b e = e ∙ ap Ok (sym (measured_size t u s b e).1)

-- ---- starting

pub record Started (space order slots : ℕ) (sheet : List ℕ) (end : ℕ) : Type 0 where
  pub either : order ≤ 1
  pub some : 1 ≤ slots
  pub few : slots ≤ slots_most
  pub sized : measured_of nul line_feed sheet ≡ Ok (area_size nul line_feed sheet)
  pub new : start_size slots sheet ≡ end
  pub in_buffer : end ≤ space
  pub in_maximum : end ≤ maximum

pub started_into : (space order slots : ℕ) (sheet : List ℕ) (end : ℕ) → start_into space order slots sheet ≡ Ok end → Started space order slots sheet end
unfolding start_into
started_into space order slots sheet end e =
    let a = from_row (bad_start order slots) (refusal StartValues File 0) _ end e in
    let b = from_measured (measured_of nul line_feed sheet) (within space (start_size slots sheet)) end a.1 in
    let c = from_within space (start_size slots sheet) end b.2 in
    let d = neither (ltb 1 order) (ltb slots 1 || ltb slots_most slots) a.0 in
    let g = neither (ltb slots 1) (ltb slots_most slots) d.1 in
    record {
      either = ltb-false 1 order d.0;
      some = ltb-false slots 1 g.0;
      few = ltb-false slots_most slots g.1;
      sized = as_area nul line_feed sheet b.0 b.1;
      new = c.0;
      in_buffer = c.1;
      in_maximum = c.2;
    }

pub started : (xs : List ℕ) (order slots : ℕ) (sheet : List ℕ) (end : ℕ) → start_answer xs order slots sheet ≡ Ok end → Started (length xs) order slots sheet end
unfolding start_answer
started xs = started_into (length xs)

pub needed : (order slots : ℕ) (sheet : List ℕ) (end : ℕ) → start_needs order slots sheet ≡ Ok end → Started maximum order slots sheet end
unfolding start_needs
needed = started_into maximum

pub starts : (xs : List ℕ) (order slots : ℕ) (sheet : List ℕ) (end : ℕ) → Started (length xs) order slots sheet end → start_answer xs order slots sheet ≡ Ok end
unfolding start_answer start_into
starts xs order slots sheet end h =
    rw (le-ltb 1 order h.either, le-ltb slots 1 h.some, le-ltb slots_most slots h.few, h.sized)
    (to_within (length xs) (start_size slots sheet) end h.new h.in_buffer h.in_maximum)

-- ---- row 30 by itself

-- a length within the maximum first, and within the room behind it
pub within_roomed : (space end : ℕ) → within space end ≡ roomed space (within maximum end)
within_roomed space end = go (ltb space end) (ltb maximum end) refl
  where
    go : (a b : Bool) → a ≡ ltb space end → pick (a || b) (refuse NoRoom 0) (Ok end) ≡ roomed space (pick (b || b) (refuse NoRoom 0) (Ok end))
    go true true e = refl
    go false true e = refl
    go true false e = rw (← e)
    go false false e = rw (← e)

pub start_left_lem : (xs : List ℕ) (order slots : ℕ) (sheet : List ℕ) (end : ℕ) → start_answer xs order slots sheet ≡ Ok end
    → start_left xs order slots sheet ≡ put xs 0 (start_image (eqb order 1) slots sheet)
unfolding start_left
start_left_lem xs order slots sheet end e = rw e

pub start_refused : (xs : List ℕ) (order slots : ℕ) (sheet : List ℕ) (r : Refusal) → start_answer xs order slots sheet ≡ Err r
    → start_left xs order slots sheet ≡ xs
unfolding start_left
start_refused xs order slots sheet r e = rw e
