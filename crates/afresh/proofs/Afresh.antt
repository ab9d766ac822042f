-- Theorems on what specs/Afresh defines. They stand here, as a wrong definition there is to be refused and not to be unread.
-- Assumes nothing.
use Rattle.std.specs.Prelude.{◌≡◌, refl, Bool, get_or, take, Result, Ok, Err, false, List, [], ◌∷◌, ◌++◌, ℕ, ◌+◌, ◌*◌, ◌≤◌, ◌<◌, length, eqb}
use Rattle.std.proofs.Common.{sym, ap, ◌∙◌, arith, append_assoc}
use Rattle.head_limits.specs.declared.Purpose.{Purpose}
use Rattle.head_limits.specs.declared.Purpose.TheVariants.{Grow}
use Rattle.text.specs.declared.Manner.TheVariants.{Strict}
use Rattle.word.specs.Tests.{never}
use Rattle.sheet.specs.Lines.{sheet_lines}
use Rattle.sheet.specs.Area.{area_size, measured_of}
use Rattle.channel.proofs.CountLaws.{counts}
use Rattle.channel.specs.Channel.{channel_number}
use Rattle.channel_line.specs.ChannelLine.{value_of_line}
use Rattle.sheet_channel.specs.Meant.{keeps_sheet}
use Rattle.image.specs.Accepted.{with_of}
use Rattle.image.specs.Image.{check_of}
use Rattle.head_words.specs.HeadWords.{room_of, count_of}
use Rattle.head.specs.Head.{maximum}
use Rattle.terminators.specs.Terminators.{string_end, line_end}
use Rattle.layout.specs.Layout.{slots_most, nul, line_feed, start_size, Trace, trace_size}
use Rattle.start.specs.Start.{start_answer, start_left}
use Rattle.opening.specs.Opening.{wrong_channel}
use Rattle.writer.specs.Answers.{add_answer, add_left}
use Rattle.afresh.specs.FileOf.{sizes, file_of, file_size, Measures, has_channel, Good, Together, AllGood, Holds}
use Rattle.afresh.specs.FileLaws.{length_more, good_front, good_next, file_fronted, has_last}
use Rattle.start.specs.StartShown.{as_area, Started, started, starts}
use Rattle.writer.specs.Shown.{Added, added, adds}
use Rattle.afresh.specs.Step.{start_past}
use Rattle.afresh.proofs.Step.{start_afresh, new_end, add_afresh, add_past}
use Rattle.afresh.specs.Calls.{length_left, after, answers_of, accepted_of, answers_to, accepted_to, Grew}
use Rattle.afresh.proofs.Calls.{start_grows}
use Rattle.afresh.specs.Stands.{empty_trace}
use Rattle.afresh.proofs.Kept.{file_with, file_accepted}
use Rattle.afresh.specs.Afresh.{Writable, lengths}
use Rattle.refusal.specs.declared.Refusal.{Refusal}
use Rattle.refusal.specs.Verdicts.{accepted}

module _ (high : Bool) (slots : ℕ) (sheet : List ℕ) (some : 1 ≤ slots) (measures : Measures sheet) where
  -- a trace that goes on a good list meets no row 35: the first is free to choose, a later one is as the first
  not_wrong : (ts : List Trace) (x : Trace) → Good x → AllGood ts → slots ≤ slots_most → length ts ≤ slots → file_size slots sheet ts ≤ maximum
      → Together (ts ++ (x ∷ [])) → wrong_channel (file_of high slots sheet ts) x.sheet ≡ false
  unfolding wrong_channel
  not_wrong ts x g good few slotted most t =
      let f = file_fronted high slots sheet ts few slotted in
      rw f.count (keeps_sheet (eqb (length ts) 0) (with_of Strict (file_of high slots sheet ts)) x.sheet (
        go ts t (file_with high slots sheet ts few good slotted most),
        λ has. (let c = g.channel has in rw (counts (value_of_line (sheet_lines x.sheet) channel_number) c.0 c.1) c.1.least),
      ))
    where
      go : (l : List Trace) → Together (l ++ (x ∷ []))
          → (0 < length l → with_of Strict (file_of high slots sheet ts) ≡ has_channel (get_or l 0 empty_trace)) → eqb (length l) 0 ≡ false
          → has_channel x ≡ with_of Strict (file_of high slots sheet ts)
      go [] t k e = absurd (never (sym e))
      go (y ∷ l) t k e = has_last y l x t ∙ sym (k (omega arith))

  -- a trace that goes on a good list is added to the file of the list where there is a slot and room
  pub add_accepted : (ts : List Trace) (xs : List ℕ) (n : ℕ) (x : Trace) → Holds high slots sheet ts xs n → AllGood (ts ++ (x ∷ [])) → length ts < slots
      → n + trace_size nul line_feed x ≤ length xs → n + trace_size nul line_feed x ≤ maximum → add_answer xs n x ≡ Ok (n + trace_size nul line_feed x)
  add_accepted ts xs n x is all slot fits most =
      let g : Good x = good_next ts x [] all.0 in
      let f = file_fronted high slots sheet ts is.few is.slotted in
      let e = new_end high slots sheet ts xs n x is in
      let c : count_of (take n xs) ≡ length ts = ap count_of is.image ∙ f.count in
      let r : room_of (take n xs) ≡ 4 * slots = ap room_of is.image ∙ f.room in
      let g' = g.measures in
      let m : measured_of (string_end (take n xs)) (line_end (take n xs)) x.sheet ≡ Ok g'.0 = rw (is.image, f.strings, f.lines) g'.1 in
      let a : Added xs n x (n + trace_size nul line_feed x) =
      record {
        accepted = file_accepted Grow high slots sheet ts xs n is some measures (omega arith) (λ z. refl);
        slot = omega arith;
        sized = as_area (string_end (take n xs)) (line_end (take n xs)) x.sheet g'.0 m;
        channel = rw is.image (not_wrong ts x g is.good is.few is.slotted (omega (arith, is.size)) all.1);
        kind = g.kind;
        held = g.held;
        new = e;
        in_buffer = fits;
        in_maximum = most;
      } in
      adds xs n x (n + trace_size nul line_feed x) a

  -- and so is every list of them
  pub goes_on : (calls ts : List Trace) (xs : List ℕ) (n : ℕ) → Holds high slots sheet ts xs n → AllGood (ts ++ calls) → length ts + length calls ≤ slots
      → n + sizes calls ≤ length xs → n + sizes calls ≤ maximum → (answers_of xs n calls ≡ lengths n calls) × (accepted_of xs n calls ≡ calls)
  unfolding answers_of accepted_of lengths sizes
  goes_on [] ts xs n is g slotted fits most = (refl, refl)
  goes_on (x ∷ calls) ts xs n is g slotted fits most =
      let end : ℕ = n + trace_size nul line_feed x in
      let all : AllGood ((ts ++ (x ∷ [])) ++ calls) = rw (append_assoc ts (x ∷ []) calls) g in
      let to = add_accepted ts xs n x is (good_front (ts ++ (x ∷ [])) calls all) (omega arith) (omega arith) (omega arith) in
      let l = length_more ts x in
      let p = (add_past high slots sheet ts xs n x is end to).1 in
      let i = goes_on calls (ts ++ (x ∷ [])) (add_left xs n x) end (add_afresh high slots sheet ts xs n x is end to) all (omega arith) (omega arith)
      (omega arith) in
      (answers_to xs n x calls end to ∙ ap (λ (r : List (Result ℕ Refusal)). Ok end ∷ r) i.0, accepted_to xs n x calls end to ∙ ap (λ (r : List Trace). x ∷ r) i.1)

module _ (xs : List ℕ) (order slots : ℕ) (sheet : List ℕ) (ts : List Trace) (w : Writable xs order slots sheet ts) where
  abbrev begun : List ℕ
  begun = start_left xs order slots sheet

  can_start : Started (length xs) order slots sheet (start_size slots sheet)
  unfolding file_size
  can_start =
      let fits = w.fits in
      let most = w.most in
      record {
        either = w.either;
        some = w.some;
        few = w.few;
        sized = as_area nul line_feed sheet w.measures.0 w.measures.1;
        new = refl;
        in_buffer = omega arith;
        in_maximum = omega arith;
      }

  -- the start answers the length of its image
  pub start_accepted : start_answer xs order slots sheet ≡ Ok (start_size slots sheet)
  start_accepted = starts xs order slots sheet (start_size slots sheet) can_start

  on_from_start : (answers_of begun (start_size slots sheet) ts ≡ lengths (start_size slots sheet) ts) × (accepted_of begun (start_size slots sheet) ts ≡ ts)
  unfolding file_size
  on_from_start =
      let g = start_grows xs order slots sheet (start_size slots sheet) start_accepted [] in
      let s = (start_past xs order slots sheet (start_size slots sheet) start_accepted).1 in
      let fits = w.fits in
      let most = w.most in
      let slotted = w.slotted in
      goes_on (eqb order 1) slots sheet w.some w.measures ts [] begun (start_size slots sheet)
      (start_afresh xs order slots sheet (start_size slots sheet) start_accepted) w.good (omega arith) (omega arith) (omega arith)

  -- every addition answers where its trace ends: none is refused
  pub none_refused : answers_of begun (start_size slots sheet) ts ≡ lengths (start_size slots sheet) ts
  none_refused = on_from_start.0

  pub all_accepted : accepted_of begun (start_size slots sheet) ts ≡ ts
  all_accepted = on_from_start.1

  -- and the image at the end is the file that the list defines; past it the buffer is as it was
  pub written_afresh : Grew (eqb order 1) slots sheet ts xs (start_size slots sheet) (after begun (start_size slots sheet) ts)
  written_afresh = rw all_accepted at (start_grows xs order slots sheet (start_size slots sheet) start_accepted ts)

  pub image_afresh : (take (after begun (start_size slots sheet) ts).1 (after begun (start_size slots sheet) ts).0 ≡ file_of (eqb order 1) slots sheet ts)
      × ((after begun (start_size slots sheet) ts).1 ≡ file_size slots sheet ts)
  image_afresh = (written_afresh.holds.image, written_afresh.holds.size)

  -- a reader's check accepts it where there is a trace, an addition's check always
  pub afresh_accepted : (purpose : Purpose) → (length ts ≡ 0 → purpose ≡ Grow)
      → check_of Strict purpose (after begun (start_size slots sheet) ts).0 (after begun (start_size slots sheet) ts).1 ≡ accepted
  afresh_accepted purpose none =
      let size = written_afresh.holds.size in
      let most = w.most in
      file_accepted purpose (eqb order 1) slots sheet ts (after begun (start_size slots sheet) ts).0 (after begun (start_size slots sheet) ts).1
      written_afresh.holds
      w.some w.measures (omega arith) none

-- ---- and no other list is written: what calls have left, some of them refused, could have been written afresh from
-- the accepted ones alone

after_most : (calls : List Trace) (xs : List ℕ) (n : ℕ) → n ≤ maximum → (after xs n calls).1 ≤ maximum
unfolding after
after_most [] xs n h = h
after_most (x ∷ calls) xs n h = go (add_answer xs n x) refl (after_most calls)
  where
    go : (v : Result ℕ Refusal) → add_answer xs n x ≡ v → ((ys : List ℕ) (m : ℕ) → m ≤ maximum → (after ys m calls).1 ≤ maximum)
        → (after (add_left xs n x) (length_left (add_answer xs n x) n) calls).1 ≤ maximum
    go (Ok end) e more =
        rw e (more (add_left xs n x) end (added xs n x end e).in_maximum)
    go (Err r) e more = rw e (more (add_left xs n x) n h)

pub accepted_writable : (xs : List ℕ) (order slots : ℕ) (sheet : List ℕ) (e : ℕ) → start_answer xs order slots sheet ≡ Ok e → (calls : List Trace)
    → Writable xs order slots sheet (accepted_of (start_left xs order slots sheet) e calls)
accepted_writable xs order slots sheet e to calls =
    let s = started xs order slots sheet e to in
    let g = start_grows xs order slots sheet e to calls in
    let size = g.holds.size in
    let within = g.holds.fits in
    let kept = g.size in
    let most = after_most calls (start_left xs order slots sheet) e s.in_maximum in
    record {
      either = s.either;
      some = s.some;
      few = s.few;
      measures = (area_size nul line_feed sheet, s.sized);
      good = g.holds.good;
      slotted = g.holds.slotted;
      fits = omega arith;
      most = omega arith;
    }
