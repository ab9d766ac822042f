-- Room beforehand: the questions for the length that a start or an addition would have, without a buffer for it and, of
-- an addition, without the samples. Each answers by the first row met of the call's own list; where it answers a length,
-- that room is enough and less is not; where it refuses, so does the call.
-- Assumes nothing.
use Rattle.std.specs.Prelude.{◌≡◌, refl, Bool, true, false, not, ◌||◌, List, [], ◌∷◌, ◌⊎◌, ℕ, ◌≤◌, ◌<◌, length, take, ltb, eqb, Result, Ok, Err}
use Rattle.std.proofs.Common.{sym, ap, ◌∙◌, inl, inr, arith, lt-ltb, le-ltb, ltb-false}
use Rattle.word.specs.Put.{put}
use Rattle.word.specs.Round.{round4_up}
use Rattle.head.specs.Head.{maximum}
use Rattle.refusal.specs.declared.Refusal.{Refusal}
use Rattle.refusal.specs.declared.Rule.TheVariants.{EntryCode, NoRoom, StartValues}
use Rattle.refusal.specs.declared.Part.TheVariants.{File}
use Rattle.refusal.specs.Table.{refusal}
use Rattle.refusal.specs.Rows.{pick}
use Rattle.refusal.specs.Verdicts.{asked, accepted, Verdict}
use Rattle.refusal.specs.Writing.{refuse}
use Rattle.refusal.specs.FirstRow.{row, first_of, first_one, asked_row}
use Rattle.head_limits.specs.declared.Purpose.TheVariants.{Grow}
use Rattle.decode.specs.Sample.{integers_asked, bits_asked}
use Rattle.sheet.specs.Area.{measured_of}
use Rattle.image.specs.Image.{check_of}
use Rattle.file_length.specs.FileLength.{length_accepts}
use Rattle.layout.specs.Layout.{nul, line_feed, start_image, start_size, Trace, count}
use Rattle.layout.specs.LayoutLaws.{length_start_image}
use Rattle.start.specs.Start.{within, roomed, on_measured, bad_start, start_answer, start_needs, start_left}
use Rattle.start.specs.StartShown.{not_refused, from_measured, from_within, needed, within_roomed, start_left_lem}
use Rattle.start.proofs.StartShown.{start_roomed}
use Rattle.start.specs.StartWrites.{needs_bad, needs_sheet, needs_sized}
use Rattle.append.specs.Grown.{length_for}
use Rattle.opening.specs.Opening.{area_answer}
use Rattle.opening.specs.OpeningLaws.{placed}
use Rattle.opening.proofs.OpeningLaws.{opened}
use Rattle.entry.specs.Entry.{samples_verdict, code_verdict}
use Rattle.entry.specs.EntryLaws.{code_of_samples, code_refused}
use Rattle.writer.specs.Answers.{add_into, add_answer, add_needs}
use Rattle.writer.specs.Shown.{added}
use Rattle.demands_rows.specs.WriterRows.{sheet_rows, sheet_first, into_rows, into_answers_first}

-- ---- a start

-- 31, 25 to 27: the rows of a start but 30
abbrev pub start_size_rows : ℕ → ℕ → List ℕ → List Verdict
start_size_rows order slots sheet = row (bad_start order slots) StartValues File 0 ∷ sheet_rows nul line_feed sheet

-- Rules out a question that refuses what could be started, or answers another length than the layout's.
pub start_size_answers_first : (order slots : ℕ) (sheet : List ℕ)
    → start_needs order slots sheet ≡ asked Err (first_of (start_size_rows order slots sheet)) (Ok (start_size slots sheet))
start_size_answers_first order slots sheet =
    go (bad_start order slots) refl (measured_of nul line_feed sheet) refl
    ∙ sym (asked_row Err (bad_start order slots) StartValues File 0 (sheet_rows nul line_feed sheet) (Ok (start_size slots sheet))
    ∙ ap (λ (v : Result ℕ Refusal). pick (bad_start order slots) (refuse StartValues 0) v) (sym (sheet_first nul line_feed sheet (Ok (start_size slots sheet)))))
  where
    to_size : (end : ℕ) → start_needs order slots sheet ≡ Ok end → start_needs order slots sheet ≡ Ok (start_size slots sheet)
    to_size end e = e ∙ ap Ok (sym (needed order slots sheet end e).new)

    go : (w : Bool) → bad_start order slots ≡ w → (m : Result ℕ Refusal) → measured_of nul line_feed sheet ≡ m
        → start_needs order slots sheet ≡ pick (bad_start order slots) (refuse StartValues 0) (on_measured (measured_of nul line_feed sheet) (Ok (start_size slots sheet)))
    go true b m e = sym (needs_bad order slots sheet b) ∙ rw b
    go false b (Err r) e = sym (needs_sheet order slots sheet b r e) ∙ rw (b, e)
    go false b (Ok k) e = to_size _ (sym (needs_sized order slots sheet b k e)) ∙ rw (b, e)

-- Rules out a length that is not the file's: it is that of the image that a start writes.
pub start_size_is_the_images : (order slots : ℕ) (sheet : List ℕ) (end : ℕ) → start_needs order slots sheet ≡ Ok end → (high : Bool)
    → length (start_image high slots sheet) ≡ end
start_size_is_the_images order slots sheet end e high = length_start_image high slots sheet ∙ (needed order slots sheet end e).new

-- Rules out a start that refuses for another reason than its question did, or that asks for more room: in every buffer it
-- is the question, and then row 30.
pub start_is_size_then_room : (xs : List ℕ) (order slots : ℕ) (sheet : List ℕ)
    → start_answer xs order slots sheet ≡ roomed (length xs) (start_needs order slots sheet)
start_is_size_then_room = start_roomed

-- so that many bytes are enough, and fewer are not
pub start_room_is_enough : (xs : List ℕ) (order slots : ℕ) (sheet : List ℕ) (end : ℕ) → start_needs order slots sheet ≡ Ok end → end ≤ length xs
    → (start_answer xs order slots sheet ≡ Ok end) × (start_left xs order slots sheet ≡ put xs 0 (start_image (eqb order 1) slots sheet))
start_room_is_enough xs order slots sheet end e h =
    let a : start_answer xs order slots sheet ≡ Ok end = start_roomed xs order slots sheet ∙ rw (e, le-ltb (length xs) end h) in
    (a, start_left_lem xs order slots sheet end a)

pub less_is_no_room_for_a_start : (xs : List ℕ) (order slots : ℕ) (sheet : List ℕ) (end : ℕ) → start_needs order slots sheet ≡ Ok end → length xs < end
    → start_answer xs order slots sheet ≡ refuse NoRoom 0
less_is_no_room_for_a_start xs order slots sheet end e h = start_roomed xs order slots sheet ∙ rw (e, lt-ltb (length xs) end h)

-- ---- an addition

-- 28 of code and count
abbrev pub code_rows : ℕ → ℕ → List Verdict
code_rows code s = row (not (integers_asked code s || bits_asked code)) EntryCode File 0 ∷ []

-- the rows of an addition but 29; 30 where the new length is over the maximum
abbrev pub add_size_rows : List ℕ → ℕ → List ℕ → ℕ → ℕ → List Verdict
add_size_rows xs n sheet code s = into_rows maximum xs n sheet (length_for (take n xs) n sheet code s) (code_rows code s)

-- Rules out a question that skips a row, takes them in another order, asks for room that is there, or answers another
-- length.
pub add_size_answers_first : (xs : List ℕ) (n : ℕ) (sheet : List ℕ) (code s : ℕ)
    → add_needs xs n sheet code s ≡ asked Err (first_of (add_size_rows xs n sheet code s)) (Ok (length_for (take n xs) n sheet code s))
unfolding add_needs code_verdict
add_size_answers_first xs n sheet code s =
    into_answers_first maximum xs n sheet code s _ (code_rows code s) (first_one (row (not (integers_asked code s || bits_asked code)) EntryCode File 0))

-- of a trace that is at hand
abbrev pub needs_of : List ℕ → ℕ → Trace → Result ℕ Refusal
needs_of xs n x = add_needs xs n x.sheet x.code (count x.samples)

-- Rules out an addition that refuses for another reason than its question did, or that asks for more room: with samples
-- that rows 28 and 29 pass it is the question, and then row 30.
pub addition_is_size_then_room : (xs : List ℕ) (n : ℕ) (x : Trace) → samples_verdict x.code x.samples ≡ accepted
    → add_answer xs n x ≡ roomed (length xs) (needs_of xs n x)
unfolding add_answer add_needs add_into
addition_is_size_then_room xs n x h =
    rw (h, code_of_samples x.code x.samples h) (go (area_answer xs n x.sheet) (length_for (take n xs) n x.sheet x.code (count x.samples)))
  where
    go : (m : Result ℕ Refusal) (end : ℕ) → on_measured m (within (length xs) end) ≡ roomed (length xs) (on_measured m (within maximum end))
    go (Ok b) end = within_roomed (length xs) end
    go (Err r) end = refl

-- an addition that is made has the length that its question answers, and its buffer has that room
pub made_as_asked : (xs : List ℕ) (n : ℕ) (x : Trace) (end : ℕ) → add_answer xs n x ≡ Ok end → (needs_of xs n x ≡ Ok end) × (end ≤ length xs)
unfolding samples_verdict
made_as_asked xs n x end e =
    let a = added xs n x end e in
    let fit : samples_verdict x.code x.samples ≡ accepted = rw (a.kind, a.held) in
    let w = needs_of xs n x in
    go w (sym (addition_is_size_then_room xs n x fit) ∙ e)
  where
    go : (w : Result ℕ Refusal) → roomed (length xs) w ≡ Ok end → (w ≡ Ok end) × (end ≤ length xs)
    go (Err r) h = absurd (not_refused r end h)
    go (Ok k) h = full (ltb (length xs) k) refl h
      where
        full : (b : Bool) → ltb (length xs) k ≡ b → pick b (refuse NoRoom 0) (Ok k) ≡ Ok end → (◌≡◌ {A = Result ℕ Refusal} (Ok k) (Ok end)) × (end ≤ length xs)
        full true q h = absurd (not_refused _ end h)
        full false q h = let l = ltb-false (length xs) k q in let s : k ≡ end = cc in (h, omega arith)

-- a refusal of the rows before the samples, or of the code, is the addition's too
refused_alike : (x : Trace) (r : Refusal) (v : Verdict) → code_verdict x.code (count x.samples) ≡ v → (m near : Result ℕ Refusal) (big : Bool) (end : ℕ)
    → on_measured m (asked Err v (pick (big || big) (refuse NoRoom 0) (Ok end))) ≡ Err r
    → (on_measured m (asked Err (samples_verdict x.code x.samples) near) ≡ Err r) ⊎ (r ≡ refusal NoRoom File 0)
refused_alike x r v q (Err k) near big end h = inl h
refused_alike x r (Err k) q (Ok b) near big end h =
    let s : k ≡ r = cc in inl (rw (code_refused x.code x.samples k q) (ap Err s))
refused_alike x r (Ok _) q (Ok b) near true end h = let s : refusal NoRoom File 0 ≡ r = cc in inr (sym s)
refused_alike x r (Ok _) q (Ok b) near false end h = absurd (not_refused r end (sym h))

-- Rules out a host that is told no where the addition would say yes: what the question refuses the addition refuses, by
-- the same refusal, or, where no room would do, by 29 or 30.
pub size_refused_not_made : (xs : List ℕ) (n : ℕ) (x : Trace) (r : Refusal) → needs_of xs n x ≡ Err r
    → ((add_answer xs n x ≡ Err r) ⊎ (r ≡ refusal NoRoom File 0)) × ((end : ℕ) → add_answer xs n x ≡ Ok end → ⊥)
unfolding add_answer add_needs add_into
size_refused_not_made xs n x r e =
    let end : ℕ = length_for (take n xs) n x.sheet x.code (count x.samples) in (
      refused_alike x r (code_verdict x.code (count x.samples)) refl (area_answer xs n x.sheet) (within (length xs) end) (ltb maximum end) end e,
      λ to h. not_refused r to (sym e ∙ (made_as_asked xs n x to h).0),
    )

-- ---- another buffer: the file as it is, in as much room as was answered

-- the rows of file and sheet read the image alone
same_area : (xs ys : List ℕ) (n : ℕ) (sheet : List ℕ) (b : ℕ) → take n ys ≡ take n xs → n ≤ length ys → area_answer xs n sheet ≡ Ok b
    → area_answer ys n sheet ≡ area_answer xs n sheet
unfolding area_answer check_of
same_area xs ys n sheet b same long e =
    let o = opened xs n sheet b e in
    let p = (placed Grow xs n o.accepted).0 in
    rw (length_accepts (length ys) n p.0 p.1 long, length_accepts (length xs) n p.0 p.1 p.2, same)

-- Rules out a question whose answer holds for one buffer only: wherever the same file stands, with that much room the
-- trace is added.
pub room_is_enough : (xs ys : List ℕ) (n : ℕ) (x : Trace) (end : ℕ) → needs_of xs n x ≡ Ok end → samples_verdict x.code x.samples ≡ accepted
    → take n ys ≡ take n xs → end ≤ length ys → add_answer ys n x ≡ Ok end
unfolding add_needs add_into
room_is_enough xs ys n x end e fit same long =
    let m = from_measured (area_answer xs n x.sheet) _ end e in
    let far : n ≤ end = beyond (code_verdict x.code (count x.samples)) m.2 in
    let a = same_area xs ys n x.sheet m.0 same (omega arith) m.1 in
    let moved : needs_of ys n x ≡ needs_of xs n x = rw (a, same) in
    addition_is_size_then_room ys n x fit ∙ rw (moved ∙ e, le-ltb (length ys) end long)
  where
    beyond : (v : Verdict) → asked Err v (within maximum (length_for (take n xs) n x.sheet x.code (count x.samples))) ≡ Ok end → n ≤ end
    beyond (Err r) h = absurd (not_refused r end h)
    beyond (Ok _) h =
        let c = from_within maximum (length_for (take n xs) n x.sheet x.code (count x.samples)) end h in
        omega (arith, c.0, round4_up n)
