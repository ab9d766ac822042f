-- Demand 3: "Start a file and add traces one at a time, each call given the bytes and the length that the calls before
-- it left: after each accepted addition the file is, byte for byte, the one that the whole list of accepted traces
-- defines when written afresh; on any accepted file, ours or another maker's, and on any image with N=0, an accepted
-- addition changes only the trace count, one free pointer and the bytes from the old end to the new end; the file's
-- strings and every earlier trace read as before and the new one reads last."
-- Assumes nothing.
use Rattle.std.specs.Prelude.{◌≡◌, refl, List, [], ◌∷◌, ◌++◌, ◌⊎◌, ℕ, ◌+◌, ◌-◌, ◌*◌, ◌≤◌, ◌<◌, ℤ, pos, negsuc, length, get_or, take, drop, replicate}
use Rattle.std.specs.Prelude.{eqb, Result, Ok, Err}
use Rattle.std.proofs.Common.{◌∙◌, arith, length-take-le}
use Rattle.head_limits.specs.declared.Purpose.{Purpose}
use Rattle.head_limits.specs.declared.Purpose.TheVariants.{Read}
use Rattle.text.specs.declared.Manner.TheVariants.{Strict}
use Rattle.word.specs.Bytes.{Bytes}
use Rattle.word.specs.Part.{part}
use Rattle.word.specs.Round.{round4}
use Rattle.word.specs.Word.{word_at}
use Rattle.strings.specs.Spelled.{Str, Spells}
use Rattle.head_words.specs.HeadWords.{high_first, room_of, count_of}
use Rattle.terminators.specs.Terminators.{string_end, line_end}
use Rattle.image.specs.Image.{check_of}
use Rattle.image.specs.Keeps.{strings_end}
use Rattle.reader.specs.Questions.{file_answer, trace_answer, count_answer, nth_answer, find_answer, keyword_answer}
use Rattle.reader.specs.Questions.{value_answer, number_answer, double_answer, location_answer, integers_answer, bits_answer}
use Rattle.reader.specs.Questions.{integers_left, patterns_left, classes_left}
use Rattle.layout.specs.Layout.{slots_most, Trace, trace_bytes}
use Rattle.start.specs.Start.{start_answer, start_left}
use Rattle.append.specs.Grown.{new_bytes}
use Rattle.writer.specs.Answers.{add_answer, add_left}
use Rattle.start.specs.StartShown.{started, start_left_lem}
use Rattle.writer.specs.Shown.{added, add_left_lem}
use Rattle.growth.specs.Answered.{AnswersBy}
use Rattle.growth.specs.Frame.{length_grown, grown_byte, grown_new, grown_count, grown_pointer}
use Rattle.growth.specs.Grows.{grown_grows}
use Rattle.growth.specs.Kept.{count_grown}
use Rattle.growth.proofs.StillKeeps.{grown_accepted}
use Rattle.growth.specs.StillRead as still
use Rattle.growth.proofs.StillRead as stays
use Rattle.growth.specs.AllBytes.{start_are_bytes}
use Rattle.growth.proofs.AllBytes.{grown_are_bytes}
use Rattle.afresh.specs.FileOf.{file_of, file_size, AllGood, Holds}
use Rattle.afresh.proofs.Step.{start_afresh, add_afresh}
use Rattle.afresh.specs.Calls.{after, accepted_of, after_to, after_refused}
use Rattle.afresh.proofs.Calls.{after_accepted, start_grows}
use Rattle.afresh.proofs.Calls.{calls_afresh}
use Rattle.refusal.specs.declared.Refusal.{Refusal}
use Rattle.refusal.specs.Verdicts.{accepted}

-- ---- "after each accepted addition the file is, byte for byte, the one that the whole list of accepted traces defines
-- when written afresh": `after` are the buffer and the length that the calls leave, `accepted_of` the traces whose call
-- answered a length. For every list of calls, so after each. Rules out an addition that writes the first trace and
-- later only raises N, and one that a refused call in between disturbs.

pub byte_for_byte : (xs : List ℕ) (order slots : ℕ) (sheet : List ℕ) (e : ℕ) → start_answer xs order slots sheet ≡ Ok e → (calls : List Trace)
    → (take (after (start_left xs order slots sheet) e calls).1 (after (start_left xs order slots sheet) e calls).0
    ≡ file_of (eqb order 1) slots sheet (accepted_of (start_left xs order slots sheet) e calls))
    × ((after (start_left xs order slots sheet) e calls).1 ≡ file_size slots sheet (accepted_of (start_left xs order slots sheet) e calls))
byte_for_byte = calls_afresh

-- past the image the buffer is as it was: "This and every other writer leave the bytes past what they write"
pub past_the_image_nothing_changes : (xs : List ℕ) (order slots : ℕ) (sheet : List ℕ) (e : ℕ) → start_answer xs order slots sheet ≡ Ok e → (calls : List Trace)
    → drop (after (start_left xs order slots sheet) e calls).1 (after (start_left xs order slots sheet) e calls).0
    ≡ drop (after (start_left xs order slots sheet) e calls).1 xs
past_the_image_nothing_changes xs order slots sheet e to calls = (start_grows xs order slots sheet e to calls).past

-- the image may also be copied into another buffer between two calls: `Made` has the images that calls hand on, each
-- call with a buffer of its own that holds the image at its start and has any bytes behind it. (A refused call leaves
-- its buffer as it was, so it hands on the image that it got.)
pub data Made (order slots : ℕ) (sheet : List ℕ) : List Trace → List ℕ → Type 0 where
  a_start : (xs : List ℕ) (e : ℕ) → start_answer xs order slots sheet ≡ Ok e → Made order slots sheet [] (take e (start_left xs order slots sheet))
  an_addition : {ts : List Trace} {f : List ℕ} → Made order slots sheet ts f → (xs : List ℕ) → length f ≤ length xs → take (length f) xs ≡ f
      → (x : Trace) (end : ℕ)
      → add_answer xs (length f) x ≡ Ok end → Made order slots sheet (ts ++ (x ∷ [])) (take end (add_left xs (length f) x))

record ImageOf (order slots : ℕ) (sheet : List ℕ) (ts : List Trace) (f : List ℕ) : Type 0 where
  pub image : f ≡ file_of (eqb order 1) slots sheet ts
  pub size : length f ≡ file_size slots sheet ts
  pub good : AllGood ts
  pub slotted : length ts ≤ slots
  pub few : slots ≤ slots_most

held_image : {order slots : ℕ} {sheet : List ℕ} {ts : List Trace} {xs : List ℕ} {n : ℕ} → Holds (eqb order 1) slots sheet ts xs n
    → ImageOf order slots sheet ts (take n xs)
held_image {xs = xs} {n = n} h =
    record { image = h.image; size = length-take-le n xs h.fits ∙ h.size; good = h.good; slotted = h.slotted; few = h.few }

made_image : {order slots : ℕ} {sheet : List ℕ} (ts : List Trace) (f : List ℕ) → Made order slots sheet ts f → ImageOf order slots sheet ts f
made_image {order} {slots} {sheet} ts f (a_start xs e to) = held_image {order = order} (start_afresh xs order slots sheet e to)
made_image {order} {slots} {sheet} us g (an_addition {ts} {f} m xs fits same x end to) =
    let i = made_image ts f m in
    let h : Holds (eqb order 1) slots sheet ts xs (length f) =
    record { image = same ∙ i.image; size = i.size; fits = fits; good = i.good; slotted = i.slotted; few = i.few } in
    held_image {order = order} (add_afresh (eqb order 1) slots sheet ts xs (length f) x h end to)

-- Rules out an addition that leans on what lies behind the image, or on the buffer of the call before.
pub byte_for_byte_in_any_buffers : (order slots : ℕ) (sheet : List ℕ) (ts : List Trace) (f : List ℕ) → Made order slots sheet ts f
    → f ≡ file_of (eqb order 1) slots sheet ts
byte_for_byte_in_any_buffers order slots sheet ts f m = (made_image ts f m).image

-- a refused call is as if it had not been made
pub refused_calls_leave_no_trace : (calls : List Trace) (xs : List ℕ) (n : ℕ) → after xs n (accepted_of xs n calls) ≡ after xs n calls
refused_calls_leave_no_trace = after_accepted

-- ---- "on any accepted file, ours or another maker's, and on any image with N=0, an accepted addition changes only the
-- trace count, one free pointer and the bytes from the old end to the new end": of the lent buffer, byte by byte. Rules
-- out an addition that moves the file's blocks, or writes past its end.

module _ (xs : List ℕ) (n : ℕ) (x : Trace) (end : ℕ) (to : add_answer xs n x ≡ Ok end) where
  pub only_these_bytes_change : (i : ℕ) → (i < 6) ⊎ (8 ≤ i) → (i < 32 + 4 * count_of (take n xs)) ⊎ (36 + 4 * count_of (take n xs) ≤ i) → (i < n) ⊎ (end ≤ i)
      → get_or (add_left xs n x) i 0 ≡ get_or xs i 0
  only_these_bytes_change i p q r = rw (add_left_lem xs n x end to) (grown_byte (added xs n x end to) i p q r)

  pub buffer_keeps_its_length : length (add_left xs n x) ≡ length xs
  buffer_keeps_its_length = rw (add_left_lem xs n x end to) (length_grown (added xs n x end to))

  -- and they change to N + 1, the new trace's place, and its bytes behind a gap of zeros
  pub these_bytes_become : Bytes xs
      → (word_at 2 (high_first (take n xs)) (add_left xs n x) 6 ≡ count_of (take n xs) + 1)
      × (word_at 4 (high_first (take n xs)) (add_left xs n x) (32 + 4 * count_of (take n xs)) ≡ round4 n)
      × (part n end (add_left xs n x) ≡ replicate (round4 n - n) 0 ++ trace_bytes (high_first (take n xs)) (string_end (take n xs)) (line_end (take n xs)) x)
  unfolding new_bytes
  these_bytes_become by =
      let h = added xs n x end to in
      rw (add_left_lem xs n x end to) (grown_count h by, grown_pointer h, grown_new h)

  -- the slot was free: it lies behind those in use, and within the pointer room
  pub pointer_was_free : 32 + 4 * count_of (take n xs) + 4 ≤ 32 + room_of (take n xs)
  pointer_was_free = let s = (added xs n x end to).slot in omega arith

  -- ---- "the file's strings and every earlier trace read as before": the reader accepts the file, and what it answered
  -- on a part it answers still. Rules out an addition that spoils what stood there.

  module _ (by : Bytes xs) where
    pub grown_file_is_accepted : (purpose : Purpose) → check_of Strict purpose (add_left xs n x) end ≡ accepted
    grown_file_is_accepted purpose = rw (add_left_lem xs n x end to) (grown_accepted purpose by (added xs n x end to))

    -- so the next call's laws hold of it as well
    pub grown_buffer_is_of_bytes : Bytes (add_left xs n x)
    grown_buffer_is_of_bytes = rw (add_left_lem xs n x end to) (grown_are_bytes by (added xs n x end to))

-- every question on part z is answered alike
pub record AnsweredAlike (ys : List ℕ) (m : ℕ) (xs : List ℕ) (n : ℕ) (z : ℤ) : Type 0 where
  pub block : trace_answer Strict ys m z ≡ trace_answer Strict xs n z
  pub many : count_answer Strict ys m z ≡ count_answer Strict xs n z
  pub nth : (i : ℕ) → nth_answer Strict ys m z i ≡ nth_answer Strict xs n z i
  pub found : (key : List ℕ) → find_answer Strict ys m z key ≡ find_answer Strict xs n z key
  pub keyword : (key : List ℕ) → keyword_answer Strict ys m z key ≡ keyword_answer Strict xs n z key
  pub value : (key : List ℕ) → value_answer Strict ys m z key ≡ value_answer Strict xs n z key
  pub number : (key : List ℕ) → number_answer Strict ys m z key ≡ number_answer Strict xs n z key
  pub double : (key : List ℕ) → double_answer Strict ys m z key ≡ double_answer Strict xs n z key
  pub location : (key : List ℕ) → location_answer Strict ys m z key ≡ location_answer Strict xs n z key
  pub integers : (s : ℕ) → integers_answer Strict ys m z s ≡ integers_answer Strict xs n z s
  pub integers_left_lem : (row : List ℤ) → integers_left Strict ys m z row ≡ integers_left Strict xs n z row
  pub bits : (s c : ℕ) → bits_answer Strict ys m z s c ≡ bits_answer Strict xs n z s c
  pub patterns_left_lem : (row classes : List ℕ) → patterns_left Strict ys m z row classes ≡ patterns_left Strict xs n z row classes
  pub classes_left_lem : (row classes : List ℕ) → classes_left Strict ys m z row classes ≡ classes_left Strict xs n z row classes

-- the file (-1) and the traces that it had
pub earlier_read_as_before : (xs : List ℕ) (n : ℕ) (x : Trace) (end : ℕ) → add_answer xs n x ≡ Ok end → Bytes xs → check_of Strict Read xs n ≡ accepted
    → (z : ℤ) → still.Old z (count_of (take n xs)) → AnsweredAlike (add_left xs n x) end xs n z
earlier_read_as_before xs n x end to by ok z old =
    let h = added xs n x end to in
    rw (add_left_lem xs n x end to) (record {
      block = stays.trace_answer_kept by h ok z old;
      many = stays.count_answer_kept by h ok z old;
      nth = λ i. stays.nth_answer_kept by h ok z i old;
      found = λ key. stays.find_answer_kept by h ok z key old;
      keyword = λ key. stays.keyword_answer_kept by h ok z key old;
      value = λ key. stays.value_answer_kept by h ok z key old;
      number = λ key. stays.number_answer_kept by h ok z key old;
      double = λ key. stays.double_answer_kept by h ok z key old;
      location = λ key. stays.location_answer_kept by h ok z key old;
      integers = λ s. stays.integers_answer_kept by h ok z s old;
      integers_left_lem = λ row. stays.integers_left_kept by h ok z row old;
      bits = λ s c. stays.bits_answer_kept by h ok z s c old;
      patterns_left_lem = λ row classes. stays.patterns_left_kept by h ok z row classes old;
      classes_left_lem = λ row classes. stays.classes_left_kept by h ok z row classes old;
    })

-- and any further calls, refused ones in between included, leave those answers too
alike_still : (xs : List ℕ) (n : ℕ) (z : ℤ) → AnsweredAlike xs n xs n z
alike_still xs n z =
    record {
      block = refl;
      many = refl;
      nth = λ i. refl;
      found = λ key. refl;
      keyword = λ key. refl;
      value = λ key. refl;
      number = λ key. refl;
      double = λ key. refl;
      location = λ key. refl;
      integers = λ s. refl;
      integers_left_lem = λ row. refl;
      bits = λ s c. refl;
      patterns_left_lem = λ row classes. refl;
      classes_left_lem = λ row classes. refl;
    }

alike_again : {zs : List ℕ} {p : ℕ} {ys : List ℕ} {m : ℕ} {xs : List ℕ} {n : ℕ} {z : ℤ} → AnsweredAlike zs p ys m z → AnsweredAlike ys m xs n z
    → AnsweredAlike zs p xs n z
alike_again a b =
    record {
      block = a.block ∙ b.block;
      many = a.many ∙ b.many;
      nth = λ i. a.nth i ∙ b.nth i;
      found = λ key. a.found key ∙ b.found key;
      keyword = λ key. a.keyword key ∙ b.keyword key;
      value = λ key. a.value key ∙ b.value key;
      number = λ key. a.number key ∙ b.number key;
      double = λ key. a.double key ∙ b.double key;
      location = λ key. a.location key ∙ b.location key;
      integers = λ s. a.integers s ∙ b.integers s;
      integers_left_lem = λ row. a.integers_left_lem row ∙ b.integers_left_lem row;
      bits = λ s c. a.bits s c ∙ b.bits s c;
      patterns_left_lem = λ row classes. a.patterns_left_lem row classes ∙ b.patterns_left_lem row classes;
      classes_left_lem = λ row classes. a.classes_left_lem row classes ∙ b.classes_left_lem row classes;
    }

old_still : (z : ℤ) (n m : ℕ) → n ≤ m → still.Old z n → still.Old z m
old_still (pos k) n m l o = omega arith
old_still (negsuc k) n m l o = tt

pub earlier_read_as_before_always : (calls : List Trace) (xs : List ℕ) (n : ℕ) → Bytes xs → check_of Strict Read xs n ≡ accepted → (z : ℤ)
    → still.Old z (count_of (take n xs)) → AnsweredAlike (after xs n calls).0 (after xs n calls).1 xs n z
unfolding after
earlier_read_as_before_always [] xs n by ok z old = alike_still xs n z
earlier_read_as_before_always (x ∷ calls) xs n by ok z old = go (add_answer xs n x) refl (earlier_read_as_before_always calls)
  where
    go : (w : Result ℕ Refusal) → add_answer xs n x ≡ w
        → ((ys : List ℕ) (m : ℕ) → Bytes ys → check_of Strict Read ys m ≡ accepted → (y : ℤ) → still.Old y (count_of (take m ys))
        → AnsweredAlike (after ys m calls).0 (after ys m calls).1 ys m y)
        → AnsweredAlike (after xs n (x ∷ calls)).0 (after xs n (x ∷ calls)).1 xs n z
    go (Ok end) h more =
        let c : count_of (take end (add_left xs n x)) ≡ count_of (take n xs) + 1 =
        rw (add_left_lem xs n x end h) (count_grown (grown_grows by (added xs n x end h))) in
        rw (after_to xs n x calls end h)
        (alike_again
        (more (add_left xs n x) end (grown_buffer_is_of_bytes xs n x end h by) (grown_file_is_accepted xs n x end h by Read) z
        (old_still z (count_of (take n xs)) (count_of (take end (add_left xs n x))) (omega arith) old))
        (earlier_read_as_before xs n x end h by ok z old))
    go (Err r) h more = rw (after_refused xs n x calls r h) (more xs n by ok z old)

-- the file's strings also where there was no trace, so that no reader took the image: they are those that its bytes
-- spelled to its end
pub file_strings_read_as_before : (xs : List ℕ) (n : ℕ) (x : Trace) (end : ℕ) (ss : List Str) → add_answer xs n x ≡ Ok end → Bytes xs
    → Spells Strict (high_first (take n xs)) (string_end (take n xs)) (line_end (take n xs)) ss
    (part (32 + room_of (take n xs)) (strings_end (take n xs)) (take n xs))
    → AnswersBy Strict (add_left xs n x) end (negsuc 0) ss
file_strings_read_as_before xs n x end ss to by s = rw (add_left_lem xs n x end to) (stays.strings_answers_kept by (added xs n x end to) s)

-- ---- "and the new one reads last": there is one trace more, and the last, trace N, reads as given (Reading
-- `new_trace_reads_back`). Rules out an addition that puts it elsewhere in the order.

pub one_trace_more : (xs : List ℕ) (n : ℕ) (x : Trace) (end : ℕ) → add_answer xs n x ≡ Ok end → Bytes xs
    → file_answer Strict (add_left xs n x) end
    ≡ Ok (record {
      high = high_first (take n xs);
      m = room_of (take n xs);
      n = count_of (take n xs) + 1;
      strings = get_or (take n xs) 8 0;
      lines = get_or (take n xs) 11 0;
    })
one_trace_more xs n x end to by = rw (add_left_lem xs n x end to) (stays.file_answer_grown by (added xs n x end to))

-- a started buffer is one of bytes too, so that all this holds from the start on
pub started_buffer_is_of_bytes : (xs : List ℕ) (order slots : ℕ) (sheet : List ℕ) (e : ℕ) → start_answer xs order slots sheet ≡ Ok e → Bytes xs
    → Bytes (start_left xs order slots sheet)
started_buffer_is_of_bytes xs order slots sheet e to by = rw (start_left_lem xs order slots sheet e to) (start_are_bytes xs by (started xs order slots sheet e to))
