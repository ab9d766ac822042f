-- When a trace is added: exactly where none of the rows of document 01 ("Adding: 1 to 17, then 24 .. 30") and of
-- document 02 (34, 35) is met. So no addition is refused that could be made, and the length that is answered is the
-- layout's.
-- Assumes nothing.
use Rattle.std.specs.Prelude.{◌≡◌, refl, true, false, List, ℕ, ◌+◌, ◌*◌, ◌≤◌, length, take, Result, Ok, Err, None}
use Rattle.std.proofs.Common.{le-ltb}
use Rattle.refusal.specs.Verdicts.{asked, accepted}
use Rattle.refusal.specs.declared.Refusal.{Refusal}
use Rattle.sheet.specs.Area.{area_size, measured_of}
use Rattle.head_words.specs.HeadWords.{room_of, count_of}
use Rattle.head.specs.Head.{maximum}
use Rattle.terminators.specs.Terminators.{string_end, line_end}
use Rattle.text.specs.declared.Manner.TheVariants.{Strict}
use Rattle.head_limits.specs.declared.Purpose.TheVariants.{Grow}
use Rattle.image.specs.Image.{check_of}
use Rattle.layout.specs.Layout.{Trace, fitting, unfit}
use Rattle.start.specs.Start.{within}
use Rattle.append.specs.Grown.{new_length, grown}
use Rattle.opening.specs.Opening.{wrong_channel, taken_of, area_answer}
use Rattle.opening.proofs.OpeningLaws.{opened}
use Rattle.entry.specs.Entry.{samples_verdict}
use Rattle.entry.specs.EntryLaws.{samples_fit}
use Rattle.writer.specs.Answers.{add_into, add_answer, add_left}
use Rattle.start.specs.StartShown.{not_refused, from_measured, from_within, to_within, as_area}
use Rattle.refusal.specs.Verdicts.{Verdict}

-- ---- from an answer back through the rows

from_samples : (v : Verdict) (more : Result ℕ Refusal) (end : ℕ) → asked Err v more ≡ Ok end → (v ≡ accepted) × (more ≡ Ok end)
from_samples (Ok _) more end e = (refl, e)
from_samples (Err r) more end e = absurd (not_refused r end e)

-- ---- adding

pub record Added (xs : List ℕ) (n : ℕ) (x : Trace) (end : ℕ) : Type 0 where
  pub accepted : check_of Strict Grow xs n ≡ accepted
  pub slot : 4 * count_of (take n xs) + 4 ≤ room_of (take n xs)
  pub sized : measured_of (string_end (take n xs)) (line_end (take n xs)) x.sheet
      ≡ Ok (area_size (string_end (take n xs)) (line_end (take n xs)) x.sheet)
  pub channel : wrong_channel (take n xs) x.sheet ≡ false
  pub kind : fitting x.code x.samples ≡ true
  pub held : unfit x.code x.samples ≡ None
  pub new : new_length (take n xs) n x ≡ end
  pub in_buffer : end ≤ length xs
  pub in_maximum : end ≤ maximum

pub added : (xs : List ℕ) (n : ℕ) (x : Trace) (end : ℕ) → add_answer xs n x ≡ Ok end → Added xs n x end
unfolding add_answer add_into new_length
added xs n x end e =
    let f : List ℕ = take n xs in
    let a = from_measured (area_answer xs n x.sheet) (asked Err (samples_verdict x.code x.samples) (within (length xs) (new_length f n x))) end e in
    let b = from_samples (samples_verdict x.code x.samples) (within (length xs) (new_length f n x)) end a.2 in
    let c = from_within (length xs) (new_length f n x) end b.1 in
    let o = opened xs n x.sheet a.0 a.1 in
    let s = samples_fit x.code x.samples b.0 in
    record {
      accepted = o.accepted;
      slot = o.slot;
      sized = as_area (string_end f) (line_end f) x.sheet a.0 o.measured;
      channel = o.channel;
      kind = s.0;
      held = s.1;
      new = c.0;
      in_buffer = c.1;
      in_maximum = c.2;
    }

pub adds : (xs : List ℕ) (n : ℕ) (x : Trace) (end : ℕ) → Added xs n x end → add_answer xs n x ≡ Ok end
unfolding add_answer add_into new_length area_answer taken_of samples_verdict
adds xs n x end h =
    let s : 4 * count_of (take n xs) + 4 ≤ room_of (take n xs) = h.slot in
    rw (h.accepted, le-ltb (room_of (take n xs)) (4 * count_of (take n xs) + 4) s, h.sized, h.channel, h.kind, h.held)
    (to_within (length xs) (new_length (take n xs) n x) end h.new h.in_buffer h.in_maximum)

-- the lent buffer at the end: grown where a length is answered, and "a refusal .. changes no caller's memory"
pub add_left_lem : (xs : List ℕ) (n : ℕ) (x : Trace) (end : ℕ) → add_answer xs n x ≡ Ok end → add_left xs n x ≡ grown xs n x
unfolding add_left
add_left_lem xs n x end e = rw e

pub add_refused : (xs : List ℕ) (n : ℕ) (x : Trace) (r : Refusal) → add_answer xs n x ≡ Err r → add_left xs n x ≡ xs
unfolding add_left
add_refused xs n x r e = rw e
