-- The file of a list reads as the list: N, each trace's block, strings and samples, and the file's strings, in either
-- order.
-- Assumes nothing.
use Rattle.std.specs.Prelude.{◌≡◌, Bool, List, ℕ, ◌+◌, ◌*◌, ◌≤◌, ◌<◌, negsuc, length, get_or, take, Ok}
use Rattle.std.proofs.Common.{arith}
use Rattle.head_limits.specs.declared.Purpose.TheVariants.{Read}
use Rattle.text.specs.declared.Manner.TheVariants.{Strict}
use Rattle.word.specs.Part.{part}
use Rattle.strings.specs.Spelled.{Spells}
use Rattle.sheet.specs.Area.{sheet_strings}
use Rattle.area.specs.Spelling.{area_spells}
use Rattle.head_words.specs.HeadWords.{file_block_of, high_first, room_of}
use Rattle.head.specs.Head.{maximum}
use Rattle.terminators.specs.Terminators.{string_end, line_end}
use Rattle.image.specs.Image.{check_of}
use Rattle.image.specs.Keeps.{trace_at}
use Rattle.reader.specs.Questions.{file_answer}
use Rattle.reader.specs.Listed.{file_area}
use Rattle.layout.specs.Layout.{slots_most, nul, line_feed, Trace}
use Rattle.growth.specs.Answered.{AnswersBy, answered}
use Rattle.growth.specs.TraceReads.{Standing, ReadsAs, reads_as}
use Rattle.afresh.specs.FileOf.{file_of, file_size, Measures, EachGood, Holds}
use Rattle.afresh.specs.FileLaws.{size_none, file_fronted}
use Rattle.afresh.specs.Stands.{empty_trace}
use Rattle.afresh.proofs.Stands.{file_traces}
use Rattle.afresh.specs.Kept.{feed_ends}
use Rattle.afresh.proofs.Kept.{file_strings, file_accepted}
use Rattle.refusal.specs.Verdicts.{accepted}

-- trace k stands in the file of a list
file_standing : (high : Bool) (slots : ℕ) (sheet : List ℕ) (ts : List Trace) (k : ℕ) → slots ≤ slots_most → length ts ≤ slots → EachGood ts
    → file_size slots sheet ts ≤ maximum → k < length ts → Standing (file_of high slots sheet ts) k (file_size slots sheet (take k ts)) (get_or ts k empty_trace)
file_standing high slots sheet ts k few slotted good most low =
    let f = file_fronted high slots sheet ts few slotted in
    let t = file_traces high slots sheet ts slotted good most k low in
    record {
      low = rw f.count low;
      pointer = rw f.order t.pointer;
      stands = rw (f.order, f.strings, f.lines) t.here;
      size = t.good.measures.0;
      sized = rw (f.strings, f.lines) t.good.measures.1;
      ends = rw f.lines feed_ends;
      kind = t.good.kind;
      held = t.good.held;
    }

module _ {high : Bool} {slots : ℕ} {sheet : List ℕ} {ts : List Trace} {xs : List ℕ} {n : ℕ} (is : Holds high slots sheet ts xs n) (some : 1 ≤ slots)
    (measures : Measures sheet) (most : n ≤ maximum) where
  list_accepted : 0 < length ts → check_of Strict Read xs n ≡ accepted
  list_accepted l = file_accepted Read high slots sheet ts xs n is some measures most (λ z. absurd (omega arith))

  pub list_reads : (k : ℕ) → k < length ts → ReadsAs xs n k (file_size slots sheet (take k ts)) (get_or ts k empty_trace)
  list_reads k low =
      let s = is.size in
      reads_as (list_accepted (omega arith)) (rw is.image (file_standing high slots sheet ts k is.few is.slotted is.good.0 (omega arith) low))

  pub list_file_block : 0 < length ts → file_answer Strict xs n ≡ Ok (record { high = high; m = 4 * slots; n = length ts; strings = 1; lines = 1 })
  unfolding file_answer file_block_of
  list_file_block l =
      let f = file_fronted high slots sheet ts is.few is.slotted in
      rw (list_accepted l, is.image, f.order, f.room, f.count, f.ones.0, f.ones.1)

  file_spelled : 0 < length ts
      → Spells Strict (high_first (take n xs)) (string_end (take n xs)) (line_end (take n xs)) (sheet_strings line_feed sheet)
      (part (32 + room_of (take n xs)) (trace_at (take n xs) 0) (take n xs))
  file_spelled l =
      let f = file_fronted high slots sheet ts is.few is.slotted in
      let s = is.size in
      let t = file_traces high slots sheet ts is.slotted is.good.0 (omega arith) 0 l in
      rw (is.image, f.order, f.strings, f.lines, f.room, t.pointer, size_none slots sheet, file_strings high slots sheet ts is.slotted)
      (area_spells high nul line_feed sheet measures.0 feed_ends measures.1)

  pub list_file_strings : 0 < length ts → AnswersBy Strict xs n (negsuc 0) (sheet_strings line_feed sheet)
  list_file_strings l =
      let f : List ℕ = take n xs in
      answered Strict xs n (negsuc 0) (sheet_strings line_feed sheet) (list_accepted l)
      (record { a = 32 + room_of f; e = trace_at f 0; area = file_area f; spells = file_spelled l })
