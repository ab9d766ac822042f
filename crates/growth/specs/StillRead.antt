-- An addition changes no answer on what was there: every question on the file's strings, on an old trace, its strings
-- and its samples is answered as before (document 01, "Strings", "Numbers in values", "Samples").
-- Assumes nothing.
use Rattle.std.specs.Prelude.{◌≡◌, refl, List, [], ◌∷◌, ℕ, zero, suc, ◌+◌, ◌≤◌, ◌<◌, ℤ, pos, negsuc, length, get_or, take, drop}
use Rattle.std.proofs.Common.{sym, ap, ap₂, ◌∙◌, arith, lt-ltb, ne_eqb}
use Rattle.head_limits.specs.declared.Purpose.TheVariants.{Read, Grow}
use Rattle.text.specs.declared.Manner.TheVariants.{Strict}
use Rattle.word.specs.Part.{part}
use Rattle.word.specs.Bytes.{Bytes}
use Rattle.refusal.specs.declared.Refusal.{Refusal}
use Rattle.strings.specs.declared.Place.{Place}
use Rattle.chars.specs.Runs.{same}
use Rattle.strings.specs.Strings.{places_of, find_of, key_in, value_found}
use Rattle.strings.specs.Spelled.{Str, Spells, nth_str, strs_in}
use Rattle.strings.proofs.Paper.{spelled_places, spelled_value}
use Rattle.head_words.specs.HeadWords.{file_block_of, high_first, room_of, count_of}
use Rattle.terminators.specs.Terminators.{string_end, line_end}
use Rattle.block.specs.Block.{block_size_of, data_size_of, data_at, trace_block_of}
use Rattle.image.specs.Image.{check_of}
use Rattle.image.specs.Keeps.{trace_at, strings_end, Strings}
use Rattle.reader.specs.Listed.{found_value}
use Rattle.reader.specs.Answers.{data_at_lem, samples_at, patterns_at, classes_at}
use Rattle.block.specs.declared.TraceBlock.{TraceBlock}
use Rattle.part_number.specs.PartNumber.{whose_of}
use Rattle.reader.specs.Questions.{block_at, no_trace, area_named, area_asked, on_area, on_trace, file_answer}
use Rattle.reader.specs.Questions.{trace_answer, places_in, count_answer, there, nth_answer, find_answer, keyword_answer}
use Rattle.reader.specs.Questions.{value_there, value_answer, number_answer, double_answer, location_answer, data_of}
use Rattle.reader.specs.Questions.{integers_verdict, bits_verdict, integers_answer, bits_answer, samples_of, patterns_of}
use Rattle.reader.specs.Questions.{classes_of, trace_number, integers_left, patterns_left, classes_left}
use Rattle.layout.specs.Layout.{Trace}
use Rattle.append.specs.Grown.{grown}
use Rattle.opening.specs.OpeningLaws.{placed}
use Rattle.writer.specs.Shown.{Added}
use Rattle.growth.specs.Grows.{Grows, grown_grows}
use Rattle.growth.specs.Kept.{behind_room, longer, high_kept, room_kept, count_grown, size_kept, string_end_kept}
use Rattle.growth.specs.Kept.{trace_at_kept, part_kept, trace_kept}
use Rattle.growth.specs.StillKeeps.{strings_end_grown, file_spelled_kept}
use Rattle.growth.specs.Answered.{AnswersBy, answered}
use Rattle.refusal.specs.Verdicts.{accepted}

-- the number of a part names the file or a trace that was there, or nothing
abbrev pub Old : ℤ → ℕ → Type 0
Old (pos k) n = k < n
Old (negsuc k) n = Unit {0}

-- ---- an area with the same bytes in both images

pub record Readable (f g : List ℕ) (a e : ℕ) : Type 0 where
  pub low : a ≤ e
  pub fits : e ≤ length f
  pub longer : length f ≤ length g
  pub same : part a e g ≡ part a e f
  pub strings : Strings Strict f a e

module _ {f g : List ℕ} {x : Trace} (w : Grows f g x) where
  -- ---- an old trace: its block and its samples

  pub trace_block_kept : (k : ℕ) → k < count_of f → trace_block_of (high_first g) g k ≡ trace_block_of (high_first f) f k
  unfolding trace_block_of
  trace_block_kept k l = let s = trace_kept w k l in rw (s.block, s.size, s.count, s.code, s.at)

  pub data_kept : (k : ℕ) → k < count_of f → data_of g k ≡ data_of f k
  data_kept k l = data_at_lem g k ∙ (trace_kept w k l).samples ∙ sym (data_at_lem f k)

  pub samples_kept : (k : ℕ) → k < count_of f → samples_of g k ≡ samples_of f k
  samples_kept k l = let s = trace_kept w k l in rw (samples_at g k, samples_at f k, s.code, s.count, data_kept k l, high_kept w)

  pub patterns_kept : (k : ℕ) → k < count_of f → patterns_of g k ≡ patterns_of f k
  patterns_kept k l = let s = trace_kept w k l in rw (patterns_at g k, patterns_at f k, s.code, s.count, data_kept k l, high_kept w)

  pub classes_kept : (k : ℕ) → k < count_of f → classes_of g k ≡ classes_of f k
  classes_kept k l = let s = trace_kept w k l in rw (classes_at g k, classes_at f k, s.code, s.count, data_kept k l, high_kept w)

-- ---- the reader's answers, on the buffer before and after

-- an accepted file has a trace
pub file_some : (xs : List ℕ) (n : ℕ) → check_of Strict Read xs n ≡ accepted → 0 < count_of (take n xs)
file_some xs n e = go (count_of (take n xs)) (placed Read xs n e).1.some
  where
    go : (c : ℕ) → (c ≡ 0 → Read ≡ Grow) → 0 < c
    go zero h = let q = h refl in let z : ◌≡◌ {A = ℕ} 0 1 = cc in absurd (omega arith)
    go (suc c) h = omega arith
