-- A trace that stands in an accepted file reads as what was given: its block, the strings of its sheet, its samples
-- (document 01, "Samples": "So the value read differs by less than 2 to the exponent, and by nothing up to 32,767"
-- under code 3, and nothing differs under the others).
-- Assumes nothing.
use Rattle.std.specs.Prelude.{◌≡◌, refl, Bool, true, List, [], map, ℕ, zero, suc, ◌+◌, ◌%◌, ◌<◌, ℤ, pos, length, get_or, take, Ok, None}
use Rattle.std.proofs.Common.{sym, ap, ◌∙◌, arith, eqb-true}
use Rattle.std.specs.Int.Signed.{mag}
use Rattle.head_limits.specs.declared.Purpose.TheVariants.{Read}
use Rattle.text.specs.declared.Manner.TheVariants.{Strict}
use Rattle.word.specs.Tests.{never}
use Rattle.word.specs.Part.{part}
use Rattle.strings.specs.Spelled.{Spells}
use Rattle.sample.specs.Needed.{by_code, width}
use Rattle.sample.specs.Run.{values_from, run_map, run_of}
use Rattle.decode.specs.Sample.{sample_of, pattern_of, class_of, integers_asked, bits_asked}
use Rattle.fit.specs.Unfit.{unfit_integers, unfit_patterns}
use Rattle.encode.specs.Write.{integers_data, bits_data}
use Rattle.encode.specs.Back.{reach, fit_reach, integers_back, fit_32, bits_back}
use Rattle.encode.specs.Cut.{cut, floats_back}
use Rattle.sheet.specs.Area.{sheet_strings, measured_of}
use Rattle.note.specs.Note.{LineEnd}
use Rattle.area.specs.Spelling.{area_spells}
use Rattle.head_words.specs.HeadWords.{high_first, count_of}
use Rattle.terminators.specs.Terminators.{string_end, line_end}
use Rattle.block.specs.Block.{data_at, trace_block_of}
use Rattle.image.specs.Image.{check_of}
use Rattle.image.specs.Keeps.{trace_at}
use Rattle.reader.specs.Questions.{trace_answer, data_of, code_at, count_at, of_integers, integers_answer, bits_answer}
use Rattle.reader.specs.Questions.{samples_of, patterns_of, classes_of, integers_left, patterns_left, classes_left}
use Rattle.reader.specs.Listed.{whose_one, trace_area}
use Rattle.reader.specs.Answers.{samples_at, patterns_at, classes_at, integers_read_lem, bits_read_lem}
use Rattle.layout.specs.Layout.{Trace, Samples.integers, Samples.patterns, fitting, unfit, samples_data, block_bytes}
use Rattle.layout.specs.Layout.{data_bytes, trace_size}
use Rattle.layout.specs.Layout as layout
use Rattle.layout.specs.LayoutLaws.{Stands}
use Rattle.growth.specs.Answered.{AnswersBy, answered}
use Rattle.refusal.specs.Verdicts.{accepted}

-- ---- what was given, as it reads back

-- codes 1 and 2 keep every sample, code 3 its leading bits
unfoldable pub read_back : ℕ → List ℤ → List ℤ
read_back code row = by_code row row (map cut row) [] [] [] code

-- samples travel as signed 32-bit numbers, patterns in 64 bits
abbrev pub In32 : List ℤ → Type 0
In32 row = (k : ℕ) → k < length row → mag (get_or row k (pos 0)) < 2147483648

abbrev pub In64 : List ℕ → Type 0
In64 row = (k : ℕ) → k < length row → get_or row k 0 < 18446744073709551616

integers_again : (code : ℕ) (high : Bool) (row : List ℤ) → integers_asked code (length row) ≡ true → unfit_integers code row ≡ None → In32 row
    → values_from (sample_of code high (integers_data code high row)) 0 (length row) ≡ read_back code row
unfolding read_back reach
integers_again zero high row a h m = never a
integers_again (suc zero) high row a h m = integers_back 1 high row (fit_reach row h)
integers_again (suc (suc zero)) high row a h m = integers_back 2 high row m
integers_again (suc (suc (suc zero))) high row a h m =
    run_of (sample_of 3 high (integers_data 3 high row)) cut (pos 0) row (λ i l. floats_back high row i (eqb-true (length row % 4) 0 a) h l)
integers_again (suc (suc (suc (suc zero)))) high row a h m = never a
integers_again (suc (suc (suc (suc (suc zero))))) high row a h m = never a
integers_again (suc (suc (suc (suc (suc (suc code)))))) high row a h m = never a

patterns_again : (code : ℕ) (high : Bool) (row : List ℕ) → bits_asked code ≡ true → unfit_patterns code row ≡ None → In64 row
    → values_from (pattern_of code high (bits_data code high row)) 0 (length row) ≡ row
unfolding width
patterns_again zero high row a h m = never a
patterns_again (suc zero) high row a h m = never a
patterns_again (suc (suc zero)) high row a h m = never a
patterns_again (suc (suc (suc zero))) high row a h m = never a
patterns_again (suc (suc (suc (suc zero)))) high row a h m = bits_back 4 high row a (fit_32 row h)
patterns_again (suc (suc (suc (suc (suc zero))))) high row a h m = bits_back 5 high row a m
patterns_again (suc (suc (suc (suc (suc (suc code)))))) high row a h m = never a

-- a row that may be asked for is of a code of integers
of_integers_lem : (code s : ℕ) → integers_asked code s ≡ true → of_integers code ≡ true
of_integers_lem zero s a = a
of_integers_lem (suc zero) s a = a
of_integers_lem (suc (suc zero)) s a = a
of_integers_lem (suc (suc (suc zero))) s a = refl
of_integers_lem (suc (suc (suc (suc zero)))) s a = a
of_integers_lem (suc (suc (suc (suc (suc zero))))) s a = a
of_integers_lem (suc (suc (suc (suc (suc (suc code)))))) s a = a

-- ---- trace k of an image g stands at p, and is one that rows 25 to 29 let through there

pub record Standing (g : List ℕ) (k p : ℕ) (x : Trace) : Type 0 where
  pub low : k < count_of g
  pub pointer : trace_at g k ≡ p
  pub stands : Stands (high_first g) (string_end g) (line_end g) g p x
  pub size : ℕ
  pub sized : measured_of (string_end g) (line_end g) x.sheet ≡ Ok size
  pub ends : LineEnd (line_end g)
  pub kind : fitting x.code x.samples ≡ true
  pub held : unfit x.code x.samples ≡ None

module _ {g : List ℕ} {k p : ℕ} {x : Trace} (s : Standing g k p x) where
  block_there : trace_block_of (high_first g) g k
      ≡ record { p = p; b = block_bytes (string_end g) (line_end g) x; d = data_bytes x; s = layout.count x.samples; code = x.code }
  unfolding trace_block_of
  block_there = let t = s.stands in rw (s.pointer, t.block, t.bytes, t.number, t.code)

  code_there : code_at g k ≡ x.code
  code_there = rw s.pointer s.stands.code

  count_there : count_at g k ≡ layout.count x.samples
  count_there = rw s.pointer s.stands.number

  spelled_there : Spells Strict (high_first g) (string_end g) (line_end g) (sheet_strings (line_end g) x.sheet)
      (part (trace_at g k + 32) (data_at (high_first g) g (trace_at g k)) g)
  spelled_there =
      let t = s.stands in
      rw (s.pointer, t.block, t.area) (area_spells (high_first g) (string_end g) (line_end g) x.sheet s.size s.ends s.sized)

  data_there : data_of g k ≡ samples_data x.code (high_first g) x.samples
  unfolding data_of trace_block_of
  data_there =
      let t = s.stands in
      let e : p + block_bytes (string_end g) (line_end g) x + data_bytes x ≡ p + trace_size (string_end g) (line_end g) x = omega arith in
      rw (s.pointer, t.block, t.bytes, e) t.samples

  samples_there : samples_of g k ≡ values_from (sample_of x.code (high_first g) (samples_data x.code (high_first g) x.samples)) 0 (layout.count x.samples)
  samples_there = rw (samples_at g k, code_there, count_there, data_there)

  patterns_there : patterns_of g k ≡ values_from (pattern_of x.code (high_first g) (samples_data x.code (high_first g) x.samples)) 0
      (layout.count x.samples)
  patterns_there = rw (patterns_at g k, code_there, count_there, data_there)

  classes_there : classes_of g k ≡ map (class_of x.code) (patterns_of g k)
  classes_there =
      rw (classes_at g k, patterns_at g k, code_there, count_there, data_there)
      (run_map (class_of x.code) (pattern_of x.code (high_first g) (samples_data x.code (high_first g) x.samples)) 0 (layout.count x.samples))

  integers_there_lem : (row : List ℤ) → x.samples ≡ integers row → In32 row
      → (of_integers (code_at g k) ≡ true) × (count_at g k ≡ length row) × (samples_of g k ≡ read_back x.code row)
  unfolding samples_data layout.count fitting unfit
  integers_there_lem row e m =
      let a : integers_asked x.code (length row) ≡ true = rw e at s.kind in
      let b : unfit_integers x.code row ≡ None = rw e at s.held in
      let c = rw e at count_there in
      let t = rw e at samples_there in
      (rw code_there (of_integers_lem x.code (length row) a), c, t ∙ integers_again x.code (high_first g) row a b m)

  bits_there_lem : (row : List ℕ) → x.samples ≡ patterns row → In64 row
      → (bits_asked (code_at g k) ≡ true) × (count_at g k ≡ length row) × (patterns_of g k ≡ row)
  unfolding samples_data layout.count fitting unfit
  bits_there_lem row e m =
      let a : bits_asked x.code ≡ true = rw e at s.kind in
      let b : unfit_patterns x.code row ≡ None = rw e at s.held in
      let c = rw e at count_there in
      let t = rw e at patterns_there in
      (rw code_there a, c, t ∙ patterns_again x.code (high_first g) row a b m)

-- ---- every question on trace k of the file in the first n bytes of xs is answered by what was given for it

pub record ReadsAs (xs : List ℕ) (n k p : ℕ) (x : Trace) : Type 0 where
  pub block : trace_answer Strict xs n (pos k)
      ≡ Ok (record { p = p; b = block_bytes (string_end (take n xs)) (line_end (take n xs)) x; d = data_bytes x; s = layout.count x.samples; code = x.code })
  pub strings : AnswersBy Strict xs n (pos k) (sheet_strings (line_end (take n xs)) x.sheet)
  -- rows of the given length are taken, and filled with what was given
  pub integers : (row old : List ℤ) → x.samples ≡ layout.integers row → In32 row → length old ≡ length row
      → (integers_answer Strict xs n (pos k) (length old) ≡ accepted) × (integers_left Strict xs n (pos k) old ≡ read_back x.code row)
  pub bits : (row old classes : List ℕ) → x.samples ≡ layout.patterns row → In64 row → length old ≡ length row → length classes ≡ length row
      → (bits_answer Strict xs n (pos k) (length old) (length classes) ≡ accepted)
      × (patterns_left Strict xs n (pos k) old classes ≡ row)
      × (classes_left Strict xs n (pos k) old classes ≡ map (class_of x.code) row)

pub reads_as : {xs : List ℕ} {n k p : ℕ} {x : Trace} → check_of Strict Read xs n ≡ accepted → Standing (take n xs) k p x → ReadsAs xs n k p x
unfolding trace_answer
reads_as {xs} {n} {k} {p} {x} ok s =
    let g : List ℕ = take n xs in
    record {
      block = rw (ok, whose_one k (count_of g) s.low, block_there s);
      strings =
          answered Strict xs n (pos k) (sheet_strings (line_end g) x.sheet) ok
          (record { a = trace_at g k + 32; e = data_at (high_first g) g (trace_at g k); area = trace_area g k s.low; spells = spelled_there s });
      integers =
          λ row old e m l.
          (let t = integers_there_lem s row e m in
          let r = integers_read_lem Strict xs n k ok s.low old t.0 (l ∙ sym t.1) in
          (r.0, r.1 ∙ t.2));
      bits =
          λ row old classes e m l c.
          (let t = bits_there_lem s row e m in
          let r = bits_read_lem Strict xs n k ok s.low old classes t.0 (l ∙ sym t.1) (c ∙ sym t.1) in
          (r.0, r.1 ∙ t.2, r.2 ∙ classes_there s ∙ ap (map (class_of x.code)) t.2));
    }
