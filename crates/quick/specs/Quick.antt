-- One trace, quickly (document 02 §5): questions that read "the file block's first 32 bytes, pointer k, the first 32
-- bytes of that trace's block, and its strings in order" as far as the question goes, or its samples. Each has the
-- arguments and the answers of the full question (reader/Questions), of traces only. xs is the lent buffer, n the length
-- given beside it, f the image: the first n bytes. The rows before the question's own are one_trace/Alone, where the
-- block's question is too; the walk along strings is until/Until; which bytes are read is shortcut/Read.
-- Assumes nothing.
use Rattle.std.specs.Prelude.{List, ℕ, ◌+◌, ℤ, length, take, Result, Ok, Err, Option, Some, None, Bool, Float}
use Rattle.word.specs.Part.{part}
use Rattle.refusal.specs.declared.Part.TheVariants.{Trace}
use Rattle.refusal.specs.declared.Refusal.{Refusal}
use Rattle.refusal.specs.Verdicts.{asked}
use Rattle.text.specs.declared.Manner.TheVariants.{Strict}
use Rattle.decimal.specs.Number.{number_in}
use Rattle.double.specs.Double.{double_of}
use Rattle.location.specs.Location.{location_of}
use Rattle.head_words.specs.HeadWords.{high_first}
use Rattle.terminators.specs.Terminators.{string_end, line_end}
use Rattle.block.specs.Block.{data_at}
use Rattle.image.specs.Keeps.{trace_at}
use Rattle.until.specs.declared.Turn.{Turn}
use Rattle.until.specs.declared.Walked.{Walked}
use Rattle.until.specs.Until.{by_key, by_index, to_end, walk_of}
use Rattle.reader.specs.Questions.{trace_number, area_named, yes_or_no, value_there, span_there, on_string, strings_verdict, numbers_in}
use Rattle.reader.specs.Questions.{block_at, integers_verdict, bits_verdict, samples_of, patterns_of, classes_of, kept}
use Rattle.one_trace.specs.Alone.{alone_of}
use Rattle.decimal_parts.specs.declared.Decimal.{Decimal}
use Rattle.location.specs.declared.Coordinates.{Coordinates}
use Rattle.strings.specs.declared.Place.{Place}
use Rattle.refusal.specs.Verdicts.{Verdict}
use Rattle.until.specs.declared.Walked.TheVariants as walked

-- ---- a question of the family: rows 1 to 7, 18 and 8 to 13; then what it makes of the trace
abbrev pub quickly : {A : Type 0} → (Refusal → A) → (List ℕ → ℕ → A) → List ℕ → ℕ → ℤ → A
quickly bad own xs n z = asked bad (alone_of xs n z) (own (take n xs) (trace_number z))

-- ---- strings

-- the walk along the strings of the trace k, which stand from a to e of f
abbrev pub walk_between : (ℕ → List ℕ → Turn) → List ℕ → ℕ → ℕ → ℕ → Result Walked Refusal
walk_between look f k a e = walk_of look (high_first f) (string_end f) (line_end f) (Trace k) (part a e f) a

-- "strings from byte 32 to B"
unfoldable pub walk_in : (ℕ → List ℕ → Turn) → List ℕ → ℕ → Result Walked Refusal
walk_in look f k = walk_between look f k (trace_at f k + 32) (data_at (high_first f) f (trace_at f k))

-- 14 to 17 of each string that is come to
unfoldable pub quick_walk : (ℕ → List ℕ → Turn) → List ℕ → ℕ → ℤ → Result Walked Refusal
quick_walk look xs n z = quickly Err (walk_in look) xs n z

-- where it ended, as the full question tells it
abbrev pub told_by : Result Walked Refusal → Result (Option Place) Refusal
told_by (Ok (walked.At s)) = Ok (Some s)
told_by (Ok (walked.Over j)) = Ok None
told_by (Err r) = Err r

-- how many were passed; one that is counted to the end ends at no string (until/Counted `never_at`)
abbrev pub counted_by : Result Walked Refusal → Result ℕ Refusal
counted_by (Ok (walked.At s)) = Ok 0
counted_by (Ok (walked.Over j)) = Ok j
counted_by (Err r) = Err r

-- the string with a keyword, the i-th, how many there are
unfoldable pub quick_find : List ℕ → ℕ → ℤ → List ℕ → Result (Option Place) Refusal
quick_find xs n z key = told_by (quick_walk (by_key key) xs n z)

unfoldable pub quick_nth : List ℕ → ℕ → ℤ → ℕ → Result (Option Place) Refusal
quick_nth xs n z i = told_by (quick_walk (by_index i) xs n z)

unfoldable pub quick_count : List ℕ → ℕ → ℤ → Result ℕ Refusal
quick_count xs n z = counted_by (quick_walk to_end xs n z)

-- all at once, into a lent row of s numbers
unfoldable pub quick_strings : List ℕ → ℕ → ℤ → ℕ → Verdict
quick_strings xs n z s = strings_verdict (quick_count xs n z) s

unfoldable pub quick_strings_left : List ℕ → ℕ → ℤ → List ℕ → List ℕ
quick_strings_left xs n z row =
    let f = take n xs in
    kept (quick_strings xs n z (length row)) (numbers_in Strict f (area_named f (Some (Trace (trace_number z))))) row

-- ---- a keyword in two calls, as of the full question: yes, no or the refusal; and the value, its bytes and where they
-- stand

unfoldable pub quick_keyword : List ℕ → ℕ → ℤ → List ℕ → Result Bool Refusal
quick_keyword xs n z key = yes_or_no (quick_find xs n z key)

unfoldable pub quick_value : List ℕ → ℕ → ℤ → List ℕ → List ℕ
quick_value xs n z key = value_there (take n xs) (quick_find xs n z key)

unfoldable pub quick_span : List ℕ → ℕ → ℤ → List ℕ → ℕ × ℕ
quick_span xs n z key = span_there (quick_find xs n z key)

-- ---- the value as a number: the search's refusal, or else 20 to 23 of the value

abbrev pub quick_read : {A : Type 0} → (Refusal → A) → (List ℕ → A) → List ℕ → ℕ → ℤ → List ℕ → A
quick_read bad read xs n z key = on_string bad (quick_find xs n z key) (read (quick_value xs n z key))

unfoldable pub quick_number : List ℕ → ℕ → ℤ → List ℕ → Result Decimal Refusal
quick_number xs n z key = quick_read Err number_in xs n z key

unfoldable pub quick_double : List ℕ → ℕ → ℤ → List ℕ → Result Float Refusal
quick_double xs n z key = quick_read Err double_of xs n z key

unfoldable pub quick_location : List ℕ → ℕ → ℤ → List ℕ → Result Coordinates Refusal
quick_location xs n z key = quick_read Err location_of xs n z key

-- ---- samples: 33 and 32 behind the block's rows; no string is read

unfoldable pub quick_integers : List ℕ → ℕ → ℤ → ℕ → Verdict
quick_integers xs n z s = quickly Err (λ f k. integers_verdict (block_at f k) s) xs n z

unfoldable pub quick_bits : List ℕ → ℕ → ℤ → ℕ → ℕ → Verdict
quick_bits xs n z s c = quickly Err (λ f k. bits_verdict (block_at f k) s c) xs n z

-- the lent rows at the end
unfoldable pub quick_integers_left : List ℕ → ℕ → ℤ → List ℤ → List ℤ
quick_integers_left xs n z row = kept (quick_integers xs n z (length row)) (samples_of (take n xs) (trace_number z)) row

unfoldable pub quick_patterns_left : List ℕ → ℕ → ℤ → List ℕ → List ℕ → List ℕ
quick_patterns_left xs n z row classes = kept (quick_bits xs n z (length row) (length classes)) (patterns_of (take n xs) (trace_number z)) row

unfoldable pub quick_classes_left : List ℕ → ℕ → ℤ → List ℕ → List ℕ → List ℕ
quick_classes_left xs n z row classes = kept (quick_bits xs n z (length row) (length classes)) (classes_of (take n xs) (trace_number z)) classes
