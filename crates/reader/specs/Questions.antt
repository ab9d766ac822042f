-- The questions on a file (document 01, "Strings", "Numbers in values", "Samples", and rows 18, 32 and 33). xs is the
-- lent buffer, n the length given beside it, f the image: the first n bytes. Every answer is the check's refusal, or
-- else one of the image alone. `how` is the manner of reading, and a question has it as a parameter: the check and the
-- strings are read in one manner.
-- Assumes nothing.
use Rattle.std.specs.Prelude.{Bool, true, false, not, List, [], ◌∷◌, ℕ, zero, suc, ◌+◌, ◌*◌, ℤ, pos, negsuc, length, take, ltb, eqb, Result, Ok, Err, Option, Some, None, Float}
use Rattle.word.specs.Part.{part}
use Rattle.refusal.specs.declared.Rule.{Rule}
use Rattle.refusal.specs.declared.Rule.TheVariants.{NoTrace, RowLength, CodeKind}
use Rattle.refusal.specs.declared.Part.TheVariants.{File}
use Rattle.refusal.specs.declared.Refusal.{Refusal}
use Rattle.refusal.specs.Table.{refusal}
use Rattle.refusal.specs.Rows.{Rows, pick, ruled}
use Rattle.refusal.specs.Verdicts.{asked, accepted}
use Rattle.refusal.specs.FirstRow.{row}
use Rattle.text.specs.declared.Manner.{Manner}
use Rattle.strings.specs.declared.Place.{Place}
use Rattle.strings.specs.Strings.{places_of, nth_of, find_of, value_in}
use Rattle.places.specs.Numbers.{numbers_of}
use Rattle.decode.specs.Sample.{sample_of, pattern_of, class_of}
use Rattle.sample.specs.Needed.{by_code}
use Rattle.sample.specs.Run.{values_from}
use Rattle.decimal.specs.Number.{number_in}
use Rattle.double.specs.Double.{double_of}
use Rattle.location.specs.Location.{location_of}
use Rattle.head_limits.specs.declared.Purpose.TheVariants.{Read}
use Rattle.head_words.specs.HeadWords.{high_first, room_of, count_of, file_block_of}
use Rattle.head.specs.Head.{refused}
use Rattle.terminators.specs.Terminators.{string_end}
use Rattle.block.specs.declared.TraceBlock.{TraceBlock}
use Rattle.block.specs.Block.{sample_count_of, format_code_of, data_at, trace_block_of}
use Rattle.image.specs.Image.{check_of}
use Rattle.image.specs.Keeps.{trace_at}
use Rattle.part_number.specs.PartNumber.{whose_of}
use Rattle.refusal.specs.declared.Part.{Part}
use Rattle.decimal_parts.specs.declared.Decimal.{Decimal}
use Rattle.location.specs.declared.Coordinates.{Coordinates}
use Rattle.head_words.specs.declared.FileBlock.{FileBlock}
use Rattle.refusal.specs.Verdicts.{Verdict}
use Rattle.refusal.specs.declared.Part.TheVariants.{Trace}

-- ---- "Every question checks the whole file first"

-- so an answer is the check's refusal, or else the image's (`asked` of refusal/Verdicts)

-- "18 no such trace": part -1, place 0
abbrev pub no_trace : Refusal
no_trace = refusal NoTrace File 0

-- ---- whom a part number names is part_number/PartNumber `whose_of`

-- the bytes that the strings of a part stand in: of the file "from 32+M to the first pointer", of a trace "from byte 32
-- to B" behind its pointer
unfoldable pub area_named : List ℕ → Option Part → Option (ℕ × ℕ)
area_named f (Some File) = Some (32 + room_of f, trace_at f 0)
area_named f (Some (Trace k)) = Some (trace_at f k + 32, data_at (high_first f) f (trace_at f k))
area_named f None = None

abbrev pub area_asked : List ℕ → ℤ → Option (ℕ × ℕ)
area_asked f z = area_named f (whose_of z (count_of f))

abbrev pub on_area : {A : Type 0} → Option (ℕ × ℕ) → A → (ℕ → ℕ → A) → A
on_area None none some = none
on_area (Some (a, e)) none some = some a e

abbrev pub on_trace : {A : Type 0} → Option Part → A → (ℕ → A) → A
on_trace (Some (Trace k)) none some = some k
on_trace (Some File) none some = none
on_trace None none some = none

-- whether a number is that of a trace, and which trace it then is
abbrev pub is_trace : ℤ → ℕ → Bool
is_trace (pos k) n = ltb k n
is_trace (negsuc k) n = false

abbrev pub trace_number : ℤ → ℕ
trace_number (pos k) = k
trace_number (negsuc k) = 0

-- ---- blocks

unfoldable pub file_answer : Manner → List ℕ → ℕ → Result FileBlock Refusal
file_answer how xs n = asked Err (check_of how Read xs n) (Ok (file_block_of (take n xs)))

abbrev pub trace_in : List ℕ → ℤ → Result TraceBlock Refusal
trace_in f z = on_trace (whose_of z (count_of f)) (Err no_trace) (λ k. Ok (trace_block_of (high_first f) f k))

unfoldable pub trace_answer : Manner → List ℕ → ℕ → ℤ → Result TraceBlock Refusal
trace_answer how xs n z = asked Err (check_of how Read xs n) (trace_in (take n xs) z)

-- ---- strings: how many a part has, the i-th, the one with a keyword

unfoldable pub places_in : Manner → List ℕ → ℕ → ℕ → List Place
places_in how f a e = places_of how (high_first f) (string_end f) (part a e f) a

unfoldable pub count_answer : Manner → List ℕ → ℕ → ℤ → Result ℕ Refusal
count_answer how xs n z =
    let f = take n xs in
    asked Err (check_of how Read xs n) (on_area (area_asked f z) (Err no_trace) (λ a e. Ok (length (places_in how f a e))))

abbrev pub there : Option Place → Result (Option Place) Refusal
there s = Ok s

unfoldable pub nth_answer : Manner → List ℕ → ℕ → ℤ → ℕ → Result (Option Place) Refusal
nth_answer how xs n z i =
    let f = take n xs in
    asked Err (check_of how Read xs n) (on_area (area_asked f z) (Err no_trace) (λ a e. there (nth_of (places_in how f a e) i)))

unfoldable pub find_answer : Manner → List ℕ → ℕ → ℤ → List ℕ → Result (Option Place) Refusal
find_answer how xs n z key =
    let f = take n xs in
    asked Err (check_of how Read xs n) (on_area (area_asked f z) (Err no_trace) (λ a e. there (find_of how f (places_in how f a e) key)))

-- "A keyword question is two calls: one answers yes, no or the refusal"
abbrev pub yes_or_no : Result (Option Place) Refusal → Result Bool Refusal
yes_or_no (Ok (Some s)) = Ok true
yes_or_no (Ok None) = Ok false
yes_or_no (Err r) = Err r

unfoldable pub keyword_answer : Manner → List ℕ → ℕ → ℤ → List ℕ → Result Bool Refusal
keyword_answer how xs n z key = yes_or_no (find_answer how xs n z key)

-- "the other answers the value as the caller's own bytes, not a copy, and for a no or a refusal the empty part"
abbrev pub value_there : List ℕ → Result (Option Place) Refusal → List ℕ
value_there f (Ok (Some s)) = value_in f s
value_there f (Ok None) = []
value_there f (Err r) = []

unfoldable pub value_answer : Manner → List ℕ → ℕ → ℤ → List ℕ → List ℕ
value_answer how xs n z key = value_there (take n xs) (find_answer how xs n z key)

-- from where to where that stands in the buffer: for a no or a refusal from 0 to 0
abbrev pub span_there : Result (Option Place) Refusal → ℕ × ℕ
span_there (Ok (Some s)) = (s.value, s.end)
span_there (Ok None) = (0, 0)
span_there (Err r) = (0, 0)

unfoldable pub span_answer : Manner → List ℕ → ℕ → ℤ → List ℕ → ℕ × ℕ
span_answer how xs n z key = span_there (find_answer how xs n z key)

-- all at once, into a lent row of s numbers, "four numbers a string": the count's refusal, or else "32 where the row's length is
-- not four times the count"
abbrev pub strings_verdict : Result ℕ Refusal → ℕ → Verdict
strings_verdict (Ok c) s = row (not (eqb s (4 * c))) RowLength File 0
strings_verdict (Err r) s = Err r

unfoldable pub strings_answer : Manner → List ℕ → ℕ → ℤ → ℕ → Verdict
strings_answer how xs n z s = strings_verdict (count_answer how xs n z) s

unfoldable pub numbers_in : Manner → List ℕ → Option (ℕ × ℕ) → List ℕ
numbers_in how f w = on_area w [] (λ a e. numbers_of (places_in how f a e))

-- ---- numbers in values: of the value, which is the empty text where the keyword is absent

abbrev pub on_string : {A : Type 0} → (Refusal → A) → Result (Option Place) Refusal → A → A
on_string bad (Ok (Some s)) a = a
on_string bad (Ok None) a = a
on_string bad (Err r) a = bad r

unfoldable pub number_answer : Manner → List ℕ → ℕ → ℤ → List ℕ → Result Decimal Refusal
number_answer how xs n z key = on_string Err (find_answer how xs n z key) (number_in (value_answer how xs n z key))

unfoldable pub double_answer : Manner → List ℕ → ℕ → ℤ → List ℕ → Result Float Refusal
double_answer how xs n z key = on_string Err (find_answer how xs n z key) (double_of (value_answer how xs n z key))

unfoldable pub location_answer : Manner → List ℕ → ℕ → ℤ → List ℕ → Result Coordinates Refusal
location_answer how xs n z key = on_string Err (find_answer how xs n z key) (location_of (value_answer how xs n z key))

-- ---- samples. "18 no such trace; 33 integers asked of code 4 or 5, or bits of 1 to 3; 32 an output row's length is
-- not S: in that order, place 0"

abbrev pub code_at : List ℕ → ℕ → ℕ
code_at f k = format_code_of f (trace_at f k)

abbrev pub count_at : List ℕ → ℕ → ℕ
count_at f k = sample_count_of (high_first f) f (trace_at f k)

abbrev pub block_at : List ℕ → ℕ → TraceBlock
block_at f k = trace_block_of (high_first f) f k

-- codes 1 to 3 hold integers, 4 and 5 bit patterns
abbrev pub of_integers : ℕ → Bool
of_integers code = by_code true true true false false false code

abbrev pub of_bits : ℕ → Bool
of_bits code = by_code false false false true true false code

-- rows 33 and 32 of the trace whose block is x: s elements are lent
abbrev pub integers_rows : TraceBlock → ℕ → Rows Rule
integers_rows x s = (not (of_integers x.code), CodeKind) ∷ (not (eqb s x.s), RowLength) ∷ []

-- s patterns and c classes
abbrev pub bits_rows : TraceBlock → ℕ → ℕ → Rows Rule
bits_rows x s c = (not (of_bits x.code), CodeKind) ∷ (not (eqb s x.s), RowLength) ∷ (not (eqb c x.s), RowLength) ∷ []

unfoldable pub integers_verdict : TraceBlock → ℕ → Verdict
integers_verdict x s = ruled (integers_rows x s) (λ r. refused r 0) accepted

unfoldable pub bits_verdict : TraceBlock → ℕ → ℕ → Verdict
bits_verdict x s c = ruled (bits_rows x s c) (λ r. refused r 0) accepted

unfoldable pub integers_answer : Manner → List ℕ → ℕ → ℤ → ℕ → Verdict
integers_answer how xs n z s =
    let f = take n xs in
    asked Err (check_of how Read xs n) (on_trace (whose_of z (count_of f)) (Err no_trace) (λ k. integers_verdict (block_at f k) s))

unfoldable pub bits_answer : Manner → List ℕ → ℕ → ℤ → ℕ → ℕ → Verdict
bits_answer how xs n z s c =
    let f = take n xs in
    asked Err (check_of how Read xs n) (on_trace (whose_of z (count_of f)) (Err no_trace) (λ k. bits_verdict (block_at f k) s c))

-- "Data occupies D bytes from p+B"
abbrev pub data_in : List ℕ → TraceBlock → List ℕ
data_in f x = part (x.p + x.b) (x.p + x.b + x.d) f

-- the samples of the trace whose block is x, S of them, out of its data alone
unfoldable pub samples_in : List ℕ → TraceBlock → List ℤ
samples_in f x = values_from (sample_of x.code (high_first f) (data_in f x)) 0 x.s

unfoldable pub patterns_in : List ℕ → TraceBlock → List ℕ
patterns_in f x = values_from (pattern_of x.code (high_first f) (data_in f x)) 0 x.s

unfoldable pub classes_in : List ℕ → TraceBlock → List ℕ
classes_in f x = values_from (λ i. class_of x.code (pattern_of x.code (high_first f) (data_in f x) i)) 0 x.s

-- and of the trace k
unfoldable pub data_of : List ℕ → ℕ → List ℕ
data_of f k = data_in f (block_at f k)

abbrev pub samples_of : List ℕ → ℕ → List ℤ
samples_of f k = samples_in f (block_at f k)

abbrev pub patterns_of : List ℕ → ℕ → List ℕ
patterns_of f k = patterns_in f (block_at f k)

abbrev pub classes_of : List ℕ → ℕ → List ℕ
classes_of f k = classes_in f (block_at f k)

-- a lent row at the end: the new one where the answer is no refusal, else as it was
abbrev pub kept : {A : Type 0} → Verdict → A → A → A
kept (Ok _) new old = new
kept (Err r) new old = old

unfoldable pub strings_left : Manner → List ℕ → ℕ → ℤ → List ℕ → List ℕ
strings_left how xs n z row = kept (strings_answer how xs n z (length row)) (numbers_in how (take n xs) (area_asked (take n xs) z)) row

unfoldable pub integers_left : Manner → List ℕ → ℕ → ℤ → List ℤ → List ℤ
integers_left how xs n z row = kept (integers_answer how xs n z (length row)) (samples_of (take n xs) (trace_number z)) row

unfoldable pub patterns_left : Manner → List ℕ → ℕ → ℤ → List ℕ → List ℕ → List ℕ
patterns_left how xs n z row classes = kept (bits_answer how xs n z (length row) (length classes)) (patterns_of (take n xs) (trace_number z)) row

unfoldable pub classes_left : Manner → List ℕ → ℕ → ℤ → List ℕ → List ℕ → List ℕ
classes_left how xs n z row classes = kept (bits_answer how xs n z (length row) (length classes)) (classes_of (take n xs) (trace_number z)) classes
