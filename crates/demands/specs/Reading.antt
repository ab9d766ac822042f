-- Demand 2: "Reading agrees with the 1990 paper as document 01 fixes it: a file is accepted exactly when it keeps those
-- rules, and its strings, numbers and samples are the paper's; what we write reads back as what was given, save the low
-- bits that 20-bit samples cannot hold."
-- Assumes nothing.
use Rattle.std.specs.Prelude.{◌≡◌, refl, true, false, List, [], ◌∷◌, ◌++◌, ◌↔◌, ℕ, ◌*◌, ◌≤◌, ◌<◌, ℤ, pos, negsuc, length, get_or, take, eqb}
use Rattle.std.specs.Prelude.{Float, Ok, Err}
use Rattle.std.proofs.Common.{sym, ap, ◌∙◌, arith}
use Rattle.std.specs.Float.{binary64}
use Rattle.std.specs.Float.Ieee.{round}
use Rattle.head_limits.specs.declared.Purpose.TheVariants.{Read, Grow}
use Rattle.text.specs.declared.Manner.TheVariants.{Strict}
use Rattle.word.specs.Bytes.{Bytes}
use Rattle.word.specs.Round.{round4}
use Rattle.refusal.specs.declared.Rule.TheVariants.{NoNumber}
use Rattle.refusal.specs.declared.Part.TheVariants.{File}
use Rattle.refusal.specs.Table.{refusal}
use Rattle.strings.specs.Spelled.{Str, value_of_key}
use Rattle.decimal_parts.specs.declared.Decimal.{Decimal}
use Rattle.location.specs.declared.Coordinates.{Coordinates}
use Rattle.decimal_parts.specs.Grammar.{Parts, Writes, Short, over, under}
use Rattle.decimal_parts.specs.Answer.{decimal_of, too_long}
use Rattle.decimal.specs.Number.{no_number, number_in}
use Rattle.double.specs.Double.{double_of}
use Rattle.location.specs.Location.{location_of}
use Rattle.decimal.specs.Meaning.{Means, number_means}
use Rattle.decimal.specs.Agreed.{parts_unique, is_number, no_number_lem, too_long_lem}
use Rattle.decimal.specs.Marks.{comma}
use Rattle.location.specs.LocationMarks.{comma_double}
use Rattle.location.proofs.LocationMarks.{comma_location}
use Rattle.double.specs.Rounded.{text_rounded_once}
use Rattle.sheet.specs.Lines.{Line, sheet_lines}
use Rattle.sheet.specs.Area.{area_most, joined, text_size, area_of, area_size, sheet_strings, measured_of}
use Rattle.sheet.specs.Sizes.{length_area}
use Rattle.sheet.specs.Paper.{sheet_of, GoodLines, accepted_lines, lines_read, sheet_lines_once}
use Rattle.area.specs.Spelling.{measured_size, good_measured}
use Rattle.area.specs.Meaning.{NoteParted, lines_parted}
use Rattle.head_words.specs.HeadWords.{count_of}
use Rattle.head.specs.Head.{maximum}
use Rattle.image.specs.Image.{check_of}
use Rattle.image.specs.Keeps.{Keeps}
use Rattle.image.proofs.Accepted.{accepted_keeps, keeps_accepted}
use Rattle.reader.specs.Questions.{file_answer, code_at, count_at, of_integers, of_bits, samples_of, patterns_of, classes_of}
use Rattle.reader.specs.Questions.{integers_answer, bits_answer, integers_left, patterns_left, classes_left, number_answer}
use Rattle.reader.specs.Questions.{double_answer, location_answer}
use Rattle.reader.specs.Listed.{Lists, file_lists, trace_lists, lists_once}
use Rattle.reader.specs.Answers.{integers_read_lem, bits_read_lem}
use Rattle.layout.specs.Layout.{nul, line_feed, Trace}
use Rattle.start.specs.Start.{start_answer, start_left}
use Rattle.writer.specs.Answers.{add_answer, add_left}
use Rattle.start.specs.StartShown.{started}
use Rattle.writer.specs.Shown.{added, add_left_lem}
use Rattle.growth.specs.Answered.{AnswersBy, answered}
use Rattle.growth.specs.TraceReads.{ReadsAs}
use Rattle.growth.proofs.ReadsLast.{reads_last}
use Rattle.afresh.specs.FileOf.{file_size}
use Rattle.afresh.specs.Calls.{after, accepted_of}
use Rattle.afresh.proofs.Calls.{start_grows}
use Rattle.afresh.specs.Stands.{empty_trace}
use Rattle.afresh.proofs.Afresh.{accepted_writable}
use Rattle.demands.specs.ListReads.{list_reads, list_file_block, list_file_strings}
use Rattle.refusal.specs.Verdicts.{accepted}

-- ---- "a file is accepted exactly when it keeps those rules": for every buffer of bytes and every length. Rules out a
-- reader that refuses all files, and one that takes a broken one.

pub accepted_exactly_when_kept : (xs : List ℕ) (n : ℕ) → Bytes xs → (check_of Strict Read xs n ≡ accepted) ↔ ((n ≤ length xs) × Keeps Strict Read (take n xs))
accepted_exactly_when_kept xs n by = (accepted_keeps Strict Read xs n by, λ k. keeps_accepted Strict Read xs n k.0 k.1)

-- the same of an image that an addition takes, which may have no trace
pub taken_exactly_when_kept : (xs : List ℕ) (n : ℕ) → Bytes xs → (check_of Strict Grow xs n ≡ accepted) ↔ ((n ≤ length xs) × Keeps Strict Grow (take n xs))
taken_exactly_when_kept xs n by = (accepted_keeps Strict Grow xs n by, λ k. keeps_accepted Strict Grow xs n k.0 k.1)

-- ---- "its strings .. are the paper's": each part of an accepted file has one list of strings, which its bytes spell
-- (`Spells`), and every question on it is answered by that list. Rules out a reader that skips, doubles, reorders or
-- invents a string.

pub strings_of_the_file : (xs : List ℕ) (n : ℕ) → Bytes xs → check_of Strict Read xs n ≡ accepted
    → (ss : List Str) × Lists Strict (take n xs) (negsuc 0) ss × AnswersBy Strict xs n (negsuc 0) ss
strings_of_the_file xs n by ok = let l = file_lists Strict xs n by ok in (l.0, l.1, answered Strict xs n (negsuc 0) l.0 ok l.1)

pub strings_of_a_trace : (xs : List ℕ) (n k : ℕ) → Bytes xs → check_of Strict Read xs n ≡ accepted → k < count_of (take n xs)
    → (ss : List Str) × Lists Strict (take n xs) (pos k) ss × AnswersBy Strict xs n (pos k) ss
strings_of_a_trace xs n k by ok low = let l = trace_lists Strict xs n k by ok low in (l.0, l.1, answered Strict xs n (pos k) l.0 ok l.1)

pub one_list_of_strings : (f : List ℕ) (z : ℤ) (ss rs : List Str) → Lists Strict f z ss → Lists Strict f z rs → ss ≡ rs
one_list_of_strings = lists_once Strict

-- ---- "its .. numbers .. are the paper's"

-- a number is what the grammar writes, with not too many digits. Rules out a reader that takes more or fewer texts than
-- document 01's.
pub number_exactly_when_written : (t : List ℕ) (n : Decimal) → (number_in t ≡ Ok n) ↔ ((p : Parts) × Writes p t × Short p × (n ≡ decimal_of p))
number_exactly_when_written = is_number

pub no_number_exactly_when_unwritten : (t : List ℕ) → (number_in t ≡ no_number) ↔ ((p : Parts) → Writes p t → ⊥)
no_number_exactly_when_unwritten = no_number_lem

pub too_many_digits_exactly : (t : List ℕ) → (number_in t ≡ too_long) ↔ ((p : Parts) × Writes p t × (Short p → ⊥))
too_many_digits_exactly = too_long_lem

-- and it has the value that its text writes. Rules out a shifted point or power, and a lost digit.
pub number_means_its_text : (t : List ℕ) (n : Decimal) → number_in t ≡ Ok n → (p : Parts) × Writes p t × Means n p
number_means_its_text = number_means

pub one_way_to_write : (p q : Parts) (t : List ℕ) → Writes p t → Writes q t → p ≡ q
one_way_to_write = parts_unique

-- "No comma": a value with one is no number, no double and no location. Rules out "Dropping a comma".
pub never_with_a_comma : (xs : List ℕ) (n : ℕ) (z : ℤ) (ss : List Str) → AnswersBy Strict xs n z ss → (key before after : List ℕ)
    → value_of_key Strict ss key ≡ before ++ (44 ∷ after)
    → (number_answer Strict xs n z key ≡ no_number)
    × (double_answer Strict xs n z key ≡ Err (refusal NoNumber File 0))
    × ((l : Coordinates) → location_answer Strict xs n z key ≡ Ok l → ⊥)
never_with_a_comma xs n z ss a key before after e = (
  a.number key ∙ ap number_in e ∙ comma before after,
  a.double key ∙ ap double_of e ∙ comma_double before after,
  λ l h. comma_location before after l (sym (ap location_of e) ∙ sym (a.location key) ∙ h),
)

-- "multiplied or divided once": a double is the text's value, rounded once. Rules out two roundings, and a value next
-- to the nearest.
pub double_rounded_once : (xs : List ℕ) (n : ℕ) (z : ℤ) (ss : List Str) → AnswersBy Strict xs n z ss → (key : List ℕ) (p : Parts) → Writes p (value_of_key Strict ss key)
    → (x : Float) → double_answer Strict xs n z key ≡ Ok x → x ≡ round binary64 (decimal_of p).minus (over p) (under p)
double_rounded_once xs n z ss a key p w x e = text_rounded_once p (value_of_key Strict ss key) w x (sym (a.double key) ∙ e)

-- ---- "its .. samples are the paper's"

-- they are those of the format (Samples), and are left in a row of S elements
pub integers_are_read : (xs : List ℕ) (n k : ℕ) → check_of Strict Read xs n ≡ accepted → k < count_of (take n xs) → (row : List ℤ)
    → of_integers (code_at (take n xs) k) ≡ true → length row ≡ count_at (take n xs) k
    → (integers_answer Strict xs n (pos k) (length row) ≡ accepted) × (integers_left Strict xs n (pos k) row ≡ samples_of (take n xs) k)
integers_are_read = integers_read_lem Strict

pub bits_are_read : (xs : List ℕ) (n k : ℕ) → check_of Strict Read xs n ≡ accepted → k < count_of (take n xs) → (row classes : List ℕ)
    → of_bits (code_at (take n xs) k) ≡ true → length row ≡ count_at (take n xs) k → length classes ≡ count_at (take n xs) k
    → (bits_answer Strict xs n (pos k) (length row) (length classes) ≡ accepted)
    × (patterns_left Strict xs n (pos k) row classes ≡ patterns_of (take n xs) k)
    × (classes_left Strict xs n (pos k) row classes ≡ classes_of (take n xs) k)
bits_are_read = bits_read_lem Strict

-- ---- "what we write reads back as what was given, save the low bits that 20-bit samples cannot hold"

-- a sheet that is let through is the bytes of good lines, of one list of them only, and its strings are those lines':
-- keyword and value of each line before the first NOTE, and behind them one NOTE whose value is the values of all NOTE
-- lines with the line terminator between (`NoteParted`). Rules out a writer that reads a sheet in another way than its
-- lines, loses one, or takes two sheets for one.
pub strings_are_the_lines : (t u s : List ℕ) (n : ℕ) → measured_of t u s ≡ Ok n
    → (ls : List Line) × (s ≡ sheet_of ls) × GoodLines [] ls × ((ms : List Line) → s ≡ sheet_of ms → GoodLines [] ms → ms ≡ ls)
    × (sheet_strings u s ≡ joined u ls) × NoteParted u ls
unfolding sheet_strings
strings_are_the_lines t u s n e =
    let l = accepted_lines s (measured_size t u s n e).0 in
    (sheet_lines s, l.0, l.1, λ ms b g. sheet_lines_once s ms (sheet_lines s) b l.0 g l.1, refl, lines_parted u (sheet_lines s) l.1)

-- and every list of good lines whose area is not too large is let through, as itself
pub lines_are_let_through : (t u : List ℕ) (ls : List Line) → GoodLines [] ls → length (area_of false t u (sheet_of ls)) ≤ area_most
    → (measured_of t u (sheet_of ls) ≡ Ok (length (area_of false t u (sheet_of ls)))) × (sheet_strings u (sheet_of ls) ≡ joined u ls)
unfolding area_size sheet_strings
lines_are_let_through t u ls g h =
    let a : length (area_of false t u (sheet_of ls)) ≡ round4 (text_size t (joined u ls)) =
    length_area false t u (sheet_of ls) ∙ ap (λ (ms : List Line). round4 (text_size t (joined u ms))) (lines_read [] ls g) in
    let m = good_measured t u ls g (omega arith) in
    (m.0 ∙ ap Ok (sym a), m.1)

-- the new trace, on any image that an addition takes. Rules out an addition that writes nothing, or writes what reads
-- otherwise.
pub new_trace_reads_back : (xs : List ℕ) (n : ℕ) (x : Trace) (end : ℕ) → Bytes xs → add_answer xs n x ≡ Ok end
    → ReadsAs (add_left xs n x) end (count_of (take n xs)) (round4 n) x
new_trace_reads_back xs n x end by e = rw (add_left_lem xs n x end e) (reads_last by (added xs n x end e))

-- every trace of a file that was started and added to, refused calls in between included, and the file itself. Rules
-- out one that loses an earlier trace.
module _ (xs : List ℕ) (order slots : ℕ) (sheet : List ℕ) (e : ℕ) (to : start_answer xs order slots sheet ≡ Ok e) (calls : List Trace) where
  abbrev left : List ℕ × ℕ
  left = after (start_left xs order slots sheet) e calls

  abbrev given : List Trace
  given = accepted_of (start_left xs order slots sheet) e calls

  most : left.1 ≤ maximum
  most = let w = (accepted_writable xs order slots sheet e to calls).most in let s = (start_grows xs order slots sheet e to calls).holds.size in omega arith

  pub every_trace_reads_back : (k : ℕ) → k < length given → ReadsAs left.0 left.1 k (file_size slots sheet (take k given)) (get_or given k empty_trace)
  every_trace_reads_back k low =
      let s = started xs order slots sheet e to in
      list_reads (start_grows xs order slots sheet e to calls).holds s.some (area_size nul line_feed sheet, s.sized) most k low

  pub file_block_reads_back : 0 < length given
      → file_answer Strict left.0 left.1 ≡ Ok (record { high = eqb order 1; m = 4 * slots; n = length given; strings = 1; lines = 1 })
  file_block_reads_back low =
      let s = started xs order slots sheet e to in
      list_file_block (start_grows xs order slots sheet e to calls).holds s.some (area_size nul line_feed sheet, s.sized) most low

  pub file_strings_read_back : 0 < length given → AnswersBy Strict left.0 left.1 (negsuc 0) (sheet_strings line_feed sheet)
  file_strings_read_back low =
      let s = started xs order slots sheet e to in
      list_file_strings (start_grows xs order slots sheet e to calls).holds s.some (area_size nul line_feed sheet, s.sized) most low
