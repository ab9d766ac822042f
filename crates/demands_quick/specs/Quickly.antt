-- Document 02 §5, one trace, quickly, for every question on a trace: "On every file that the full check accepts, the answer
-- equals the full one. It is asked of traces only. Two inputs of equal image and buffer length that agree on these bytes get the same answer,
-- refusals and places included. .. Refusals: those of 01 for the bytes read, in 01's order, with 18 between 7 and 8; 8
-- here means no multiple of 4, below 32+M, or p+32 past the end." xs is the lent buffer, n the length given beside it.
-- Assumes nothing.
use Rattle.std.specs.Prelude.{◌≡◌, Bool, not, ℤ, pos, negsuc, length, drop, eqb, Result, Ok, Err, Option, Some, None, Float, true, false}
use Rattle.std.specs.Prelude.{List, [], ◌∷◌, ◌++◌, ℕ, zero, suc, ◌+◌, ◌*◌, ◌<◌, take}
use Rattle.std.proofs.Common.{sym, ap, ◌∙◌, arith}
use Rattle.word.specs.Part.{part, length_part}
use Rattle.refusal.specs.declared.Rule.TheVariants.{Length, StringOffset, NoTrace, RowLength}
use Rattle.refusal.specs.declared.Part.{Part}
use Rattle.refusal.specs.declared.Part.TheVariants.{File, Trace}
use Rattle.refusal.specs.declared.Refusal.{Refusal}
use Rattle.refusal.specs.Rows.{pick}
use Rattle.refusal.specs.Verdicts.{accepted, pair_parts}
use Rattle.refusal.specs.FirstRow.{row, first_of, rows_at, each}
use Rattle.text.specs.declared.Manner.TheVariants.{Strict}
use Rattle.strings.specs.declared.Place.{Place}
use Rattle.strings.specs.Strings.{offset, body, key_len, frame_rows, text_rows}
use Rattle.note.specs.Note.{LineEnd}
use Rattle.strings.specs.Spelled.{Str, Spells}
use Rattle.head_limits.specs.declared.Purpose.TheVariants.{Read}
use Rattle.head_words.specs.HeadWords.{high_first, room_of, count_of}
use Rattle.head.specs.Head.{head_rows, head_of}
use Rattle.terminators.specs.Terminators.{string_end, line_end}
use Rattle.terminators.specs.TerminatorLaws.{good_ends}
use Rattle.block.specs.Block.{block_size_of, data_at, block_rows}
use Rattle.block.specs.BlockLaws.{head_at}
use Rattle.file_length.specs.FileLength.{bad_length}
use Rattle.image.specs.Image.{check_of}
use Rattle.image.specs.Keeps.{trace_at}
use Rattle.image.specs.Accepted.{image_headed}
use Rattle.reader.specs.Questions.{no_trace, is_trace, trace_number, places_in, trace_answer, count_answer, nth_answer}
use Rattle.reader.specs.Questions.{strings_answer, strings_left, find_answer, keyword_answer, value_answer, span_answer}
use Rattle.reader.specs.Questions.{number_answer, double_answer, location_answer, integers_answer, integers_left}
use Rattle.reader.specs.Questions.{bits_answer, patterns_left, classes_left}
use Rattle.reader.specs.Reach.{checked, trace_blocked}
use Rattle.reader.specs.Listed.{Lists, trace_area}
use Rattle.until.specs.declared.Turn.{Turn}
use Rattle.until.specs.declared.Walked.{Walked}
use Rattle.until.specs.Until.{by_key, by_index, to_end, on_turn}
use Rattle.one_trace.specs.Alone.{alone_of, block_alone}
use Rattle.quick.specs.Quick.{quickly, walk_in, told_by, quick_walk, quick_find, quick_nth, quick_count, quick_strings, quick_strings_left}
use Rattle.quick.specs.Quick.{quick_keyword, quick_value, quick_span, quick_number, quick_double, quick_location}
use Rattle.quick.specs.Quick.{quick_integers, quick_integers_left, quick_bits, quick_patterns_left, quick_classes_left}
use Rattle.shortcut.specs.Read.{read_in, block_read, strings_read, integers_read, bits_read, bytes_read, Agree}
use Rattle.shortcut.specs.Spelled.{list_read}
use Rattle.shortcut.proofs.Spelled.{read_listed}
use Rattle.shortcut.specs.Full.{block_full}
use Rattle.shortcut.proofs.Full.{count_full, nth_full, strings_full, find_full, keyword_full, value_full}
use Rattle.shortcut.specs.Full.{integers_full, bits_full}
use Rattle.shortcut.proofs.Full.{number_full, double_full, location_full}
use Rattle.shortcut.proofs.Same.{block_same_answer, count_same, nth_same, strings_same_answer, strings_same_left, find_same, keyword_same}
use Rattle.shortcut.proofs.Same.{value_same, span_same, number_same, double_same, location_same, integers_same, bits_same}
use Rattle.shortcut.specs.Same.{AllNamed}
use Rattle.shortcut.proofs.Same.{block_named, strings_named, integers_named, bits_named, found_is_last}
use Rattle.face.specs.Face.{as_verdict, as_trace, as_count}
use Rattle.face_values.specs.FaceValues.{as_string, as_keyword, as_value, as_number, as_double, as_location}
use Rattle.demands_rows.specs.FileRows.{pointer_test}
use Rattle.demands_rows.specs.QuestionRows.{four_in}
use Rattle.shortcut.proofs.Row.{row_holds}
use Rattle.block.specs.declared.TraceBlock.{TraceBlock}
use Rattle.decimal_parts.specs.declared.Decimal.{Decimal}
use Rattle.location.specs.declared.Coordinates.{Coordinates}
use Rattle.refusal.specs.Verdicts.{Verdict}
use Rattle.until.specs.declared.Walked.TheVariants as walked

-- ---- "On every file that the full check accepts, the answer equals the full one": every question, as it crosses, and each
-- lent row, of every trace number from 0 on (those past the last are 18 in both). Rules out a walk that ends too early or
-- too late, another reading of a string, and samples of another place.
pub record AsFull (xs : List ℕ) (n k : ℕ) : Type 0 where
  pub block : as_trace (block_alone xs n (pos k)) ≡ as_trace (trace_answer Strict xs n (pos k))
  pub strings : as_count (quick_count xs n (pos k)) ≡ as_count (count_answer Strict xs n (pos k))
  pub string : (i : ℕ) → as_string (quick_nth xs n (pos k) i) ≡ as_string (nth_answer Strict xs n (pos k) i)
  pub all_strings : (row : List ℕ) → (as_verdict (quick_strings xs n (pos k) (length row)) ≡ as_verdict (strings_answer Strict xs n (pos k) (length row)))
      × (quick_strings_left xs n (pos k) row ≡ strings_left Strict xs n (pos k) row)
  pub keyword : (key : List ℕ) → as_keyword (quick_keyword xs n (pos k) key) ≡ as_keyword (keyword_answer Strict xs n (pos k) key)
  pub value : (key : List ℕ) → (as_value (quick_find xs n (pos k) key) ≡ as_value (find_answer Strict xs n (pos k) key))
      × (quick_value xs n (pos k) key ≡ value_answer Strict xs n (pos k) key) × (quick_span xs n (pos k) key ≡ span_answer Strict xs n (pos k) key)
  pub numbers : (key : List ℕ) → (as_number (quick_number xs n (pos k) key) ≡ as_number (number_answer Strict xs n (pos k) key))
      × (as_double (quick_double xs n (pos k) key) ≡ as_double (double_answer Strict xs n (pos k) key))
      × (as_location (quick_location xs n (pos k) key) ≡ as_location (location_answer Strict xs n (pos k) key))
  pub integers : (row : List ℤ) → (as_verdict (quick_integers xs n (pos k) (length row)) ≡ as_verdict (integers_answer Strict xs n (pos k) (length row)))
      × (quick_integers_left xs n (pos k) row ≡ integers_left Strict xs n (pos k) row)
  pub bits : (row classes : List ℕ)
      → (as_verdict (quick_bits xs n (pos k) (length row) (length classes)) ≡ as_verdict (bits_answer Strict xs n (pos k) (length row) (length classes)))
      × (quick_patterns_left xs n (pos k) row classes ≡ patterns_left Strict xs n (pos k) row classes)
      × (quick_classes_left xs n (pos k) row classes ≡ classes_left Strict xs n (pos k) row classes)

pub quick_equals_full : (xs : List ℕ) (n : ℕ) → check_of Strict Read xs n ≡ accepted → (k : ℕ) → AsFull xs n k
quick_equals_full xs n ok k =
    record {
      block = ap as_trace (block_full xs n ok k);
      strings = ap as_count (count_full xs n ok k);
      string = λ i. ap as_string (nth_full xs n ok k i);
      all_strings = λ row. (let s = strings_full xs n ok k row in (ap as_verdict s.0, s.1));
      keyword = λ key. ap as_keyword (keyword_full xs n ok k key);
      value = λ key. (let v = value_full xs n ok k key in (ap as_value (find_full xs n ok k key), v.0, v.1));
      numbers =
          λ key. (
            ap as_number (number_full xs n ok k key),
            ap as_double (double_full xs n ok k key),
            ap as_location (location_full xs n ok k key),
          );
      integers = λ row. (let s = integers_full xs n ok k row in (ap as_verdict s.0, s.1));
      bits = λ row classes. (let s = bits_full xs n ok k row classes in (ap as_verdict s.0, s.1, s.2));
    }

-- ---- "Two inputs of equal image and buffer length that agree on these bytes get the same answer, refusals and places
-- included": the bytes are those that one of the two names (shortcut/Read `bytes_read`), for each question its own. Rules out a
-- look at any other byte.
pub record SameAnswer (xs ys : List ℕ) (n : ℕ) (z : ℤ) : Type 0 where
  pub block : Agree (take n xs) (take n ys) (bytes_read block_read xs n z) → as_trace (block_alone xs n z) ≡ as_trace (block_alone ys n z)
  pub strings : Agree (take n xs) (take n ys) (bytes_read (strings_read to_end) xs n z) → as_count (quick_count xs n z) ≡ as_count (quick_count ys n z)
  pub string : (i : ℕ) → Agree (take n xs) (take n ys) (bytes_read (strings_read (by_index i)) xs n z)
      → as_string (quick_nth xs n z i) ≡ as_string (quick_nth ys n z i)
  pub all_strings : (row : List ℕ) → Agree (take n xs) (take n ys) (bytes_read (strings_read to_end) xs n z)
      → (as_verdict (quick_strings xs n z (length row)) ≡ as_verdict (quick_strings ys n z (length row)))
      × (quick_strings_left xs n z row ≡ quick_strings_left ys n z row)
  pub keyword : (key : List ℕ) → Agree (take n xs) (take n ys) (bytes_read (strings_read (by_key key)) xs n z)
      → as_keyword (quick_keyword xs n z key) ≡ as_keyword (quick_keyword ys n z key)
  pub value : (key : List ℕ) → Agree (take n xs) (take n ys) (bytes_read (strings_read (by_key key)) xs n z)
      → (as_value (quick_find xs n z key) ≡ as_value (quick_find ys n z key))
      × (quick_value xs n z key ≡ quick_value ys n z key) × (quick_span xs n z key ≡ quick_span ys n z key)
  pub numbers : (key : List ℕ) → Agree (take n xs) (take n ys) (bytes_read (strings_read (by_key key)) xs n z)
      → (as_number (quick_number xs n z key) ≡ as_number (quick_number ys n z key))
      × (as_double (quick_double xs n z key) ≡ as_double (quick_double ys n z key))
      × (as_location (quick_location xs n z key) ≡ as_location (quick_location ys n z key))
  pub integers : (row : List ℤ) → Agree (take n xs) (take n ys) (bytes_read (integers_read (length row)) xs n z)
      → (as_verdict (quick_integers xs n z (length row)) ≡ as_verdict (quick_integers ys n z (length row)))
      × (quick_integers_left xs n z row ≡ quick_integers_left ys n z row)
  pub bits : (row classes : List ℕ) → Agree (take n xs) (take n ys) (bytes_read (bits_read (length row) (length classes)) xs n z)
      → (as_verdict (quick_bits xs n z (length row) (length classes)) ≡ as_verdict (quick_bits ys n z (length row) (length classes)))
      × (quick_patterns_left xs n z row classes ≡ quick_patterns_left ys n z row classes)
      × (quick_classes_left xs n z row classes ≡ quick_classes_left ys n z row classes)

pub same_bytes_same_answer : (xs ys : List ℕ) (n : ℕ) (z : ℤ) → length xs ≡ length ys → SameAnswer xs ys n z
same_bytes_same_answer xs ys n z long =
    record {
      block = λ a. ap as_trace (block_same_answer xs ys n z long a);
      strings = λ a. ap as_count (count_same xs ys n z long a);
      string = λ i a. ap as_string (nth_same xs ys n z long i a);
      all_strings = λ row a. (ap as_verdict (strings_same_answer xs ys n z long row a), strings_same_left xs ys n z long row a);
      keyword = λ key a. ap as_keyword (keyword_same xs ys n z long key a);
      value = λ key a. (ap as_value (find_same xs ys n z long key a), value_same xs ys n z long key a, span_same xs ys n z long key a);
      numbers =
          λ key a. (
            ap as_number (number_same xs ys n z long key a),
            ap as_double (double_same xs ys n z long key a),
            ap as_location (location_same xs ys n z long key a),
          );
      integers = λ row a. (let s = integers_same xs ys n z long row a in (ap as_verdict s.0, s.1));
      bits = λ row classes a. (let s = bits_same xs ys n z long row classes a in (ap as_verdict s.0, s.1, s.2));
    }

-- the bytes read are those that document 02 names and no others: "the file block's first 32 bytes, pointer k, the first
-- 32 bytes of that trace's block", and bytes of its own strings, from the first on, or its data. Rules out a definition of
-- the bytes read that has the whole file.
pub record NoMore (xs : List ℕ) (n : ℕ) (z : ℤ) : Type 0 where
  pub block : AllNamed (take n xs) (trace_number z) (bytes_read block_read xs n z)
  pub strings : (look : ℕ → List ℕ → Turn) → AllNamed (take n xs) (trace_number z) (bytes_read (strings_read look) xs n z)
  pub integers : (s : ℕ) → AllNamed (take n xs) (trace_number z) (bytes_read (integers_read s) xs n z)
  pub bits : (s c : ℕ) → AllNamed (take n xs) (trace_number z) (bytes_read (bits_read s c) xs n z)

pub reads_no_more : (xs : List ℕ) (n : ℕ) (z : ℤ) → NoMore xs n z
reads_no_more xs n z =
    record { block = block_named xs n z; strings = strings_named xs n z; integers = integers_named xs n z; bits = bits_named xs n z }

-- "and its strings in order only until the keyword is found or passed (that string is read whole and checked); NOTE is
-- sought to the end", or up to the i-th, or all: of an accepted trace that has a byte of strings they are, of the list that it
-- spells, each string's bytes up to the first that ends the walk, and where none does all of them and the end mark
-- (shortcut/Spelled `list_read`; a keyword's walk is `by_key`, the i-th's `by_index`, that of all `to_end`). Rules out a string
-- more, or one less.
pub reads_until_found_or_passed : (look : ℕ → List ℕ → Turn) (xs : List ℕ) (n k : ℕ) (ss : List Str) → check_of Strict Read xs n ≡ accepted
    → k < count_of (take n xs) → Lists Strict (take n xs) (pos k) ss → 32 < block_size_of (high_first (take n xs)) (take n xs) (trace_at (take n xs) k)
    → read_in look (take n xs) k ≡ list_read look (string_end (take n xs)) 0 ss
unfolding read_in
reads_until_found_or_passed look xs n k ss ok low l more =
    let f : List ℕ = take n xs in
    let p : ℕ = trace_at f k in
    let e : ℕ = data_at (high_first f) f p in
    let c = checked Strict xs n ok in
    let b = trace_blocked Strict f c.image k low in
    let h = image_headed Strict Read f c.image in
    let ends : LineEnd (line_end f) = good_ends f 11 (omega (arith, c.size, c.least)) h.lines in
    let q = sym l.area ∙ trace_area f k low in
    let parts : ◌≡◌ {A = ℕ × ℕ} (l.a, l.e) (p + 32, e) = cc in
    let ends_at = pair_parts parts in
    let spells : Spells Strict (high_first f) (string_end f) (line_end f) ss (part (p + 32) e f) = rw (ends_at.0, ends_at.1) at l.spells in
    read_listed look (high_first f) (string_end f) (line_end f) (Trace k) ends (p + 32) spells (omega (arith, length_part (p + 32) e f b.fits))

-- "only until the keyword is found": on any file they end with the found string's terminator
pub found_is_the_last_read : (look : ℕ → List ℕ → Turn) (f : List ℕ) (k : ℕ) (s : Place) → walk_in look f k ≡ Ok (walked.At s)
    → s.end + length (string_end f) ≡ trace_at f k + 32 + read_in look f k
found_is_the_last_read = found_is_last

-- ---- "Refusals: those of 01 for the bytes read, in 01's order, with 18 between 7 and 8", then the question's own

-- the strings from one at the place `at` on: 14 and 15, 16 and 17 of each as in demands_rows/FileRows `string_rows`, and then the
-- next string's, unless the walk ends
unfoldable pub walk_rows : (ℕ → List ℕ → Turn) → ℕ → Bool → List ℕ → List ℕ → Part → ℕ → List ℕ → List ℕ → ℕ → List Verdict
walk_rows look zero high t u p j prev l at = row true StringOffset p at ∷ []
walk_rows look (suc m) high t u p j prev l at =
    let o = offset high l in
    let b = body t o l in
    let k = take (key_len b) (drop 2 l) in
    rows_at p at (frame_rows Strict high t l)
    ++ pick (eqb o 0) [] (rows_at p at (text_rows Strict u prev b) ++ on_turn (look j k) [] [] (walk_rows look m high t u p (j + 1) k (drop o l) (at + o)))

abbrev pub strings_rows : (ℕ → List ℕ → Turn) → List ℕ → ℕ → List Verdict
strings_rows look f k =
    let l = part (trace_at f k + 32) (data_at (high_first f) f (trace_at f k)) f in
    pick (eqb (length l) 0) [] (walk_rows look (length l) (high_first f) (string_end f) (line_end f) (Trace k) 0 [] l (trace_at f k + 32))

-- 8 "here means no multiple of 4, below 32+M, or p+32 past the end"; then 9 to 13, and the question's own
abbrev pub own_rows : List ℕ → ℕ → List Verdict → List Verdict
own_rows f k own =
    let p = trace_at f k in
    pointer_test (length f) k (32 + room_of f) p ∷ (each (block_rows (high_first f) (head_at f p) (length f) k p) ++ own)

-- 1, 2 to 7, 18, and those
abbrev pub quick_rows : List ℕ → ℕ → ℤ → List Verdict → List Verdict
quick_rows xs n z own =
    let f = take n xs in
    row (bad_length (length xs) n) Length File 0
    ∷ (each (head_rows Read (take 32 f) (length f)) ++ (row (not (is_trace z (count_of f))) NoTrace File 0 ∷ own_rows f (trace_number z) own))

-- what an answer refuses
abbrev pub string_refusal : Result (Option Place) Refusal → Verdict
string_refusal (Ok (Some s)) = accepted
string_refusal (Ok None) = accepted
string_refusal (Err r) = Err r

abbrev pub trace_refusal : Result TraceBlock Refusal → Verdict
trace_refusal (Ok x) = accepted
trace_refusal (Err r) = Err r

abbrev pub count_refusal : Result ℕ Refusal → Verdict
count_refusal (Ok c) = accepted
count_refusal (Err r) = Err r

abbrev pub number_refusal : Result Decimal Refusal → Verdict
number_refusal (Ok x) = accepted
number_refusal (Err r) = Err r

abbrev pub double_refusal : Result Float Refusal → Verdict
double_refusal (Ok x) = accepted
double_refusal (Err r) = Err r

abbrev pub location_refusal : Result Coordinates Refusal → Verdict
location_refusal (Ok x) = accepted
location_refusal (Err r) = Err r

abbrev pub walk_refusal : Result Walked Refusal → Verdict
walk_refusal (Ok (walked.At s)) = accepted
walk_refusal (Ok (walked.Over j)) = accepted
walk_refusal (Err r) = Err r

-- 32 behind the strings' rows: "four times the count"
abbrev pub row_of32 : List ℕ → ℕ → ℕ → Verdict
row_of32 f k s = row (not (eqb s (4 * length (places_in Strict f (trace_at f k + 32) (data_at (high_first f) f (trace_at f k)))))) RowLength File 0

-- and the i-th four numbers of the row are those of C's answer to the quick question for the i-th string, on any file. Rules
-- out a row of strings that were not judged.
pub quick_row_holds_each : (xs : List ℕ) (n : ℕ) (z : ℤ) (lent : List ℕ) (i : ℕ) (s : Place) → quick_strings xs n z (length lent) ≡ accepted
    → quick_nth xs n z i ≡ Ok (Some s) → part (4 * i) (4 * i + 4) (quick_strings_left xs n z lent) ≡ four_in (as_string (quick_nth xs n z i))
unfolding as_string
quick_row_holds_each xs n z lent i s v h = row_holds xs n z lent i s v h ∙ sym (rw h)

-- "After a refusal nothing has changed" (document 01): each lent row is as it was. Rules out a row that is filled before the
-- last row is judged.
pub refused_strings_change_nothing : (xs : List ℕ) (n : ℕ) (z : ℤ) (lent : List ℕ) (r : Refusal) → quick_strings xs n z (length lent) ≡ Err r
    → quick_strings_left xs n z lent ≡ lent
unfolding quick_strings_left
refused_strings_change_nothing xs n z lent r e = rw e

pub refused_integers_change_nothing : (xs : List ℕ) (n : ℕ) (z : ℤ) (lent : List ℤ) (r : Refusal) → quick_integers xs n z (length lent) ≡ Err r
    → quick_integers_left xs n z lent ≡ lent
unfolding quick_integers_left
refused_integers_change_nothing xs n z lent r e = rw e

pub refused_bits_change_nothing : (xs : List ℕ) (n : ℕ) (z : ℤ) (lent classes : List ℕ) (r : Refusal)
    → quick_bits xs n z (length lent) (length classes) ≡ Err r
    → (quick_patterns_left xs n z lent classes ≡ lent) × (quick_classes_left xs n z lent classes ≡ classes)
unfolding quick_patterns_left quick_classes_left
refused_bits_change_nothing xs n z lent classes r e = (rw e, rw e)

-- "It is asked of traces only": -1, the file, and every other number below 0 is 18, behind 1 to 7, for every question of the
-- family. Rules out the file's own value for -1.
pub traces_only : {A : Type 0} (bad : Refusal → A) (mk : List ℕ → ℕ → A) (xs : List ℕ) (n j : ℕ) → bad_length (length xs) n ≡ false
    → head_of Read (take 32 (take n xs)) (length (take n xs)) ≡ accepted → quickly bad mk xs n (negsuc j) ≡ bad no_trace
unfolding alone_of first_of
traces_only bad mk xs n j long top = rw (long, top)

pub file_value_is_18 : (xs : List ℕ) (n j : ℕ) (key : List ℕ) → bad_length (length xs) n ≡ false
    → head_of Read (take 32 (take n xs)) (length (take n xs)) ≡ accepted → quick_find xs n (negsuc j) key ≡ Err no_trace
unfolding quick_find quick_walk
file_value_is_18 xs n j key long top = ap told_by (traces_only Err (walk_in (by_key key)) xs n j long top)
