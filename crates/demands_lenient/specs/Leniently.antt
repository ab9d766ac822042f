-- Document 02 §11, older recorders: "Add a lenient reading beside the strict one: it takes lower-case keyword letters as
-- upper case, accepts any order and repeats, and ends a list where no byte of the area is left. It answers the same strings
-- as the strict reading on each strictly accepted file. Adding to a file still needs the strict check. On other files it
-- tells the first strict refusal beside its own answer. Refusals: 14 to 16 as in 01 without the three points named; 17 and
-- 34 are never given here." xs is the lent buffer, n the length given beside it.
-- Assumes nothing.
use Rattle.std.specs.Prelude.{◌≡◌, refl, List, ◌⊎◌, ◌↔◌, ℕ, ◌≤◌, ◌<◌, ℤ, pos, negsuc, length, take, Result, Err, Option, Bool, Float}
use Rattle.std.proofs.Common.{ap₂}
use Rattle.word.specs.Bytes.{Bytes}
use Rattle.refusal.specs.declared.Rule.TheVariants.{KeywordOrder, ChannelNumber}
use Rattle.refusal.specs.declared.Refusal.{Refusal}
use Rattle.refusal.specs.Verdicts.{accepted, Verdict}
use Rattle.refusal.specs.FirstRow.{first_of, Met, refused_by_the_first}
use Rattle.text.specs.declared.Manner.TheVariants.{Strict, Lenient}
use Rattle.head_limits.specs.declared.Purpose.TheVariants.{Read, Grow}
use Rattle.head_words.specs.HeadWords.{count_of}
use Rattle.strings.specs.Spelled.{Str}
use Rattle.image.specs.Image.{check_of}
use Rattle.image.specs.Keeps.{Keeps}
use Rattle.image.proofs.Accepted.{accepted_keeps, keeps_accepted}
use Rattle.reader.specs.Listed.{Lists, file_lists, trace_lists, lists_once}
use Rattle.reader.specs.Answers.{integers_kept, bits_kept}
use Rattle.reader.specs.Questions.{file_answer, trace_answer, count_answer, nth_answer, find_answer, keyword_answer, strings_answer, strings_left}
use Rattle.reader.specs.Questions.{number_answer, double_answer, location_answer, integers_answer, integers_left, bits_answer, patterns_left, classes_left}
use Rattle.layout.specs.Layout.{Trace}
use Rattle.opening.specs.Opening.{area_answer}
use Rattle.writer.specs.Answers.{add_into, add_answer, add_left}
use Rattle.writer.specs.Shown.{add_refused}
use Rattle.growth.specs.Answered.{AnswersBy, answered}
use Rattle.face.specs.Face.{as_verdict}
use Rattle.face_lenient.specs.FaceLenient.{lenient_verdict, lenient_file, lenient_trace, lenient_count, lenient_string, lenient_keyword}
use Rattle.face_lenient.specs.FaceLenient.{lenient_value, lenient_number, lenient_double, lenient_location}
use Rattle.lenient.specs.Forgiven.{ForgivenIn}
use Rattle.lenient.proofs.Forgiven.{strict_lenient, refused_or_forgiven}
use Rattle.lenient.proofs.Never.{never_order}
use Rattle.lenient.proofs.Answers.{file_alike, trace_alike, count_alike, nth_alike, find_alike, keyword_alike, number_alike, double_alike}
use Rattle.lenient.proofs.Answers.{location_alike, strings_alike, integers_alike, bits_alike}
use Rattle.demands_rows.specs.FileRows.{check_rows, check_answers_first}
use Rattle.demands_rows.specs.QuestionRows.{strings_asked_rows, strings_answer_first, integers_asked_rows, integers_answer_first, bits_asked_rows, bits_answer_first}
use Rattle.block.specs.declared.TraceBlock.{TraceBlock}
use Rattle.decimal_parts.specs.declared.Decimal.{Decimal}
use Rattle.location.specs.declared.Coordinates.{Coordinates}
use Rattle.head_words.specs.declared.FileBlock.{FileBlock}
use Rattle.strings.specs.declared.Place.{Place}

-- ---- accepted leniently exactly where the lenient rules are kept: `Keeps` in the lenient manner, in no order of checking.
-- What that asks of strings, in plain words, is Plain's. Rules out a reading that takes a broken file, and one that refuses
-- an old one.
pub lenient_exactly_when_kept : (xs : List ℕ) (n : ℕ) → Bytes xs → (check_of Lenient Read xs n ≡ accepted) ↔ ((n ≤ length xs) × Keeps Lenient Read (take n xs))
lenient_exactly_when_kept xs n by = (accepted_keeps Lenient Read xs n by, λ k. keeps_accepted Lenient Read xs n k.0 k.1)

-- each part has one list of strings, which its bytes spell, and every question on it is answered by that list, a keyword by
-- the first string that counts as it. Rules out a question that answers the last repeat, and a string that is left out.
pub lenient_strings_of_the_file : (xs : List ℕ) (n : ℕ) → Bytes xs → check_of Lenient Read xs n ≡ accepted
    → (ss : List Str) × Lists Lenient (take n xs) (negsuc 0) ss × AnswersBy Lenient xs n (negsuc 0) ss
lenient_strings_of_the_file xs n by ok = let l = file_lists Lenient xs n by ok in (l.0, l.1, answered Lenient xs n (negsuc 0) l.0 ok l.1)

pub lenient_strings_of_a_trace : (xs : List ℕ) (n k : ℕ) → Bytes xs → check_of Lenient Read xs n ≡ accepted → k < count_of (take n xs)
    → (ss : List Str) × Lists Lenient (take n xs) (pos k) ss × AnswersBy Lenient xs n (pos k) ss
lenient_strings_of_a_trace xs n k by ok low =
    let l = trace_lists Lenient xs n k by ok low in
    (l.0, l.1, answered Lenient xs n (pos k) l.0 ok l.1)

pub one_lenient_list : (f : List ℕ) (z : ℤ) (ss rs : List Str) → Lists Lenient f z ss → Lists Lenient f z rs → ss ≡ rs
one_lenient_list = lists_once Lenient

-- ---- "It answers the same strings as the strict reading on each strictly accepted file", and so every question: the whole
-- answer as it crosses is the strict one with no strict refusal beside it, and each lent row is the strict one's. Rules out
-- a lower-case letter that is changed in a value, and a strict refusal that is told where there is none.
pub record AsStrict (xs : List ℕ) (n : ℕ) : Type 0 where
  pub check : lenient_verdict (check_of Lenient Read xs n) (check_of Strict Read xs n) ≡ lenient_verdict accepted accepted
  pub file : lenient_file (file_answer Lenient xs n) (check_of Strict Read xs n) ≡ lenient_file (file_answer Strict xs n) accepted
  pub block : (z : ℤ) → lenient_trace (trace_answer Lenient xs n z) (check_of Strict Read xs n) ≡ lenient_trace (trace_answer Strict xs n z) accepted
  pub strings : (z : ℤ) → lenient_count (count_answer Lenient xs n z) (check_of Strict Read xs n) ≡ lenient_count (count_answer Strict xs n z) accepted
  pub string : (z : ℤ) (i : ℕ) → lenient_string (nth_answer Lenient xs n z i) (check_of Strict Read xs n) ≡ lenient_string (nth_answer Strict xs n z i) accepted
  pub all_strings : (z : ℤ) (row : List ℕ)
      → (lenient_verdict (strings_answer Lenient xs n z (length row)) (check_of Strict Read xs n) ≡ lenient_verdict (strings_answer Strict xs n z (length row)) accepted)
      × (strings_left Lenient xs n z row ≡ strings_left Strict xs n z row)
  pub keyword : (z : ℤ) (key : List ℕ)
      → lenient_keyword (keyword_answer Lenient xs n z key) (check_of Strict Read xs n) ≡ lenient_keyword (keyword_answer Strict xs n z key) accepted
  pub value : (z : ℤ) (key : List ℕ)
      → lenient_value (find_answer Lenient xs n z key) (check_of Strict Read xs n) ≡ lenient_value (find_answer Strict xs n z key) accepted
  pub number : (z : ℤ) (key : List ℕ)
      → lenient_number (number_answer Lenient xs n z key) (check_of Strict Read xs n) ≡ lenient_number (number_answer Strict xs n z key) accepted
  pub double : (z : ℤ) (key : List ℕ)
      → lenient_double (double_answer Lenient xs n z key) (check_of Strict Read xs n) ≡ lenient_double (double_answer Strict xs n z key) accepted
  pub location : (z : ℤ) (key : List ℕ)
      → lenient_location (location_answer Lenient xs n z key) (check_of Strict Read xs n) ≡ lenient_location (location_answer Strict xs n z key) accepted
  pub integers : (z : ℤ) (row : List ℤ)
      → (lenient_verdict (integers_answer Lenient xs n z (length row)) (check_of Strict Read xs n) ≡ lenient_verdict (integers_answer Strict xs n z (length row)) accepted)
      × (integers_left Lenient xs n z row ≡ integers_left Strict xs n z row)
  pub bits : (z : ℤ) (row classes : List ℕ)
      → (lenient_verdict (bits_answer Lenient xs n z (length row) (length classes)) (check_of Strict Read xs n)
      ≡ lenient_verdict (bits_answer Strict xs n z (length row) (length classes)) accepted)
      × (patterns_left Lenient xs n z row classes ≡ patterns_left Strict xs n z row classes)
      × (classes_left Lenient xs n z row classes ≡ classes_left Strict xs n z row classes)

pub lenient_as_strict : (xs : List ℕ) (n : ℕ) → check_of Strict Read xs n ≡ accepted → AsStrict xs n
lenient_as_strict xs n ok =
    record {
      check = ap₂ lenient_verdict (strict_lenient Read xs n ok) ok;
      file = ap₂ lenient_file (file_alike xs n ok) ok;
      block = λ z. ap₂ lenient_trace (trace_alike xs n ok z) ok;
      strings = λ z. ap₂ lenient_count (count_alike xs n ok z) ok;
      string = λ z i. ap₂ lenient_string (nth_alike xs n ok z i) ok;
      all_strings = λ z row. (let s = strings_alike xs n ok z row in (ap₂ lenient_verdict s.0 ok, s.1));
      keyword = λ z key. ap₂ lenient_keyword (keyword_alike xs n ok z key) ok;
      value = λ z key. ap₂ lenient_value (find_alike xs n ok z key) ok;
      number = λ z key. ap₂ lenient_number (number_alike xs n ok z key) ok;
      double = λ z key. ap₂ lenient_double (double_alike xs n ok z key) ok;
      location = λ z key. ap₂ lenient_location (location_alike xs n ok z key) ok;
      integers = λ z row. (let s = integers_alike xs n ok z row in (ap₂ lenient_verdict s.0 ok, s.1));
      bits = λ z row classes. (let s = bits_alike xs n ok z row classes in (ap₂ lenient_verdict s.0 ok, s.1, s.2));
    }

-- what the strict check lets through the lenient one does
pub strictly_accepted_leniently : (xs : List ℕ) (n : ℕ) → check_of Strict Read xs n ≡ accepted → check_of Lenient Read xs n ≡ accepted
strictly_accepted_leniently = strict_lenient Read

-- ---- nothing else is forgiven: what the strict check refuses the lenient one refuses by the same row, part and place, or
-- else that row is 14 where no byte of an area is left, 16 of a keyword with lower-case letters that is one in upper case, 17
-- of a string, or 34 (lenient/Forgiven `ForgivenIn`). Rules out one byte left that is taken, a forbidden character in a value
-- that is taken, and a lenient refusal that the strict check would not come to.
pub nothing_else_is_forgiven : (xs : List ℕ) (n : ℕ) (r : Refusal) → check_of Strict Read xs n ≡ Err r
    → (check_of Lenient Read xs n ≡ Err r) ⊎ ForgivenIn (take n xs) r
nothing_else_is_forgiven = refused_or_forgiven Read

-- "17 and 34 are never given here"
pub never_seventeen_nor_thirty_four : (xs : List ℕ) (n : ℕ) (r : Refusal) → check_of Lenient Read xs n ≡ Err r
    → (r.rule ≡ KeywordOrder → ⊥) × (r.rule ≡ ChannelNumber → ⊥)
never_seventeen_nor_thirty_four = never_order Read

-- ---- "Refusals: 14 to 16 as in 01 without the three points named": the first row that is met of the same table in the
-- lenient manner; and the rows of each question behind it. Rules out a question that answers before the file is checked.
pub lenient_refuses_by_the_first : (xs : List ℕ) (n : ℕ) (r : Refusal) → (check_of Lenient Read xs n ≡ Err r) ↔ Met (check_rows Lenient Read xs n) r
lenient_refuses_by_the_first xs n r = rw (check_answers_first Lenient Read xs n) (refused_by_the_first (check_rows Lenient Read xs n) r)

pub lenient_rows_refuse_by_the_first : (xs : List ℕ) (n : ℕ) (z : ℤ) (s c : ℕ) (r : Refusal)
    → ((strings_answer Lenient xs n z s ≡ Err r) ↔ Met (strings_asked_rows Lenient xs n z s) r)
    × ((integers_answer Lenient xs n z s ≡ Err r) ↔ Met (integers_asked_rows Lenient xs n z s) r)
    × ((bits_answer Lenient xs n z s c ≡ Err r) ↔ Met (bits_asked_rows Lenient xs n z s c) r)
lenient_rows_refuse_by_the_first xs n z s c r = (
  rw (strings_answer_first Lenient xs n z s) (refused_by_the_first (strings_asked_rows Lenient xs n z s) r),
  rw (integers_answer_first Lenient xs n z s) (refused_by_the_first (integers_asked_rows Lenient xs n z s) r),
  rw (bits_answer_first Lenient xs n z s c) (refused_by_the_first (bits_asked_rows Lenient xs n z s c) r),
)

-- after a refusal each lent row is as it was
pub lenient_refusal_changes_nothing : (xs : List ℕ) (n : ℕ) (z : ℤ) (r : Refusal)
    → ((row : List ℕ) → strings_answer Lenient xs n z (length row) ≡ Err r → strings_left Lenient xs n z row ≡ row)
    × ((row : List ℤ) → integers_answer Lenient xs n z (length row) ≡ Err r → integers_left Lenient xs n z row ≡ row)
    × ((row classes : List ℕ) → bits_answer Lenient xs n z (length row) (length classes) ≡ Err r
    → (patterns_left Lenient xs n z row classes ≡ row) × (classes_left Lenient xs n z row classes ≡ classes))
unfolding strings_left
lenient_refusal_changes_nothing xs n z r =
    (λ row e. rw e, λ row e. integers_kept Lenient xs n z row r e, λ row classes e. bits_kept Lenient xs n z row classes r e)

-- ---- "On other files it tells the first strict refusal beside its own answer": whatever the answer, what stands beside it is
-- the strict check's own verdict as it crosses, so the first row of the strict table that is met, or none. Rules out a strict
-- refusal that is left out, or a later one.
pub record Beside (v : Verdict) : Type 0 where
  pub verdict : (a : Verdict) → (lenient_verdict a v).strict ≡ as_verdict v
  pub file : (a : Result FileBlock Refusal) → (lenient_file a v).strict ≡ as_verdict v
  pub trace : (a : Result TraceBlock Refusal) → (lenient_trace a v).strict ≡ as_verdict v
  pub count : (a : Result ℕ Refusal) → (lenient_count a v).strict ≡ as_verdict v
  pub string : (a : Result (Option Place) Refusal) → (lenient_string a v).strict ≡ as_verdict v
  pub keyword : (a : Result Bool Refusal) → (lenient_keyword a v).strict ≡ as_verdict v
  pub value : (a : Result (Option Place) Refusal) → (lenient_value a v).strict ≡ as_verdict v
  pub number : (a : Result Decimal Refusal) → (lenient_number a v).strict ≡ as_verdict v
  pub double : (a : Result Float Refusal) → (lenient_double a v).strict ≡ as_verdict v
  pub location : (a : Result Coordinates Refusal) → (lenient_location a v).strict ≡ as_verdict v

beside : (v : Verdict) → Beside v
unfolding lenient_verdict lenient_file lenient_trace lenient_count lenient_string lenient_keyword lenient_value lenient_number lenient_double lenient_location
beside v =
    record {
      verdict = λ a. refl;
      file = λ a. refl;
      trace = λ a. refl;
      count = λ a. refl;
      string = λ a. refl;
      keyword = λ a. refl;
      value = λ a. refl;
      number = λ a. refl;
      double = λ a. refl;
      location = λ a. refl;
    }

pub strict_refusal_beside : (xs : List ℕ) (n : ℕ) → Beside (check_of Strict Read xs n) × (check_of Strict Read xs n ≡ first_of (check_rows Strict Read xs n))
strict_refusal_beside xs n = (beside (check_of Strict Read xs n), check_answers_first Strict Read xs n)

-- no refusal beside is number 0, part -1, place 0
pub no_refusal_beside : as_verdict accepted ≡ record { number = 0; part = negsuc 0; place = 0 }
unfolding as_verdict
no_refusal_beside = refl

-- ---- "Adding to a file still needs the strict check": what that refuses an addition refuses alike, and changes no byte.
-- Rules out a trace behind an old file.
pub addition_needs_the_strict_check : (xs : List ℕ) (n : ℕ) (x : Trace) (r : Refusal) → check_of Strict Grow xs n ≡ Err r
    → (add_answer xs n x ≡ Err r) × (add_left xs n x ≡ xs)
unfolding add_answer add_into area_answer
addition_needs_the_strict_check xs n x r e = let a : add_answer xs n x ≡ Err r = rw e in (a, add_refused xs n x r a)
