-- Theorems on what specs/Quickly defines. They stand here, as a wrong definition there is to be refused and not to be unread.
-- Assumes nothing.
use Rattle.std.specs.Prelude.{◌≡◌, Bool, not, ◌↔◌, ℤ, length, drop, eqb, Result, Ok, Err, Option, Some, None, refl, true, false, List, [], ◌∷◌, ◌++◌}
use Rattle.std.specs.Prelude.{ℕ, zero, suc, ◌+◌, take}
use Rattle.std.proofs.Common.{sym, ap, ap₂, ◌∙◌}
use Rattle.word.specs.Part.{part}
use Rattle.refusal.specs.declared.Rule.TheVariants.{Length, StringOffset, NoTrace}
use Rattle.refusal.specs.declared.Part.{Part}
use Rattle.refusal.specs.declared.Part.TheVariants.{File, Trace}
use Rattle.refusal.specs.declared.Refusal.{Refusal}
use Rattle.refusal.specs.Table.{refusal}
use Rattle.refusal.specs.Rows.{pick, ruled_map}
use Rattle.refusal.specs.Verdicts.{and_then, asked, accepted}
use Rattle.refusal.specs.FirstRow.{row, first_of, Met, refused_by_the_first, first_next, first_one, first_more, rows_at, rule_first, each}
use Rattle.text.specs.declared.Manner.TheVariants.{Strict}
use Rattle.strings.specs.declared.Place.{Place}
use Rattle.strings.specs.Strings.{offset, body, key_len, frame_rows, end_or_text, frame_of, text_rows, on_frame, step_of, on_step, place_of}
use Rattle.head_limits.specs.declared.Purpose.TheVariants.{Read}
use Rattle.head_words.specs.HeadWords.{high_first, room_of, count_of}
use Rattle.head.specs.Head.{head_rows, head_of}
use Rattle.terminators.specs.Terminators.{string_end, line_end}
use Rattle.block.specs.Block.{data_at, block_rows, block_of, pointer_row}
use Rattle.block.specs.BlockLaws.{head_at}
use Rattle.file_length.specs.FileLength.{bad_length}
use Rattle.image.specs.Keeps.{trace_at}
use Rattle.reader.specs.Questions.{is_trace, trace_number, block_at, on_string}
use Rattle.reader.specs.Questions.{strings_verdict}
use Rattle.reader.specs.Questions.{integers_verdict, integers_rows}
use Rattle.reader.specs.Questions.{bits_verdict, bits_rows}
use Rattle.decimal.specs.Number.{number_in}
use Rattle.double.specs.Double.{double_of}
use Rattle.location.specs.Location.{location_of}
use Rattle.until.specs.declared.Turn.{Turn}
use Rattle.until.specs.declared.Turn.TheVariants.{Here, Gone, On}
use Rattle.until.specs.declared.Walked.{Walked}
use Rattle.until.specs.Until.{by_key, by_index, to_end, on_turn, walk_from, walk_of}
use Rattle.quick.specs.QuickLaws.{never_string, all_counted}
use Rattle.one_trace.specs.Alone.{alone_of, block_alone}
use Rattle.quick.specs.Quick.{quickly, walk_in, told_by, counted_by, quick_walk, quick_find, quick_nth, quick_count, quick_strings}
use Rattle.quick.specs.Quick.{quick_value, quick_read, quick_number, quick_double, quick_location}
use Rattle.quick.specs.Quick.{quick_integers, quick_bits}
use Rattle.demands_rows.specs.FileRows.{text_first, ends_first, pick_first, pointer_test, block_first, head_first}
use Rattle.demands_rows.specs.QuestionRows.{ruled_rows}
use Rattle.demands_quick.specs.Quickly.{count_refusal, double_refusal, location_refusal, number_refusal, quick_rows}
use Rattle.demands_quick.specs.Quickly.{row_of32, string_refusal, strings_rows, trace_refusal, walk_refusal}
use Rattle.demands_quick.specs.Quickly.{walk_rows}
use Rattle.refusal.specs.declared.Rule.{Rule}
use Rattle.refusal.specs.Verdicts.{Verdict}
use Rattle.until.specs.declared.Walked.TheVariants as walked

-- ---- the rows of a walk

-- what a step leads to, refused or not
step_refusal : (st : Result (Option (ℕ × ℕ)) Refusal) (j : ℕ) (next : ℕ → ℕ → Result Walked Refusal)
    → walk_refusal (Rattle.until.specs.Until.on_step st Err (Ok (walked.Over j)) next) ≡ on_step st (λ o n. walk_refusal (next o n))
step_refusal (Ok (Some (o, n))) j next = refl
step_refusal (Ok None) j next = refl
step_refusal (Err r) j next = refl

turn_refusal : (w : Turn) (j : ℕ) (s : Place) (x : Result Walked Refusal) (rows : List Verdict) → walk_refusal x ≡ first_of rows
    → walk_refusal (on_turn w (Ok (walked.At s)) (Ok (walked.Over j)) x) ≡ first_of (on_turn w [] [] rows)
unfolding first_of
turn_refusal Here j s x rows h = refl
turn_refusal Gone j s x rows h = refl
turn_refusal On j s x rows h = h

module _ (look : ℕ → List ℕ → Turn) where
  walk_first : (m : ℕ) (high : Bool) (t u : List ℕ) (p : Part) (j : ℕ) (prev l : List ℕ) (at : ℕ)
      → walk_refusal (walk_from look m high t u p j prev l at) ≡ first_of (walk_rows look m high t u p j prev l at)
  unfolding walk_from walk_rows step_of frame_of on_frame
  walk_first zero high t u p j prev l at = first_one (Err (refusal StringOffset p at))
  walk_first (suc m) high t u p j prev l at =
      let o : ℕ = offset high l in
      let b : List ℕ = body t o l in
      let k : List ℕ = take (key_len b) (drop 2 l) in
      let step : ℕ → ℕ → Result Walked Refusal =
      λ i n.
      on_turn (look j (take n (drop 2 l))) (Ok (walked.At (place_of t i l at))) (Ok (walked.Over j))
      (walk_from look m high t u p (j + 1) (take n (drop 2 l)) (drop i l) (at + i)) in
      let next : ℕ → ℕ → Verdict = λ i n. walk_refusal (step i n) in
      let more : List Verdict = on_turn (look j k) [] [] (walk_rows look m high t u p (j + 1) k (drop o l) (at + o)) in
      let rs = frame_rows Strict high t l in
      step_refusal (step_of Strict high t u p prev l at) j step
      ∙ ruled_map (λ (w : Result (Option ℕ) Rule). on_step (on_frame Strict w t u prev l p at) next) rs Err (end_or_text high l)
      ∙ rule_first rs p at (on_step (on_frame Strict (end_or_text high l) t u prev l p at) next)
      ∙ ap (and_then (first_of (rows_at p at rs)))
      (ends_first Strict (eqb o 0) o t u prev l p at next (rows_at p at (text_rows Strict u prev b) ++ more)
      (text_first Strict u prev b p at o next more
      (turn_refusal (look j k) j (place_of t o l at) _ (walk_rows look m high t u p (j + 1) k (drop o l) (at + o))
      (walk_first m high t u p (j + 1) k (drop o l) (at + o)))))
      ∙ sym (first_more (rows_at p at rs) (pick (eqb o 0) [] (rows_at p at (text_rows Strict u prev b) ++ more)))

  strings_first : (f : List ℕ) (k : ℕ) → walk_refusal (walk_in look f k) ≡ first_of (strings_rows look f k)
  unfolding walk_in walk_of
  strings_first f k =
      let l : List ℕ = part (trace_at f k + 32) (data_at (high_first f) f (trace_at f k)) f in
      let x : Result Walked Refusal = walk_from look (length l) (high_first f) (string_end f) (line_end f) (Trace k) 0 [] l (trace_at f k + 32) in
      outside (eqb (length l) 0) x
      ∙ pick_first (eqb (length l) 0) (walk_refusal x)
      (walk_rows look (length l) (high_first f) (string_end f) (line_end f) (Trace k) 0 [] l (trace_at f k + 32))
      (walk_first (length l) (high_first f) (string_end f) (line_end f) (Trace k) 0 [] l (trace_at f k + 32))
    where
      outside : (w : Bool) (y : Result Walked Refusal) → walk_refusal (pick w (Ok (walked.Over 0)) y) ≡ pick w accepted (walk_refusal y)
      outside true y = refl
      outside false y = refl

-- ---- the whole, for every question of the family: behind the rows of the trace its own
rows_first : (xs : List ℕ) (n : ℕ) (z : ℤ) (own : List Verdict) → and_then (alone_of xs n z) (first_of own) ≡ first_of (quick_rows xs n z own)
unfolding alone_of pointer_row
rows_first xs n z own =
    let f : List ℕ = take n xs in
    let k : ℕ = trace_number z in
    let p : ℕ = trace_at f k in
    let one : Verdict = row (bad_length (length xs) n) Length File 0 in
    let top : Verdict = head_of Read (take 32 f) (length f) in
    let gone : Verdict = row (not (is_trace z (count_of f))) NoTrace File 0 in
    let eight : Verdict = pointer_test (length f) k (32 + room_of f) p in
    let block : Verdict = block_of (high_first f) (head_at f p) (length f) k p in
    let blocks : List Verdict = each (block_rows (high_first f) (head_at f p) (length f) k p) in
    let heads : List Verdict = each (head_rows Read (take 32 f) (length f)) in
    sym (first_more (one ∷ top ∷ gone ∷ eight ∷ block ∷ []) own)
    ∙ first_next one (top ∷ gone ∷ eight ∷ block ∷ own)
    ∙ ap (and_then one)
    (first_next top (gone ∷ eight ∷ block ∷ own)
    ∙ ap₂ and_then (head_first Read (take 32 f) (length f))
    (first_next gone (eight ∷ block ∷ own)
    ∙ ap (and_then gone)
    (first_next eight (block ∷ own)
    ∙ ap (and_then eight)
    (first_next block own ∙ ap (λ (v : Verdict). and_then v (first_of own)) (block_first (high_first f) (head_at f p) (length f) k p)
    ∙ sym (first_more blocks own))
    ∙ sym (first_next eight (blocks ++ own)))
    ∙ sym (first_next gone (eight ∷ (blocks ++ own))))
    ∙ sym (first_more heads (gone ∷ eight ∷ (blocks ++ own))))
    ∙ sym (first_next one (heads ++ (gone ∷ eight ∷ (blocks ++ own))))

quickly_first : {A : Type 0} (refuses : A → Verdict) (bad : Refusal → A) (mk : List ℕ → ℕ → A) → ((r : Refusal) → refuses (bad r) ≡ Err r)
    → (xs : List ℕ) (n : ℕ) (z : ℤ) (own : List Verdict) → refuses (mk (take n xs) (trace_number z)) ≡ first_of own
    → refuses (quickly bad mk xs n z) ≡ first_of (quick_rows xs n z own)
unfolding and_then
quickly_first {A} refuses bad mk b xs n z own h =
    outside (alone_of xs n z) (mk (take n xs) (trace_number z)) ∙ ap (and_then (alone_of xs n z)) h ∙ rows_first xs n z own
  where
    outside : (v : Verdict) (x : A) → refuses (asked bad v x) ≡ and_then v (refuses x)
    outside (Ok _) x = refl
    outside (Err r) x = b r

-- each answer refuses by the first row that is met, and else not at all. Rules out 18 before 7 or behind 8, a pointer that is
-- compared with the trace before, a string that is not judged, one that is judged though it is not read, and 34.
pub block_answers_first : (xs : List ℕ) (n : ℕ) (z : ℤ) → trace_refusal (block_alone xs n z) ≡ first_of (quick_rows xs n z [])
unfolding block_alone first_of
block_answers_first xs n z = quickly_first trace_refusal Err (λ f k. Ok (block_at f k)) (λ r. refl) xs n z [] refl

walk_answers_first : (look : ℕ → List ℕ → Turn) (xs : List ℕ) (n : ℕ) (z : ℤ)
    → walk_refusal (quick_walk look xs n z) ≡ first_of (quick_rows xs n z (strings_rows look (take n xs) (trace_number z)))
unfolding quick_walk
walk_answers_first look xs n z =
    quickly_first walk_refusal Err (walk_in look) (λ r. refl) xs n z (strings_rows look (take n xs) (trace_number z))
    (strings_first look (take n xs) (trace_number z))

told_refusal : (w : Result Walked Refusal) → string_refusal (told_by w) ≡ walk_refusal w
told_refusal (Ok (walked.At s)) = refl
told_refusal (Ok (walked.Over j)) = refl
told_refusal (Err r) = refl

counted_refusal : (w : Result Walked Refusal) → count_refusal (counted_by w) ≡ walk_refusal w
counted_refusal (Ok (walked.At s)) = refl
counted_refusal (Ok (walked.Over j)) = refl
counted_refusal (Err r) = refl

pub quick_answers_first : (xs : List ℕ) (n : ℕ) (z : ℤ) (key : List ℕ)
    → string_refusal (quick_find xs n z key) ≡ first_of (quick_rows xs n z (strings_rows (by_key key) (take n xs) (trace_number z)))
unfolding quick_find
quick_answers_first xs n z key = told_refusal (quick_walk (by_key key) xs n z) ∙ walk_answers_first (by_key key) xs n z

pub string_answers_first : (xs : List ℕ) (n : ℕ) (z : ℤ) (i : ℕ)
    → string_refusal (quick_nth xs n z i) ≡ first_of (quick_rows xs n z (strings_rows (by_index i) (take n xs) (trace_number z)))
unfolding quick_nth
string_answers_first xs n z i = told_refusal (quick_walk (by_index i) xs n z) ∙ walk_answers_first (by_index i) xs n z

pub count_answers_first : (xs : List ℕ) (n : ℕ) (z : ℤ)
    → count_refusal (quick_count xs n z) ≡ first_of (quick_rows xs n z (strings_rows to_end (take n xs) (trace_number z)))
unfolding quick_count
count_answers_first xs n z = counted_refusal (quick_walk to_end xs n z) ∙ walk_answers_first to_end xs n z

pub strings_answer_first : (xs : List ℕ) (n : ℕ) (z : ℤ) (s : ℕ)
    → quick_strings xs n z s
    ≡ first_of (quick_rows xs n z (strings_rows to_end (take n xs) (trace_number z) ++ (row_of32 (take n xs) (trace_number z) s ∷ [])))
unfolding quick_strings quick_count quick_walk and_then
strings_answer_first xs n z s =
    outside (alone_of xs n z) (walk_in to_end f k)
    ∙ quickly_first (λ v. v) Err (λ l i. strings_verdict (counted_by (walk_in to_end l i)) s) (λ r. refl) xs n z
    (strings_rows to_end f k ++ (row_of32 f k s ∷ []))
    (own (walk_in to_end f k) refl ∙ ap (λ (v : Verdict). and_then v (row_of32 f k s)) (strings_first to_end f k)
    ∙ ap (and_then (first_of (strings_rows to_end f k))) (first_one (row_of32 f k s)) ∙ sym (first_more (strings_rows to_end f k) (row_of32 f k s ∷ [])))
  where
    f : List ℕ
    f = take n xs

    k : ℕ
    k = trace_number z

    outside : (v : Verdict) (w : Result Walked Refusal) → strings_verdict (counted_by (asked Err v w)) s ≡ asked Err v (strings_verdict (counted_by w) s)
    outside (Ok _) w = refl
    outside (Err r) w = refl

    own : (w : Result Walked Refusal) → walk_in to_end f k ≡ w → strings_verdict (counted_by w) s ≡ and_then (walk_refusal w) (row_of32 f k s)
    own (Ok (walked.At p)) h = absurd (never_string f k p h)
    own (Ok (walked.Over c)) h = rw (all_counted f k c h)
    own (Err r) h = refl

-- 20 to 23 behind the search's rows: those of the value
read_first : {A : Type 0} (refuses : A → Verdict) (bad : Refusal → A) (read : List ℕ → A) → ((r : Refusal) → refuses (bad r) ≡ Err r)
    → (xs : List ℕ) (n : ℕ) (z : ℤ) (key : List ℕ)
    → refuses (quick_read bad read xs n z key)
    ≡ first_of (quick_rows xs n z (strings_rows (by_key key) (take n xs) (trace_number z)) ++ (refuses (read (quick_value xs n z key)) ∷ []))
unfolding and_then
read_first {A} refuses bad read b xs n z key =
    outside (quick_find xs n z key) (read (quick_value xs n z key))
    ∙ ap (λ (v : Verdict). and_then v (refuses (read (quick_value xs n z key)))) (quick_answers_first xs n z key)
    ∙ ap (and_then (first_of (quick_rows xs n z (strings_rows (by_key key) (take n xs) (trace_number z)))))
    (first_one (refuses (read (quick_value xs n z key))))
    ∙ sym (first_more (quick_rows xs n z (strings_rows (by_key key) (take n xs) (trace_number z))) (refuses (read (quick_value xs n z key)) ∷ []))
  where
    outside : (s : Result (Option Place) Refusal) (x : A) → refuses (on_string bad s x) ≡ and_then (string_refusal s) (refuses x)
    outside (Ok (Some p)) x = refl
    outside (Ok None) x = refl
    outside (Err r) x = b r

pub number_answers_first : (xs : List ℕ) (n : ℕ) (z : ℤ) (key : List ℕ)
    → number_refusal (quick_number xs n z key)
    ≡ first_of (quick_rows xs n z (strings_rows (by_key key) (take n xs) (trace_number z)) ++ (number_refusal (number_in (quick_value xs n z key)) ∷ []))
unfolding quick_number
number_answers_first = read_first number_refusal Err number_in (λ r. refl)

pub double_answers_first : (xs : List ℕ) (n : ℕ) (z : ℤ) (key : List ℕ)
    → double_refusal (quick_double xs n z key)
    ≡ first_of (quick_rows xs n z (strings_rows (by_key key) (take n xs) (trace_number z)) ++ (double_refusal (double_of (quick_value xs n z key)) ∷ []))
unfolding quick_double
double_answers_first = read_first double_refusal Err double_of (λ r. refl)

pub location_answers_first : (xs : List ℕ) (n : ℕ) (z : ℤ) (key : List ℕ)
    → location_refusal (quick_location xs n z key)
    ≡ first_of (quick_rows xs n z (strings_rows (by_key key) (take n xs) (trace_number z)) ++ (location_refusal (location_of (quick_value xs n z key)) ∷ []))
unfolding quick_location
location_answers_first = read_first location_refusal Err location_of (λ r. refl)

-- 33 and 32 behind the block's rows
pub integers_answer_first : (xs : List ℕ) (n : ℕ) (z : ℤ) (s : ℕ)
    → quick_integers xs n z s ≡ first_of (quick_rows xs n z (rows_at File 0 (integers_rows (block_at (take n xs) (trace_number z)) s)))
unfolding quick_integers integers_verdict
integers_answer_first xs n z s =
    quickly_first (λ v. v) Err (λ f k. integers_verdict (block_at f k) s) (λ r. refl) xs n z _
    (ruled_rows (integers_rows (block_at (take n xs) (trace_number z)) s))

pub bits_answer_first : (xs : List ℕ) (n : ℕ) (z : ℤ) (s c : ℕ)
    → quick_bits xs n z s c ≡ first_of (quick_rows xs n z (rows_at File 0 (bits_rows (block_at (take n xs) (trace_number z)) s c)))
unfolding quick_bits bits_verdict
bits_answer_first xs n z s c =
    quickly_first (λ v. v) Err (λ f k. bits_verdict (block_at f k) s c) (λ r. refl) xs n z _
    (ruled_rows (bits_rows (block_at (take n xs) (trace_number z)) s c))

-- what a list of rows refuses is met in it, behind none that is met
pub quick_refuses_by_the_first : (xs : List ℕ) (n : ℕ) (z : ℤ) (key : List ℕ) (r : Refusal)
    → (string_refusal (quick_find xs n z key) ≡ Err r) ↔ Met (quick_rows xs n z (strings_rows (by_key key) (take n xs) (trace_number z))) r
quick_refuses_by_the_first xs n z key r =
    rw (quick_answers_first xs n z key) (refused_by_the_first (quick_rows xs n z (strings_rows (by_key key) (take n xs) (trace_number z))) r)
