-- Demand 1, the questions: "Every question checks the whole file first", then "18 no such trace (a keyword question
-- also takes -1, the file); 33 integers asked of code 4 or 5, or bits of 1 to 3; 32 an output row's length is not S: in
-- that order, place 0" (document 01). Each is a list of rows, and the answer the first of it that is met, or else the
-- value.
-- Assumes nothing.
use Rattle.std.specs.Prelude.{◌≡◌, refl, Bool, true, false, not, ◌||◌, List, [], ◌∷◌, ◌++◌, ℕ, zero, suc, ◌+◌, ◌*◌, ℤ, pos, negsuc, nat_abs, length, take, ltb, eqb, Result, Ok, Err, Option, Some, None}
use Rattle.std.proofs.Common.{sym, ap, ◌∙◌, arith, ne_eqb}
use Rattle.std.specs.Int.Signed.{lt_z}
use Rattle.head_limits.specs.declared.Purpose.TheVariants.{Read}
use Rattle.text.specs.declared.Manner.{Manner}
use Rattle.refusal.specs.Verdicts.{and_then, asked, accepted, Verdict}
use Rattle.refusal.specs.declared.Rule.{Rule}
use Rattle.refusal.specs.declared.Rule.TheVariants.{NoTrace, RowLength, CodeKind}
use Rattle.refusal.specs.declared.Part.TheVariants.{File, Trace}
use Rattle.refusal.specs.declared.Refusal.{Refusal}
use Rattle.refusal.specs.Table.{refusal}
use Rattle.refusal.specs.Rows.{Rows, pick, first, ruled}
use Rattle.strings.specs.declared.Place.{Place}
use Rattle.strings.specs.Strings.{nth_of, find_of, value_found}
use Rattle.decimal_parts.specs.declared.Decimal.{Decimal}
use Rattle.location.specs.declared.Coordinate.{Coordinate}
use Rattle.decimal_parts.specs.Answer.{decimal_of, limits, judged}
use Rattle.decimal.specs.Number.{shape_rows, parts_of, number_in}
use Rattle.double.specs.Double.{scaled_of, with_sign, no_double, double_from, on_number, double_of}
use Rattle.location.specs.Values.{Value, values_of}
use Rattle.location.specs.Location.{value_count, coordinate_of, alone, together, on_coordinate, one_of, three_of, located, location_of}
use Rattle.head_words.specs.HeadWords.{file_block_of, high_first, count_of}
use Rattle.block.specs.Block.{trace_block_of}
use Rattle.image.specs.Image.{check_of}
use Rattle.word.specs.Part.{part}
use Rattle.places.specs.Numbers.{numbers_of, numbers_nth}
use Rattle.face_values.specs.declared.Seg2String.{Seg2String}
use Rattle.face_values.specs.FaceValues.{as_string}
use Rattle.part_number.specs.PartNumber.{whose_of}
use Rattle.reader.specs.Questions.{no_trace, is_trace, area_named, area_asked, on_area, on_trace, file_answer, trace_answer}
use Rattle.reader.specs.Questions.{strings_verdict, strings_answer, strings_left, numbers_in}
use Rattle.reader.specs.Questions.{places_in, count_answer, there, nth_answer, find_answer, yes_or_no, keyword_answer}
use Rattle.reader.specs.Questions.{value_there, value_answer, on_string, number_answer, double_answer, location_answer}
use Rattle.reader.specs.Questions.{code_at, count_at, of_integers, of_bits, block_at, integers_rows, bits_rows}
use Rattle.reader.specs.Questions.{integers_verdict, bits_verdict, integers_answer, bits_answer, trace_number}
use Rattle.reader.specs.Leaves.{on_trace_lem}
use Rattle.reader.specs.Listed.{found_value}
use Rattle.refusal.specs.FirstRow.{row, first_of, first_one, first_more, rows_at, rule_first, asked_more, asked_row, asked_none}
use Rattle.demands_rows.specs.FileRows.{check_rows, check_answers_first}
use Rattle.location.specs.declared.Coordinates.{Coordinates}

-- ---- 18

-- the number of a trace or of the file
abbrev pub is_part : ℤ → ℕ → Bool
is_part (pos k) n = ltb k n
is_part (negsuc zero) n = true
is_part (negsuc (suc k)) n = false

abbrev pub trace_asked_rows : Manner → List ℕ → ℕ → ℤ → List Verdict
trace_asked_rows how xs n z = check_rows how Read xs n ++ (row (not (is_trace z (count_of (take n xs)))) NoTrace File 0 ∷ [])

abbrev pub part_asked_rows : Manner → List ℕ → ℕ → ℤ → List Verdict
part_asked_rows how xs n z = check_rows how Read xs n ++ (row (not (is_part z (count_of (take n xs)))) NoTrace File 0 ∷ [])

-- behind the check a row and the value
one_more : {A : Type 0} (bad : Refusal → A) (vs : List Verdict) (w : Bool) (a : A)
    → asked bad (first_of (vs ++ (row w NoTrace File 0 ∷ []))) a ≡ asked bad (first_of vs) (pick w (bad no_trace) a)
one_more bad vs w a =
    asked_more bad vs (row w NoTrace File 0 ∷ []) a
    ∙ ap (asked bad (first_of vs)) (asked_row bad w NoTrace File 0 [] a ∙ ap (pick w (bad no_trace)) (asked_none bad a))

-- ---- blocks

-- Rules out an answer on a file that the check refuses, and a refusal of one that it accepts.
pub file_answers_first : (how : Manner) (xs : List ℕ) (n : ℕ)
    → file_answer how xs n ≡ asked Err (first_of (check_rows how Read xs n)) (Ok (file_block_of (take n xs)))
unfolding file_answer
file_answers_first how xs n = rw (check_answers_first how Read xs n)

-- Rules out a trace that is not there.
pub trace_answers_first : (how : Manner) (xs : List ℕ) (n : ℕ) (z : ℤ)
    → trace_answer how xs n z ≡ asked Err (first_of (trace_asked_rows how xs n z))
    (Ok (trace_block_of (high_first (take n xs)) (take n xs) (trace_number z)))
unfolding trace_answer
trace_answers_first how xs n z =
    let f : List ℕ = take n xs in
    ap (λ (v : Verdict). asked Err v (on_trace (whose_of z (count_of f)) (Err no_trace) (λ k. Ok (trace_block_of (high_first f) f k))))
    (check_answers_first how Read xs n)
    ∙ ap (asked Err (first_of (check_rows how Read xs n)))
    (on_trace_lem (Err no_trace) (λ k. Ok (trace_block_of (high_first f) f k)) z (count_of f))
    ∙ sym (one_more Err (check_rows how Read xs n) (not (is_trace z (count_of f))) (Ok (trace_block_of (high_first f) f (trace_number z))))

-- ---- strings

-- the places of the strings of a part
abbrev pub places_asked : Manner → List ℕ → ℤ → List Place
places_asked how f z = on_area (area_asked f z) [] (λ a e. places_in how f a e)

on_area_lem : (how : Manner) {A : Type 0} (none : A) (some : List Place → A) (f : List ℕ) (z : ℤ)
    → on_area (area_asked f z) none (λ a e. some (places_in how f a e)) ≡ pick (not (is_part z (count_of f))) none (some (places_asked how f z))
unfolding whose_of area_named
on_area_lem how none some f (pos k) = go (ltb k (count_of f))
  where
    go : (w : Bool)
        → on_area (area_named f (pick w (Some (Trace k)) None)) none (λ a e. some (places_in how f a e))
        ≡ pick (not w) none (some (on_area (area_named f (pick w (Some (Trace k)) None)) [] (λ a e. places_in how f a e)))
    go true = refl
    go false = refl
on_area_lem how none some f (negsuc zero) = refl
on_area_lem how none some f (negsuc (suc k)) = refl

abbrev pub found_asked : Manner → List ℕ → ℤ → List ℕ → Option Place
found_asked how f z key = find_of how f (places_asked how f z) key

-- a question on a part: the check, 18, the value
part_first : (how : Manner) {A : Type 0} (bad : Refusal → A) (some : List Place → A) (xs : List ℕ) (n : ℕ) (z : ℤ)
    → asked bad (check_of how Read xs n) (on_area (area_asked (take n xs) z) (bad no_trace) (λ a e. some (places_in how (take n xs) a e)))
    ≡ asked bad (first_of (part_asked_rows how xs n z)) (some (places_asked how (take n xs) z))
part_first how bad some xs n z =
    let f : List ℕ = take n xs in
    ap (λ (v : Verdict). asked bad v (on_area (area_asked f z) (bad no_trace) (λ a e. some (places_in how f a e)))) (check_answers_first how Read xs n)
    ∙ ap (asked bad (first_of (check_rows how Read xs n))) (on_area_lem how (bad no_trace) some f z)
    ∙ sym (one_more bad (check_rows how Read xs n) (not (is_part z (count_of f))) (some (places_asked how f z)))

-- Rules out strings of no part, and of a file that the check refuses.
pub count_answers_first : (how : Manner) (xs : List ℕ) (n : ℕ) (z : ℤ)
    → count_answer how xs n z ≡ asked Err (first_of (part_asked_rows how xs n z)) (Ok (length (places_asked how (take n xs) z)))
unfolding count_answer
count_answers_first how xs n z = part_first how Err (λ ps. Ok (length ps)) xs n z

pub nth_answers_first : (how : Manner) (xs : List ℕ) (n : ℕ) (z : ℤ) (i : ℕ)
    → nth_answer how xs n z i ≡ asked Err (first_of (part_asked_rows how xs n z)) (there (nth_of (places_asked how (take n xs) z) i))
unfolding nth_answer
nth_answers_first how xs n z i = part_first how Err (λ ps. there (nth_of ps i)) xs n z

-- all strings of a part at once: the part's rows, then "32 where the row's length is not four times the count". Rules out a
-- row that is filled in part.
abbrev pub strings_asked_rows : Manner → List ℕ → ℕ → ℤ → ℕ → List Verdict
strings_asked_rows how xs n z s =
    part_asked_rows how xs n z ++ (row (not (eqb s (4 * length (places_asked how (take n xs) z)))) RowLength File 0 ∷ [])

pub strings_answer_first : (how : Manner) (xs : List ℕ) (n : ℕ) (z : ℤ) (s : ℕ) → strings_answer how xs n z s ≡ first_of (strings_asked_rows how xs n z s)
unfolding strings_answer and_then
strings_answer_first how xs n z s =
    let c : ℕ = length (places_asked how (take n xs) z) in
    let last : Verdict = row (not (eqb s (4 * c))) RowLength File 0 in
    ap (λ (w : Result ℕ Refusal). strings_verdict w s) (count_answers_first how xs n z)
    ∙ go (first_of (part_asked_rows how xs n z)) c
    ∙ ap (and_then (first_of (part_asked_rows how xs n z))) (first_one last)
    ∙ sym (first_more (part_asked_rows how xs n z) (last ∷ []))
  where
    go : (v : Verdict) (c : ℕ) → strings_verdict (asked Err v (Ok c)) s ≡ and_then v (row (not (eqb s (4 * c))) RowLength File 0)
    go (Ok _) c = refl
    go (Err r) c = refl

-- "four numbers a string": the i-th four are those of C's answer to the question for the i-th string, starts and lengths.
-- Rules out another order, a place of another string, and a row whose strings are not those of the part.
abbrev pub four_in : Seg2String → List ℕ
four_in s = s.key_start ∷ s.key_length ∷ s.value_start ∷ s.value_length ∷ []

pub row_holds_each : (how : Manner) (xs : List ℕ) (n : ℕ) (z : ℤ) (row : List ℕ) (i : ℕ) (s : Place) → strings_answer how xs n z (length row) ≡ accepted
    → nth_answer how xs n z i ≡ Ok (Some s) → part (4 * i) (4 * i + 4) (strings_left how xs n z row) ≡ four_in (as_string (nth_answer how xs n z i))
unfolding strings_left numbers_in numbers_of as_string
row_holds_each how xs n z row i s ok e =
    let f : List ℕ = take n xs in
    rw (e, ok) (ap (part (4 * i) (4 * i + 4)) (inside (area_asked f z))
    ∙ numbers_nth (places_asked how f z) i s
    (told (first_of (part_asked_rows how xs n z)) (nth_of (places_asked how f z) i) (sym (nth_answers_first how xs n z i) ∙ e)))
  where
    inside : (w : Option (ℕ × ℕ)) → on_area w [] (λ a e. numbers_of (places_in how (take n xs) a e)) ≡ numbers_of (on_area w [] (λ a e. places_in how (take n xs) a e))
    inside None = refl
    inside (Some (a, e)) = refl

    told : (v : Verdict) (y : Option Place) → asked Err v (there y) ≡ Ok (Some s) → y ≡ Some s
    told (Ok _) None h = let q : ◌≡◌ {A = ℕ} 0 1 = cc in absurd (omega arith)
    told (Ok _) (Some p) h = let q : p ≡ s = cc in ap Some q
    told (Err r) y h = let q : ◌≡◌ {A = ℕ} 0 1 = cc in absurd (omega arith)

pub find_answers_first : (how : Manner) (xs : List ℕ) (n : ℕ) (z : ℤ) (key : List ℕ)
    → find_answer how xs n z key ≡ asked Err (first_of (part_asked_rows how xs n z)) (there (found_asked how (take n xs) z key))
unfolding find_answer
find_answers_first how xs n z key = part_first how Err (λ ps. there (find_of how (take n xs) ps key)) xs n z

-- "one answers yes, no or the refusal". Rules out a no where the file is broken.
pub keyword_answers_first : (how : Manner) (xs : List ℕ) (n : ℕ) (z : ℤ) (key : List ℕ)
    → keyword_answer how xs n z key ≡ asked Err (first_of (part_asked_rows how xs n z)) (yes_or_no (there (found_asked how (take n xs) z key)))
unfolding keyword_answer
keyword_answers_first how xs n z key = ap yes_or_no (find_answers_first how xs n z key) ∙ go (first_of (part_asked_rows how xs n z))
  where
    go : (v : Verdict) → yes_or_no (asked Err v (there (found_asked how (take n xs) z key))) ≡ asked Err v
        (yes_or_no (there (found_asked how (take n xs) z key)))
    go (Ok _) = refl
    go (Err r) = refl

-- "the other answers the value as the caller's own bytes, not a copy, and for a no or a refusal the empty part at the
-- start of the lent buffer". Rules out bytes of a file that was refused.
pub value_answers_first : (how : Manner) (xs : List ℕ) (n : ℕ) (z : ℤ) (key : List ℕ)
    → value_answer how xs n z key ≡ asked (λ r. []) (first_of (part_asked_rows how xs n z)) (value_found (take n xs) (found_asked how (take n xs) z key))
unfolding value_answer
value_answers_first how xs n z key =
    ap (value_there (take n xs)) (find_answers_first how xs n z key) ∙ go (first_of (part_asked_rows how xs n z)) (found_asked how (take n xs) z key)
  where
    go : (v : Verdict) (y : Option Place) → value_there (take n xs) (asked Err v (there y)) ≡ asked (λ r. []) v (value_found (take n xs) y)
    go (Err r) y = refl
    go (Ok _) y = found_value (take n xs) y

-- a number in a value: the file's rows, then the number's own
made_first : (how : Manner) {A : Type 0} (bad : Refusal → A) (g : List ℕ → A) (xs : List ℕ) (n : ℕ) (z : ℤ) (key : List ℕ)
    → on_string bad (find_answer how xs n z key) (g (value_answer how xs n z key))
    ≡ asked bad (first_of (part_asked_rows how xs n z)) (g (value_found (take n xs) (found_asked how (take n xs) z key)))
made_first how bad g xs n z key =
    rw (find_answers_first how xs n z key, value_answers_first how xs n z key) (go (first_of (part_asked_rows how xs n z)) (found_asked how (take n xs) z key))
  where
    go : (v : Verdict) (y : Option Place)
        → on_string bad (asked Err v (there y)) (g (asked (λ r. []) v (value_found (take n xs) y))) ≡ asked bad v (g (value_found (take n xs) y))
    go (Err r) y = refl
    go (Ok _) None = refl
    go (Ok _) (Some s) = refl

pub number_answers_first : (how : Manner) (xs : List ℕ) (n : ℕ) (z : ℤ) (key : List ℕ)
    → number_answer how xs n z key ≡ asked Err (first_of (part_asked_rows how xs n z))
    (number_in (value_found (take n xs) (found_asked how (take n xs) z key)))
unfolding number_answer
number_answers_first how = made_first how Err number_in

pub double_answers_first : (how : Manner) (xs : List ℕ) (n : ℕ) (z : ℤ) (key : List ℕ)
    → double_answer how xs n z key ≡ asked Err (first_of (part_asked_rows how xs n z))
    (double_of (value_found (take n xs) (found_asked how (take n xs) z key)))
unfolding double_answer
double_answers_first how = made_first how Err double_of

pub location_answers_first : (how : Manner) (xs : List ℕ) (n : ℕ) (z : ℤ) (key : List ℕ)
    → location_answer how xs n z key ≡ asked Err (first_of (part_asked_rows how xs n z))
    (location_of (value_found (take n xs) (found_asked how (take n xs) z key)))
unfolding location_answer
location_answers_first how = made_first how Err location_of

-- ---- "20 no number, 21 too many digits, 22 not within the double case, 23 neither one nor three values: 23 first,
-- then value by value; place is the value's start in the text". Rules out a double of what is no number, and a location
-- whose values are judged before they are counted.

first_append : {A : Type 0} (rs qs : Rows A) (a : A) → first (rs ++ qs) a ≡ first rs (first qs a)
first_append [] qs a = refl
first_append (r ∷ rs) qs a = ap (pick r.0 r.1) (first_append rs qs a)

pub number_refused_first : (t : List ℕ) → number_in t ≡ first (shape_rows t ++ limits (parts_of t)) (Ok (decimal_of (parts_of t)))
unfolding number_in judged
number_refused_first t = sym (first_append (shape_rows t) (limits (parts_of t)) (Ok (decimal_of (parts_of t))))

-- 20 and 21 are the number's, 22 comes behind them
pub double_refused_first : (t : List ℕ) (n : Decimal) → number_in t ≡ Ok n
    → double_of t
    ≡ first ((ltb 9007199254740991 n.coefficient, no_double) ∷ (ltb 15 (nat_abs n.power), no_double) ∷ [])
    (Ok (with_sign n.minus (scaled_of (lt_z n.power (pos 0)) n.coefficient (nat_abs n.power))))
unfolding double_of on_number double_from
double_refused_first t n e = rw e

pub double_refused_before : (t : List ℕ) (r : Refusal) → number_in t ≡ Err r → double_of t ≡ Err r
unfolding double_of on_number
double_refused_before t r e = rw e

-- value by value: the first that is no double refuses, at its own start
unfoldable pub in_turn : List Value → (List Coordinate → Result Coordinates Refusal) → Result Coordinates Refusal
in_turn [] done = done []
in_turn (v ∷ vs) done = on_coordinate v.0 (coordinate_of v.1) (λ x. in_turn vs (λ xs. done (x ∷ xs)))

abbrev pub one_or_three : List Coordinate → Result Coordinates Refusal
one_or_three [] = value_count
one_or_three (x ∷ []) = Ok (alone x)
one_or_three (x ∷ y ∷ []) = value_count
one_or_three (x ∷ y ∷ z ∷ []) = Ok (together x y z)
one_or_three (x ∷ y ∷ z ∷ w ∷ xs) = value_count

pub location_refused_first : (t : List ℕ)
    → location_of t ≡ first ((not (eqb (length (values_of t)) 1 || eqb (length (values_of t)) 3), value_count) ∷ []) (in_turn (values_of t) one_or_three)
unfolding location_of located one_of three_of in_turn
location_refused_first t = go (values_of t)
  where
    go : (vs : List Value) → located vs ≡ first ((not (eqb (length vs) 1 || eqb (length vs) 3), value_count) ∷ []) (in_turn vs one_or_three)
    go [] = refl
    go (u ∷ []) = refl
    go (u ∷ v ∷ []) = refl
    go (u ∷ v ∷ w ∷ []) = refl
    go (u ∷ v ∷ w ∷ x ∷ vs) =
        rw (ne_eqb (length (u ∷ v ∷ w ∷ x ∷ vs)) 1 (omega arith), ne_eqb (length (u ∷ v ∷ w ∷ x ∷ vs)) 3 (omega arith))

-- ---- samples

then_is_asked : (a b : Verdict) → and_then a b ≡ asked Err a b
unfolding and_then
then_is_asked (Ok _) b = refl
then_is_asked (Err r) b = refl

samples_rows : (how : Manner) (xs : List ℕ) (n : ℕ) (z : ℤ) (some : ℕ → Verdict) (vs : List Verdict) → some (trace_number z) ≡ first_of vs
    → asked Err (check_of how Read xs n) (on_trace (whose_of z (count_of (take n xs))) (Err no_trace) some) ≡ first_of (trace_asked_rows how xs n z ++ vs)
samples_rows how xs n z some vs h =
    let f : List ℕ = take n xs in
    let w : Bool = not (is_trace z (count_of f)) in
    ap (λ (v : Verdict). asked Err v (on_trace (whose_of z (count_of f)) (Err no_trace) some)) (check_answers_first how Read xs n)
    ∙ ap (asked Err (first_of (check_rows how Read xs n))) (on_trace_lem (Err no_trace) some z (count_of f) ∙ ap (pick w (Err no_trace)) h)
    ∙ sym
    (first_more (trace_asked_rows how xs n z) vs
    ∙ then_is_asked (first_of (trace_asked_rows how xs n z)) (first_of vs)
    ∙ one_more Err (check_rows how Read xs n) w (first_of vs))

abbrev pub integers_asked_rows : Manner → List ℕ → ℕ → ℤ → ℕ → List Verdict
integers_asked_rows how xs n z s =
    trace_asked_rows how xs n z
    ++ (row (not (of_integers (code_at (take n xs) (trace_number z)))) CodeKind File 0
    ∷ row (not (eqb s (count_at (take n xs) (trace_number z)))) RowLength File 0
    ∷ [])

-- behind the rows nothing comes
pub ruled_rows : (rs : Rows Rule) → ruled rs (λ r. Err (refusal r File 0)) accepted ≡ first_of (rows_at File 0 rs)
unfolding and_then
ruled_rows rs = rule_first rs File 0 accepted ∙ then_none (first_of (rows_at File 0 rs))
  where
    then_none : (v : Verdict) → and_then v accepted ≡ v
    then_none (Ok _) = refl
    then_none (Err r) = refl

-- Rules out integers of a float trace, bits of an integer one, and a row that is filled in part.
pub integers_answer_first : (how : Manner) (xs : List ℕ) (n : ℕ) (z : ℤ) (s : ℕ) → integers_answer how xs n z s ≡ first_of (integers_asked_rows how xs n z s)
unfolding integers_answer integers_verdict trace_block_of
integers_answer_first how xs n z s =
    let rs = integers_rows (block_at (take n xs) (trace_number z)) s in
    samples_rows how xs n z (λ i. integers_verdict (block_at (take n xs) i) s) (rows_at File 0 rs) (ruled_rows rs)

abbrev pub bits_asked_rows : Manner → List ℕ → ℕ → ℤ → ℕ → ℕ → List Verdict
bits_asked_rows how xs n z s c =
    trace_asked_rows how xs n z
    ++ (row (not (of_bits (code_at (take n xs) (trace_number z)))) CodeKind File 0
    ∷ row (not (eqb s (count_at (take n xs) (trace_number z)))) RowLength File 0
    ∷ row (not (eqb c (count_at (take n xs) (trace_number z)))) RowLength File 0
    ∷ [])

pub bits_answer_first : (how : Manner) (xs : List ℕ) (n : ℕ) (z : ℤ) (s c : ℕ) → bits_answer how xs n z s c ≡ first_of (bits_asked_rows how xs n z s c)
unfolding bits_answer bits_verdict trace_block_of
bits_answer_first how xs n z s c =
    let rs = bits_rows (block_at (take n xs) (trace_number z)) s c in
    samples_rows how xs n z (λ i. bits_verdict (block_at (take n xs) i) s c) (rows_at File 0 rs) (ruled_rows rs)
