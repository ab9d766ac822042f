-- Demand 1, the check. "every call ends with an answer for all bytes and all numbers given to it; input that meets rows
-- of the refusal table gets the first of them in its order, with its place": rows 1 to 17 of an image, in document 01's
-- order ("1 to 7 first, then the first pointer, then the file's strings, then each trace 8 to 17. Strings are taken one
-- by one, 14 to 17 each"), with 34 "after 17 within each trace" (document 02 §7), are one list, and the check answers the
-- first of it that is met.
-- Assumes nothing.
use Rattle.std.specs.Prelude.{◌≡◌, refl, Bool, true, false, not, ◌&&◌, List, [], ◌∷◌, ◌++◌, ℕ, zero, suc, ◌+◌, ◌*◌, length, take, drop, ℤ, pos, negsuc, eqb, Result, Ok, Err, Option, Some, None}
use Rattle.std.proofs.Common.{sym, ap, ap₂, ◌∙◌}
use Rattle.word.specs.Part.{part}
use Rattle.refusal.specs.declared.Rule.TheVariants.{Length, Pointer, StringOffset, ChannelNumber}
use Rattle.refusal.specs.declared.Part.{Part}
use Rattle.refusal.specs.declared.Part.TheVariants.{File, Trace}
use Rattle.refusal.specs.Table.{refusal, number_of, part_of}
use Rattle.refusal.specs.Rows.{Rows, pick, ruled_map}
use Rattle.refusal.specs.Verdicts.{and_then, accepted, Verdict}
use Rattle.refusal.specs.FirstRow.{row, first_of, first_nothing, first_one, first_row_lem, first_more, flat, first_flat}
use Rattle.refusal.specs.FirstRow.{rows_at, rule_first, each, Refuses, first_each}
use Rattle.text.specs.declared.Manner.{Manner}
use Rattle.text.specs.Manner.{open_end, asks_channels}
use Rattle.strings.specs.Strings.{offset, body, key_len, frame_rows, end_or_text, frame_of, text_rows, judged_of, on_judged}
use Rattle.strings.specs.Strings.{on_frame, step_of, on_step, strings_from, strings_of, found, value_found}
use Rattle.head_limits.specs.declared.Purpose.{Purpose}
use Rattle.head_words.specs.HeadWords.{high_first, room_of, count_of}
use Rattle.head.specs.Head.{head_rows, head_of}
use Rattle.terminators.specs.Terminators.{string_end, line_end}
use Rattle.limits.specs.Limits.{bad_pointer}
use Rattle.block.specs.Block.{pointer_of, block_size_of, end_at, pointer_row, block_rows, block_of}
use Rattle.block.specs.BlockLaws.{head_at}
use Rattle.trace.specs.Trace.{area_verdict, channel_at}
use Rattle.traces.specs.Traces.{with_channel, trace_checks, trace_of, traces_from}
use Rattle.image.specs.Image.{filled_checks, rest_of, image_of, check_of}
use Rattle.file_length.specs.FileLength.{bad_length}
use Rattle.channel.specs.Channel.{bad_channel}
use Rattle.refusal.specs.declared.Rule.{Rule}

-- ---- the strings of an area, from one at the place `at` on: 14 and 15 (`frame_rows` of `strings`), 16 and 17
-- (`text_rows`), and then the next string's.
-- "Offset 0 ends the list". `how` is the manner of reading
unfoldable pub string_rows : Manner → ℕ → Bool → List ℕ → List ℕ → Part → List ℕ → List ℕ → ℕ → List Verdict
string_rows how zero high t u p prev l at = row (not (open_end how)) StringOffset p at ∷ []
string_rows how (suc m) high t u p prev l at =
    let o = offset high l in
    let b = body t o l in
    rows_at p at (frame_rows how high t l)
    ++ pick (eqb o 0) [] (rows_at p at (text_rows how u prev b) ++ string_rows how m high t u p (take (key_len b) (drop 2 l)) (drop o l) (at + o))

-- "An empty area is an empty list"
abbrev pub area_rows : Manner → Bool → List ℕ → List ℕ → List ℕ → Part → ℕ → ℕ → List Verdict
area_rows how high t u f p a e = pick (eqb (length (part a e f)) 0) [] (string_rows how (length (part a e f)) high t u p [] (part a e f) a)

pub pick_first : (w : Bool) (v : Verdict) (vs : List Verdict) → v ≡ first_of vs → pick w accepted v ≡ first_of (pick w [] vs)
unfolding first_of
pick_first true v vs h = refl
pick_first false v vs h = h

-- a string's text: its rows, and then what comes behind
pub text_first : (how : Manner) (u prev b : List ℕ) (p : Part) (at o : ℕ) (next : ℕ → ℕ → Verdict) (more : List Verdict) → next o (key_len b) ≡ first_of more
    → on_step (on_judged (judged_of how u prev b) p at o) next ≡ first_of (rows_at p at (text_rows how u prev b) ++ more)
unfolding judged_of
text_first how u prev b p at o next more h =
    let rs = text_rows how u prev b in
    ruled_map (λ (j : Result ℕ Rule). on_step (on_judged j p at o) next) rs Err (Ok (key_len b))
    ∙ rule_first rs p at (next o (key_len b)) ∙ ap (and_then (first_of (rows_at p at rs))) h ∙ sym (first_more (rows_at p at rs) more)

-- its frame: its rows, and then the end of the list or the text
pub ends_first : (how : Manner) (w : Bool) (o : ℕ) (t u prev l : List ℕ) (p : Part) (at : ℕ) (next : ℕ → ℕ → Verdict) (more : List Verdict)
    → on_step (on_judged (judged_of how u prev (body t o l)) p at o) next ≡ first_of more
    → on_step (on_frame how (pick w (Ok None) (Ok (Some o))) t u prev l p at) next ≡ first_of (pick w [] more)
unfolding on_frame first_of
ends_first how true o t u prev l p at next more h = refl
ends_first how false o t u prev l p at next more h = h

strings_first : (how : Manner) (m : ℕ) (high : Bool) (t u : List ℕ) (p : Part) (prev l : List ℕ) (at : ℕ)
    → strings_from how m high t u p prev l at ≡ first_of (string_rows how m high t u p prev l at)
unfolding strings_from string_rows step_of frame_of on_frame
strings_first how zero high t u p prev l at = go (open_end how)
  where
    go : (w : Bool) → pick w accepted (Err (refusal StringOffset p at)) ≡ first_of (row (not w) StringOffset p at ∷ [])
    go true = first_one accepted
    go false = first_one (Err (refusal StringOffset p at))
strings_first how (suc m) high t u p prev l at =
    let o : ℕ = offset high l in
    let b : List ℕ = body t o l in
    let next : ℕ → ℕ → Verdict = λ i n. strings_from how m high t u p (take n (drop 2 l)) (drop i l) (at + i) in
    let more : List Verdict = rows_at p at (text_rows how u prev b) ++ string_rows how m high t u p (take (key_len b) (drop 2 l)) (drop o l) (at + o) in
    let rs = frame_rows how high t l in
    ruled_map (λ (w : Result (Option ℕ) Rule). on_step (on_frame how w t u prev l p at) next) rs Err (end_or_text high l)
    ∙ rule_first rs p at (on_step (on_frame how (end_or_text high l) t u prev l p at) next)
    ∙ ap (and_then (first_of (rows_at p at rs)))
    (ends_first how (eqb o 0) o t u prev l p at next more
    (text_first how u prev b p at o next (string_rows how m high t u p (take (key_len b) (drop 2 l)) (drop o l) (at + o))
    (strings_first how m high t u p (take (key_len b) (drop 2 l)) (drop o l) (at + o))))
    ∙ sym (first_more (rows_at p at rs) (pick (eqb o 0) [] more))

area_first : (how : Manner) (high : Bool) (t u f : List ℕ) (p : Part) (a e : ℕ) → area_verdict how high t u f p a e ≡ first_of (area_rows how high t u f p a e)
unfolding area_verdict strings_of
area_first how high t u f p a e =
    pick_first (eqb (length (part a e f)) 0) (strings_from how (length (part a e f)) high t u p [] (part a e f) a)
    (string_rows how (length (part a e f)) high t u p [] (part a e f) a) (strings_first how (length (part a e f)) high t u p [] (part a e f) a)

-- ---- a trace k behind what ends at prev: 8 at its slot, then 9 to 13 (`block_rows` of `block`), then its strings, then
-- 34 at p+32 (document 02 §7): `bad_channel` of `channel`, for its string CHANNEL_NUMBER and whether trace 0 has one
abbrev pub pointer_test : ℕ → ℕ → ℕ → ℕ → Verdict
pointer_test end k prev p = row (bad_pointer end prev p) Pointer (Trace k) (32 + 4 * k)

abbrev pub channel_test : Manner → Bool → List ℕ → List ℕ → ℕ → ℕ → Verdict
channel_test how high t f k p =
    let s = channel_at how high t f p in
    row (asks_channels how && bad_channel (with_channel how high t f) (found s) (value_found f s)) ChannelNumber (Trace k) (p + 32)

abbrev pub one_trace_rows : Manner → Bool → List ℕ → List ℕ → List ℕ → ℕ → ℕ → List (List Verdict)
one_trace_rows how high t u f k prev =
    let p = pointer_of high f k in
    (pointer_test (length f) k prev p ∷ [])
    ∷ each (block_rows high (head_at f p) (length f) k p)
    ∷ area_rows how high t u f (Trace k) (p + 32) (p + block_size_of high f p)
    ∷ (channel_test how high t f k p ∷ [])
    ∷ []

-- the traces, so many of them from k on
unfoldable pub traces_rows : Manner → Bool → List ℕ → List ℕ → List ℕ → ℕ → ℕ → ℕ → List Verdict
traces_rows how high t u f zero k prev = []
traces_rows how high t u f (suc left) k prev =
    flat (one_trace_rows how high t u f k prev) ++ traces_rows how high t u f left (k + 1) (end_at high f (pointer_of high f k))

block_refuses : (high : Bool) (b : List ℕ) (end k p : ℕ) → Refuses (block_rows high b end k p)
block_refuses high b end k p = ((_, refl), ((_, refl), ((_, refl), ((_, refl), ((_, refl), tt)))))

pub block_first : (high : Bool) (b : List ℕ) (end k p : ℕ) → block_of high b end k p ≡ first_of (each (block_rows high b end k p))
unfolding block_of
block_first high b end k p = first_each (block_rows high b end k p) (block_refuses high b end k p)

trace_first : (how : Manner) (high : Bool) (t u f : List ℕ) (k prev : ℕ) → trace_of how high t u f k prev ≡ first_of (flat (one_trace_rows how high t u f k prev))
unfolding trace_of pointer_row
trace_first how high t u f k prev =
    let p : ℕ = pointer_of high f k in
    first_flat (trace_checks how high t u f k prev) (one_trace_rows how high t u f k prev) (
      first_one (pointer_test (length f) k prev p),
      (
        block_first high (head_at f p) (length f) k p,
        (area_first how high t u f (Trace k) (p + 32) (p + block_size_of high f p), (first_one (channel_test how high t f k p), tt)),
      ),
    )

traces_first : (how : Manner) (high : Bool) (t u f : List ℕ) (left k prev : ℕ)
    → traces_from how high t u f left k prev ≡ first_of (traces_rows how high t u f left k prev)
unfolding traces_from traces_rows
traces_first how high t u f zero k prev = sym first_nothing
traces_first how high t u f (suc left) k prev =
    let e : ℕ = end_at high f (pointer_of high f k) in
    ap₂ and_then (trace_first how high t u f k prev) (traces_first how high t u f left (k + 1) e)
    ∙ sym (first_more (flat (one_trace_rows how high t u f k prev)) (traces_rows how high t u f left (k + 1) e))

-- ---- an image: 2 to 7 (`head_rows` of `head`), "then the first pointer, then the file's strings, then each trace";
-- "With N=0 the file's strings run to the image's end", which only an addition takes
abbrev pub filled_rows : Manner → Bool → List ℕ → List ℕ → List ℕ → ℕ → ℕ → List (List Verdict)
filled_rows how high t u f m n =
    (pointer_test (length f) 0 (32 + m) (pointer_of high f 0) ∷ [])
    ∷ area_rows how high t u f File (32 + m) (pointer_of high f 0)
    ∷ traces_rows how high t u f n 0 (32 + m)
    ∷ []

abbrev pub rest_rows : Manner → Bool → List ℕ → List ℕ → List ℕ → ℕ → ℕ → List Verdict
rest_rows how high t u f m n = pick (eqb n 0) (area_rows how high t u f File (32 + m) (length f)) (flat (filled_rows how high t u f m n))

abbrev pub image_rows : Manner → Purpose → List ℕ → List Verdict
image_rows how purpose f =
    each (head_rows purpose (take 32 f) (length f)) ++ rest_rows how (high_first f) (string_end f) (line_end f) f (room_of f) (count_of f)

-- and 1 before all
abbrev pub check_rows : Manner → Purpose → List ℕ → ℕ → List Verdict
check_rows how purpose xs n = row (bad_length (length xs) n) Length File 0 ∷ image_rows how purpose (take n xs)

head_refuses : (purpose : Purpose) (b : List ℕ) (end : ℕ) → Refuses (head_rows purpose b end)
head_refuses purpose b end = ((_, refl), ((_, refl), ((_, refl), ((_, refl), ((_, refl), ((_, refl), ((_, refl), tt)))))))

pub head_first : (purpose : Purpose) (b : List ℕ) (end : ℕ) → head_of purpose b end ≡ first_of (each (head_rows purpose b end))
unfolding head_of
head_first purpose b end = first_each (head_rows purpose b end) (head_refuses purpose b end)

rest_first : (how : Manner) (high : Bool) (t u f : List ℕ) (m n : ℕ) → rest_of how high t u f m n ≡ first_of (rest_rows how high t u f m n)
unfolding rest_of pointer_row
rest_first how high t u f m n =
    either (eqb n 0) (area_rows how high t u f File (32 + m) (length f)) (flat (filled_rows how high t u f m n))
    (area_first how high t u f File (32 + m) (length f))
    (first_flat (filled_checks how high t u f m n) (filled_rows how high t u f m n) (
      first_one (pointer_test (length f) 0 (32 + m) (pointer_of high f 0)),
      (area_first how high t u f File (32 + m) (pointer_of high f 0), (traces_first how high t u f n 0 (32 + m), tt)),
    ))
  where
    either : (w : Bool) {a b : Verdict} (ls rs : List Verdict) → a ≡ first_of ls → b ≡ first_of rs → pick w a b ≡ first_of (pick w ls rs)
    either true ls rs h k = h
    either false ls rs h k = k

image_first : (how : Manner) (purpose : Purpose) (f : List ℕ) → image_of how purpose f ≡ first_of (image_rows how purpose f)
unfolding image_of
image_first how purpose f =
    ap₂ and_then (head_first purpose (take 32 f) (length f)) (rest_first how (high_first f) (string_end f) (line_end f) f (room_of f) (count_of f))
    ∙ sym (first_more (each (head_rows purpose (take 32 f) (length f))) (rest_rows how (high_first f) (string_end f) (line_end f) f (room_of f) (count_of f)))

-- the check answers the first row met. Rules out a check that stops early, takes the rows in another order, or gives
-- another part or place.
pub check_answers_first : (how : Manner) (purpose : Purpose) (xs : List ℕ) (n : ℕ) → check_of how purpose xs n ≡ first_of (check_rows how purpose xs n)
unfolding check_of
check_answers_first how purpose xs n =
    rw (image_first how purpose (take n xs)) (go (bad_length (length xs) n))
  where
    go : (w : Bool) → pick w (Err (refusal Length File 0)) (first_of (image_rows how purpose (take n xs)))
        ≡ first_of (row w Length File 0 ∷ image_rows how purpose (take n xs))
    go w = sym (first_row_lem w Length File 0 (image_rows how purpose (take n xs)))

-- ---- numbers, parts and places of rows 2 to 7 and of 9 to 13, as the table has them; the block of the trace k begins
-- at p

abbrev pub numbered : Rows Verdict → List (ℕ × ℤ × ℕ)
numbered [] = []
numbered ((test, Ok _) ∷ rs) = (0, negsuc 0, 0) ∷ numbered rs
numbered ((test, Err r) ∷ rs) = (number_of r.rule, part_of r.part, r.place) ∷ numbered rs

abbrev pub of_file : ℕ → ℕ → ℕ × ℤ × ℕ
of_file number place = (number, negsuc 0, place)

-- Rules out a row under another number, of another part or at another place.
pub places_of_the_table : (purpose : Purpose) (high : Bool) (b : List ℕ) (end k p : ℕ)
    → (numbered (head_rows purpose b end) ≡ of_file 2 0 ∷ of_file 3 2 ∷ of_file 4 4 ∷ of_file 5 6 ∷ of_file 6 8 ∷ of_file 6 11 ∷ of_file 7 4 ∷ [])
    × (numbered (block_rows high b end k p) ≡ (9, pos k, p) ∷ (10, pos k, p + 2) ∷ (11, pos k, p + 4) ∷ (12, pos k, p + 12) ∷ (13, pos k, p + 8) ∷ [])
places_of_the_table purpose high b end k p = (refl, refl)
