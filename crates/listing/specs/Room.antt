-- How long a listing can be: 16 bytes for each of the input's, and 64 more. N and M are words of 2 bytes, so a trace's
-- number has at most 5 digits. A string of o bytes prints at most 16 o, a trace of B bytes 16 B.
-- Assumes nothing.
use Rattle.std.specs.Prelude.{◌≡◌, refl, Bool, true, false, List, [], ◌∷◌, ◌++◌, take, drop, leb, Result, Ok, Err, Option, Some, None, ℕ, zero, suc, ◌+◌, ◌-◌, ◌*◌, ◌≤◌, ◌<◌}
use Rattle.std.proofs.Common.{ap, length-drop, length-take, length-take-le, leb-false, arith}
use Rattle.std.proofs.Math.ListN.{length, length-append}
use Rattle.head_limits.specs.declared.Purpose.TheVariants.{Read}
use Rattle.text.specs.declared.Manner.TheVariants.{Strict}
use Rattle.word.specs.Bytes.{Bytes}
use Rattle.word.specs.Part.{part}
use Rattle.word.specs.WordLaws.{word_small}
use Rattle.refusal.specs.Rows.{pick}
use Rattle.refusal.specs.declared.Part.{Part}
use Rattle.refusal.specs.declared.Part.TheVariants.{File, Trace}
use Rattle.sample.specs.Needed.{needed}
use Rattle.strings.specs.declared.Place.{Place}
use Rattle.chars.specs.Chars.{note}
use Rattle.chars.specs.Runs.{same, same_eq}
use Rattle.note_line.specs.NoteLine.{line_len, line_ends, starts_fits}
use Rattle.note.specs.Note.{lines_of}
use Rattle.strings.specs.Strings.{frame_of, place_of, on_text, places_from, places_of, key_in, value_in}
use Rattle.strings.specs.Walks.{Fits}
use Rattle.strings.proofs.Walks.{place_fits}
use Rattle.strings.specs.Spelled.{strs_in}
use Rattle.head_words.specs.HeadWords.{high_first, room_of, count_of}
use Rattle.head.specs.Head.{maximum}
use Rattle.terminators.specs.Terminators.{string_end, line_end}
use Rattle.block.specs.Block.{block_size_of, data_size_of, sample_count_of, format_code_of, data_at, end_at}
use Rattle.image.specs.Image.{image_of}
use Rattle.image.specs.Keeps.{trace_at, end_before}
use Rattle.image.specs.Accepted.{before_next}
use Rattle.reader.specs.Reach.{some_trace, trace_pointed, trace_blocked}
use Rattle.digits.specs.Digits.{digits, digits_few}
use Rattle.lines.specs.Lines.{whose, head_line, trace_line, string_line}
use Rattle.string_lines.specs.StringLines.{lines_text, values_of, strings_text}
use Rattle.file_lines.specs.FileLines.{strings_in, trace_text, traces_text, file_text}
use Rattle.listing.specs.Listing.{room_for}
use Rattle.lines.specs.Sizes.{five, length_ended, length_order, length_head, length_trace, length_label, length_line}
use Rattle.lines.specs.Spaced.{length_spaced}
use Rattle.file_lines.specs.Told.{line_some}
use Rattle.refusal.specs.declared.Rule.{Rule}
use Rattle.refusal.specs.Verdicts.{accepted}

-- ---- numbers
one : (n : ℕ) → n < 10 → length (digits n) ≤ 1
one n h = digits_few 1 n (omega arith) h

abbrev pub Small : Part → Type 0
Small File = Unit {0}
Small (Trace k) = k < 100000

whose_few : (p : Part) → Small p → length (whose p) ≤ 5
unfolding whose
whose_few File h = omega arith
whose_few (Trace k) h = five k h

-- ---- a string
line_few : (p : Part) (key v : List ℕ) → Small p → length (string_line p key v) ≤ length v + length key + 10
line_few p key v s =
    let a = whose_few p s in
    omega (arith, length_line p key v, length_label p key, length_spaced v)

-- each line but the last has a terminator behind it
lines_few : (p : Part) (key u : List ℕ) (m : ℕ) (v : List ℕ) → Small p → length key ≤ 4 → 0 < length u
    → length (lines_text p key (lines_of m u v)) ≤ 15 * length v + 14
unfolding lines_of lines_text
lines_few p key u zero v s k h = omega (arith, line_few p key v s, length-append (string_line p key v) [])
lines_few p key u (suc m) v s k h = go (leb (length v) (line_len u v)) refl (lines_few p key u m (drop (line_len u v + length u) v) s k h)
  where
    go : (w : Bool) → leb (length v) (line_len u v) ≡ w
        → length (lines_text p key (lines_of m u (drop (line_len u v + length u) v))) ≤ 15 * length (drop (line_len u v + length u) v) + 14
        → length (lines_text p key (pick w (v ∷ []) (take (line_len u v) v ∷ lines_of m u (drop (line_len u v + length u) v)))) ≤ 15 * length v + 14
    go true e i = omega (arith, line_few p key v s, length-append (string_line p key v) [])
    go false e i =
        let n : line_len u v < length v = leb-false (length v) (line_len u v) e in
        let d = length-drop (line_len u v + length u) v in
        let t = length-take-le (line_len u v) v (omega arith) in
        let f = starts_fits u (drop (line_len u v) v) (line_ends u v n) in
        let g = length-drop (line_len u v) v in
        let l = line_few p key (take (line_len u v) v) s in
        let a = length-append (string_line p key (take (line_len u v) v)) (lines_text p key (lines_of m u (drop (line_len u v + length u) v))) in
        omega arith

string_few : (p : Part) (u key v : List ℕ) → Small p → 0 < length u
    → length (lines_text p key (values_of u key v)) ≤ 16 * (2 + (length key + length v))
unfolding values_of lines_text
string_few p u key v s h = go (same key note) refl
  where
    go : (w : Bool) → same key note ≡ w → length (lines_text p key (pick w (lines_of (length v) u v) (v ∷ []))) ≤ 16 * (2 + (length key + length v))
    go true e = let k : length key ≡ 4 = ap length (same_eq key note e) in omega (arith, lines_few p key u (length v) v s (omega arith) h)
    go false e = omega (arith, line_few p key v s, length-append (string_line p key v) [])

part_few : (a e : ℕ) (f : List ℕ) → length (part a e f) ≤ e - a
part_few a e f = simp length-take (omega arith)

strings_few : (p : Part) (u f : List ℕ) (m : ℕ) (high : Bool) (t l : List ℕ) (at : ℕ) → Small p → 0 < length u
    → length (strings_text p u (strs_in f (places_from Strict m high t l at))) ≤ 16 * length l
unfolding places_from on_text strings_text
strings_few p u f zero high t l at s h = omega arith
strings_few p u f (suc m) high t l at s h = go (frame_of Strict high t l) refl (λ o. strings_few p u f m high t (drop o l) (at + o) s h)
  where
    go : (w : Result (Option ℕ) Rule) → frame_of Strict high t l ≡ w
        → ((o : ℕ) → length (strings_text p u (strs_in f (places_from Strict m high t (drop o l) (at + o)))) ≤ 16 * length (drop o l))
        → length (strings_text p u (strs_in f (on_text w [] (λ o. place_of t o l at ∷ places_from Strict m high t (drop o l) (at + o))))) ≤ 16 * length l
    go (Ok None) e i = omega arith
    go (Err r) e i = omega arith
    go (Ok (Some o)) e i = let b = place_fits Strict high t l at o e in one_more o (place_of t o l at) b (i o)
      where
        one_more : (o : ℕ) (q : Place) → Fits at l q o → length (strings_text p u (strs_in f (places_from Strict m high t (drop o l) (at + o)))) ≤ 16
            * length (drop o l)
            → length (lines_text p (key_in f q) (values_of u (key_in f q) (value_in f q)) ++ strings_text p u
            (strs_in f (places_from Strict m high t (drop o l) (at + o)))) ≤ 16 * length l
        one_more o q b i =
            let k = part_few q.key q.gap f in
            let v = part_few q.value q.end f in
            let x = string_few p u (key_in f q) (value_in f q) s h in
            let a = length-append (lines_text p (key_in f q) (values_of u (key_in f q) (value_in f q)))
            (strings_text p u (strs_in f (places_from Strict m high t (drop o l) (at + o)))) in
            let d = length-drop o l in
            let n : 2 + (length (key_in f q) + length (value_in f q)) ≤ o = omega (arith, b.key, b.inside.0, b.inside.1, b.inside.2, b.inside.3) in
            omega (arith, b.within, n, x, a, d, i)

area_few : (p : Part) (u f : List ℕ) (a e : ℕ) → Small p → 0 < length u → length (strings_text p u (strings_in f a e)) ≤ 16 * (e - a)
unfolding strings_in places_of
area_few p u f a e s h =
    omega (arith, strings_few p u f (length (part a e f)) (high_first f) (string_end f) (part a e f) a s h, part_few a e f)

-- ---- a trace
needed_low : (code s : ℕ) → 1 ≤ code → code ≤ 5 → 2 * s ≤ needed code s
unfolding needed
needed_low zero s a b = absurd (omega arith)
needed_low (suc zero) s a b = omega arith
needed_low (suc (suc zero)) s a b = omega arith
needed_low (suc (suc (suc zero))) s a b = omega arith
needed_low (suc (suc (suc (suc zero)))) s a b = omega arith
needed_low (suc (suc (suc (suc (suc zero))))) s a b = omega arith
needed_low (suc (suc (suc (suc (suc (suc c)))))) s a b = absurd (omega arith)

-- a file of at most 67,108,864 bytes has no more than 33,554,432 samples
trace_line_few : (k code s : ℕ) → k < 100000 → code < 10 → s < 100000000 → length (trace_line k code s) ≤ 19
trace_line_few k code s a b c =
    omega (arith, five k a, one code b, digits_few 8 s (omega arith) c, length_trace k code s, length_ended k 9, length_ended code 9, length_ended s 10)

module _ (f : List ℕ) (ok : image_of Strict Read f ≡ accepted) (size : 32 ≤ length f) (most : length f ≤ maximum) (bytes : Bytes f) where
  counts : (room_of f < 100000) × (count_of f < 100000)
  unfolding room_of count_of
  counts = (omega (arith, word_small 2 (high_first f) f 4 bytes), omega (arith, word_small 2 (high_first f) f 6 bytes))

  trace_few : (k : ℕ) → k < count_of f → length (trace_text f k) ≤ 16 * block_size_of (high_first f) f (trace_at f k)
  unfolding trace_text
  trace_few k low =
      let q = trace_blocked Strict f ok k low in
      let c = counts.1 in
      let n = needed_low (format_code_of f (trace_at f k)) (sample_count_of (high_first f) f (trace_at f k)) q.code.0 q.code.1 in
      let x = trace_line_few k (format_code_of f (trace_at f k)) (sample_count_of (high_first f) f (trace_at f k)) (omega arith) (omega (arith, q.code.1))
      (omega (arith, n, q.samples, q.data_fits)) in
      let y = area_few (Trace k) (line_end f) f (trace_at f k + 32) (data_at (high_first f) f (trace_at f k)) (omega arith) (line_some f ok size (line_end f) refl) in
      let a = length-append (trace_line k (format_code_of f (trace_at f k)) (sample_count_of (high_first f) f (trace_at f k)))
      (strings_text (Trace k) (line_end f) (strings_in f (trace_at f k + 32) (data_at (high_first f) f (trace_at f k)))) in
      omega (arith, x, y, a, q.least)

  -- so many traces from k on, which all stand behind x
  traces_few : (left k x : ℕ) → k + left ≡ count_of f → x ≤ length f → (0 < left → x ≤ trace_at f k)
      → length (traces_text f left k) ≤ 16 * (length f - x)
  unfolding traces_text end_at
  traces_few zero k x e l h = omega arith
  traces_few (suc left) k x e l h =
      let low : k < count_of f = omega arith in
      let q = trace_blocked Strict f ok k low in
      let t = trace_few k low in
      let y = h (omega arith) in
      let n : end_before f (k + 1) ≡ trace_at f k + block_size_of (high_first f) f (trace_at f k) + data_size_of (high_first f) f (trace_at f k) = before_next f k in
      let i = traces_few left (k + 1) (end_before f (k + 1)) (omega arith) (omega (arith, n, q.data_fits))
      (λ (g : 0 < left). (trace_pointed Strict f ok (k + 1) (omega arith)).behind) in
      let a = length-append (trace_text f k) (traces_text f left (k + 1)) in
      omega (arith, t, i, a, n, y, q.data_fits)

  pub file_few : length (file_text f) ≤ room_for (length f)
  unfolding file_text end_before
  file_few =
      let c = counts in
      let some = some_trace Strict f ok in
      let p = trace_pointed Strict f ok 0 some in
      let h = length_head (high_first f) (count_of f) (room_of f) in
      let o = length_order (high_first f) in
      let n = five (count_of f) c.1 in
      let m = five (room_of f) c.0 in
      let en = length_ended (count_of f) 9 in
      let em = length_ended (room_of f) 10 in
      let s = area_few File (line_end f) f (32 + room_of f) (trace_at f 0) tt (line_some f ok size (line_end f) refl) in
      let t = traces_front in
      let a = length-append (head_line (high_first f) (count_of f) (room_of f))
      (strings_text File (line_end f) (strings_in f (32 + room_of f) (trace_at f 0)) ++ traces_text f (count_of f) 0) in
      let b = length-append (strings_text File (line_end f) (strings_in f (32 + room_of f) (trace_at f 0))) (traces_text f (count_of f) 0) in
      omega (arith, h, o, n, m, en, em, s, t, a, b, p.behind, p.fits)
    where
      traces_front : length (traces_text f (count_of f) 0) ≤ 16 * (length f - trace_at f 0)
      traces_front = traces_few (count_of f) 0 (trace_at f 0) (omega arith) (omega (arith, (trace_pointed Strict f ok 0 (some_trace Strict f ok)).fits))
          (λ (g : 0 < count_of f). omega arith)
