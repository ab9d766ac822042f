-- Theorems on what specs/StillRead defines. They stand here, as a wrong definition there is to be refused and not to be unread.
-- Assumes nothing.
use Rattle.std.specs.Prelude.{◌≡◌, refl, List, [], ◌∷◌, ℕ, zero, suc, ◌+◌, ◌≤◌, ◌<◌, ℤ, pos, negsuc, length, get_or, take, drop, Result, Ok, Err, Option, Some, None}
use Rattle.std.proofs.Common.{sym, ap, ap₂, ◌∙◌, arith, lt-ltb, ne_eqb}
use Rattle.head_limits.specs.declared.Purpose.TheVariants.{Read, Grow}
use Rattle.text.specs.declared.Manner.TheVariants.{Strict}
use Rattle.word.specs.Part.{part}
use Rattle.word.specs.Bytes.{Bytes}
use Rattle.refusal.specs.declared.Refusal.{Refusal}
use Rattle.strings.specs.declared.Place.{Place}
use Rattle.chars.specs.Runs.{same}
use Rattle.strings.specs.Strings.{places_of, find_of, key_in, value_found}
use Rattle.strings.specs.Spelled.{Str, Spells, nth_str, strs_in}
use Rattle.strings.proofs.Paper.{spelled_places, spelled_value}
use Rattle.head_words.specs.HeadWords.{file_block_of, high_first, room_of, count_of}
use Rattle.terminators.specs.Terminators.{string_end, line_end}
use Rattle.block.specs.Block.{block_size_of, data_size_of, data_at}
use Rattle.image.specs.Image.{check_of}
use Rattle.image.specs.Keeps.{trace_at, strings_end}
use Rattle.reader.specs.Listed.{found_value}
use Rattle.block.specs.declared.TraceBlock.{TraceBlock}
use Rattle.part_number.specs.PartNumber.{whose_of}
use Rattle.reader.specs.Questions.{block_at, no_trace, area_named, area_asked, on_area, on_trace, file_answer}
use Rattle.reader.specs.Questions.{trace_answer, places_in, count_answer, there, nth_answer, find_answer, keyword_answer}
use Rattle.reader.specs.Questions.{value_there, value_answer, number_answer, double_answer, location_answer}
use Rattle.reader.specs.Questions.{integers_verdict, bits_verdict, integers_answer, bits_answer}
use Rattle.reader.specs.Questions.{trace_number, integers_left, patterns_left, classes_left}
use Rattle.layout.specs.Layout.{Trace}
use Rattle.append.specs.Grown.{grown}
use Rattle.writer.specs.Shown.{Added}
use Rattle.growth.specs.Grows.{Grows, grown_grows}
use Rattle.growth.specs.Kept.{behind_room, longer, high_kept, room_kept, count_grown, size_kept, string_end_kept}
use Rattle.growth.specs.Kept.{trace_at_kept, part_kept, trace_kept}
use Rattle.growth.specs.StillKeeps.{strings_end_grown, file_spelled_kept}
use Rattle.growth.proofs.StillKeeps.{grown_accepted}
use Rattle.growth.specs.Answered.{AnswersBy, answered}
use Rattle.growth.specs.StillRead.{Old, Readable, classes_kept, file_some, patterns_kept, samples_kept, trace_block_kept}
use Rattle.refusal.specs.Verdicts.{accepted}

-- the first string with a keyword is told by the strings
find_same : (f g : List ℕ) (ps : List Place) (key : List ℕ) → strs_in g ps ≡ strs_in f ps → find_of Strict g ps key ≡ find_of Strict f ps key
unfolding find_of
find_same f g [] key e = refl
find_same f g (s ∷ ps) key e =
    let k : key_in g s ≡ key_in f s = ap (λ (l : List Str). (nth_str l 0).key) e in
    let r : strs_in g ps ≡ strs_in f ps = ap (λ (l : List Str). drop 1 l) e in
    rw (k, find_same f g ps key r)

module _ {f g : List ℕ} {x : Trace} (w : Grows f g x) where
  module _ {a e : ℕ} (r : Readable f g a e) where
    places_kept : places_in Strict g a e ≡ places_in Strict f a e
    unfolding places_in
    places_kept = rw (high_kept w, string_end_kept w, r.same)

    find_kept : (key : List ℕ) → find_of Strict g (places_in Strict g a e) key ≡ find_of Strict f (places_in Strict f a e) key
    unfolding places_in
    find_kept key =
        let ss : List Str = r.strings.0 in
        let s : Spells Strict (high_first f) (string_end f) (line_end f) ss (part a e f) = r.strings.1 in
        let t : Spells Strict (high_first f) (string_end f) (line_end f) ss (part a e g) = rw r.same s in
        let p = spelled_places Strict f (string_end f) (line_end f) (high_first f) a e ss r.low r.fits s in
        let q = spelled_places Strict g (string_end f) (line_end f) (high_first f) a e ss r.low (omega (arith, r.fits, r.longer)) t in
        let q' : strs_in g (places_of Strict (high_first f) (string_end f) (part a e f) a) ≡ ss = rw r.same at q in
        rw (high_kept w, string_end_kept w, r.same) (find_same f g (places_of Strict (high_first f) (string_end f) (part a e f) a) key (q' ∙ sym p))

    value_kept : (key : List ℕ) → value_found g (find_of Strict g (places_in Strict g a e) key) ≡ value_found f (find_of Strict f (places_in Strict f a e) key)
    unfolding places_in
    value_kept key =
        let ss : List Str = r.strings.0 in
        let s : Spells Strict (high_first f) (string_end f) (line_end f) ss (part a e f) = r.strings.1 in
        let t : Spells Strict (high_first f) (string_end f) (line_end f) ss (part a e g) = rw r.same s in
        let p = (spelled_value Strict f (string_end f) (line_end f) (high_first f) a e ss key r.low r.fits s).1 in
        let q = (spelled_value Strict g (string_end f) (line_end f) (high_first f) a e ss key r.low (omega (arith, r.fits, r.longer)) t).1 in
        rw (high_kept w, string_end_kept w) (q ∙ sym p)

  module _ (some : 0 < count_of f) where
    file_readable : Readable f g (32 + room_of f) (trace_at f 0)
    file_readable =
        let t = w.old.traces 0 some in
        let i : data_at (high_first f) f (trace_at f 0) + data_size_of (high_first f) f (trace_at f 0) ≤ length f = t.inside in
        let z : strings_end f ≡ trace_at f 0 = rw (ne_eqb (count_of f) 0 (λ (q : count_of f ≡ 0). omega arith)) in
        record {
          low = behind_room Grow f w.old 0 some;
          fits = omega arith;
          longer = longer w;
          same = part_kept w (32 + room_of f) (trace_at f 0) (omega arith) (omega arith);
          strings = rw z at w.old.file.strings;
        }

    trace_readable : (k : ℕ) → k < count_of f → Readable f g (trace_at f k + 32) (data_at (high_first f) f (trace_at f k))
    trace_readable k l =
        let t = w.old.traces k l in
        let b : 32 ≤ block_size_of (high_first f) f (trace_at f k) = t.least in
        let i : data_at (high_first f) f (trace_at f k) + data_size_of (high_first f) f (trace_at f k) ≤ length f = t.inside in
        record {
          low = omega arith;
          fits = omega arith;
          longer = longer w;
          same = part_kept w (trace_at f k + 32) (data_at (high_first f) f (trace_at f k)) (omega (arith, behind_room Grow f w.old k l)) (omega arith);
          strings = t.strings;
        }

    on_area_lem : {A : Type 0} (none : A) (p q : ℕ → ℕ → A) → ((a e : ℕ) → Readable f g a e → p a e ≡ q a e) → (z : ℤ) → Old z (count_of f)
        → on_area (area_asked g z) none p ≡ on_area (area_asked f z) none q
    unfolding whose_of area_named
    on_area_lem none p q h (pos k) l =
        let s = trace_kept w k l in
        let c = count_grown w in
        rw (lt-ltb k (count_of g) (omega arith), lt-ltb k (count_of f) l)
        (ap₂ p (ap (λ (j : ℕ). j + 32) s.at) s.begins ∙ h (trace_at f k + 32) (data_at (high_first f) f (trace_at f k)) (trace_readable k l))
    on_area_lem none p q h (negsuc zero) l =
        ap₂ p (ap (λ (j : ℕ). 32 + j) (room_kept w)) (trace_at_kept w 0 some) ∙ h (32 + room_of f) (trace_at f 0) file_readable
    on_area_lem none p q h (negsuc (suc k)) l = refl

    on_trace_lem : {A : Type 0} (none : A) (p q : ℕ → A) → ((k : ℕ) → k < count_of f → p k ≡ q k) → (z : ℤ) → Old z (count_of f)
        → on_trace (whose_of z (count_of g)) none p ≡ on_trace (whose_of z (count_of f)) none q
    unfolding whose_of
    on_trace_lem none p q h (pos k) l = let c = count_grown w in rw (lt-ltb k (count_of g) (omega arith), lt-ltb k (count_of f) l) (h k l)
    on_trace_lem none p q h (negsuc zero) l = refl
    on_trace_lem none p q h (negsuc (suc k)) l = refl

    number_old : (z : ℤ) → Old z (count_of f) → trace_number z < count_of f
    number_old (pos k) l = l
    number_old (negsuc k) l = some

  integers_rows_kept : (k s : ℕ) → k < count_of f → integers_verdict (block_at g k) s ≡ integers_verdict (block_at f k) s
  integers_rows_kept k s l = ap (λ (t : TraceBlock). integers_verdict t s) ((trace_block_kept w) k l)

  bits_rows_kept : (k s c : ℕ) → k < count_of f → bits_verdict (block_at g k) s c ≡ bits_verdict (block_at f k) s c
  bits_rows_kept k s c l = ap (λ (t : TraceBlock). bits_verdict t s c) ((trace_block_kept w) k l)

value_on : (f : List ℕ) (m : Option (ℕ × ℕ)) (r : Refusal) (p : ℕ → ℕ → Result (Option Place) Refusal)
    → value_there f (on_area m (Err r) p) ≡ on_area m [] (λ a e. value_there f (p a e))
value_on f None r p = refl
value_on f (Some (a, e)) r p = refl

module _ {xs : List ℕ} {n : ℕ} {x : Trace} {end : ℕ} (by : Bytes xs) (h : Added xs n x end) (taken : check_of Strict Read xs n ≡ accepted) where
  still : check_of Strict Read (grown xs n x) end ≡ accepted
  still = grown_accepted Read by h

  pub trace_answer_kept : (z : ℤ) → Old z (count_of (take n xs)) → trace_answer Strict (grown xs n x) end z ≡ trace_answer Strict xs n z
  unfolding trace_answer
  trace_answer_kept z o =
      let w = grown_grows by h in
      rw (still, taken) (on_trace_lem w (file_some xs n taken) _ _ _ (λ k l. rw (trace_block_kept w k l)) z o)

  pub count_answer_kept : (z : ℤ) → Old z (count_of (take n xs)) → count_answer Strict (grown xs n x) end z ≡ count_answer Strict xs n z
  unfolding count_answer
  count_answer_kept z o =
      let w = grown_grows by h in
      rw (still, taken) (on_area_lem w (file_some xs n taken) _ _ _ (λ a e r. rw (places_kept w r)) z o)

  pub nth_answer_kept : (z : ℤ) (i : ℕ) → Old z (count_of (take n xs)) → nth_answer Strict (grown xs n x) end z i ≡ nth_answer Strict xs n z i
  unfolding nth_answer
  nth_answer_kept z i o =
      let w = grown_grows by h in
      rw (still, taken) (on_area_lem w (file_some xs n taken) _ _ _ (λ a e r. rw (places_kept w r)) z o)

  pub find_answer_kept : (z : ℤ) (key : List ℕ) → Old z (count_of (take n xs)) → find_answer Strict (grown xs n x) end z key ≡ find_answer Strict xs n z key
  unfolding find_answer
  find_answer_kept z key o =
      let w = grown_grows by h in
      rw (still, taken) (on_area_lem w (file_some xs n taken) _ _ _ (λ a e r. ap there (find_kept w r key)) z o)

  pub keyword_answer_kept : (z : ℤ) (key : List ℕ) → Old z (count_of (take n xs))
      → keyword_answer Strict (grown xs n x) end z key ≡ keyword_answer Strict xs n z key
  unfolding keyword_answer
  keyword_answer_kept z key o = rw (find_answer_kept z key o)

  pub value_answer_kept : (z : ℤ) (key : List ℕ) → Old z (count_of (take n xs)) → value_answer Strict (grown xs n x) end z key ≡ value_answer Strict xs n z key
  unfolding value_answer find_answer
  value_answer_kept z key o =
      let w = grown_grows by h in
      let f : List ℕ = take n xs in
      let g : List ℕ = take end (grown xs n x) in
      rw (still, taken)
      (value_on g (area_asked g z) no_trace _
      ∙ on_area_lem w (file_some xs n taken) [] _ _
      (λ a e r. found_value g (find_of Strict g (places_in Strict g a e) key) ∙ value_kept w r key
      ∙ sym (found_value f (find_of Strict f (places_in Strict f a e) key))) z o
      ∙ sym (value_on f (area_asked f z) no_trace _))

  pub number_answer_kept : (z : ℤ) (key : List ℕ) → Old z (count_of (take n xs))
      → number_answer Strict (grown xs n x) end z key ≡ number_answer Strict xs n z key
  unfolding number_answer
  number_answer_kept z key o = rw (find_answer_kept z key o, value_answer_kept z key o)

  pub double_answer_kept : (z : ℤ) (key : List ℕ) → Old z (count_of (take n xs))
      → double_answer Strict (grown xs n x) end z key ≡ double_answer Strict xs n z key
  unfolding double_answer
  double_answer_kept z key o = rw (find_answer_kept z key o, value_answer_kept z key o)

  pub location_answer_kept : (z : ℤ) (key : List ℕ) → Old z (count_of (take n xs))
      → location_answer Strict (grown xs n x) end z key ≡ location_answer Strict xs n z key
  unfolding location_answer
  location_answer_kept z key o = rw (find_answer_kept z key o, value_answer_kept z key o)

  pub integers_answer_kept : (z : ℤ) (s : ℕ) → Old z (count_of (take n xs)) → integers_answer Strict (grown xs n x) end z s ≡ integers_answer Strict xs n z s
  unfolding integers_answer
  integers_answer_kept z s o =
      let w = grown_grows by h in
      rw (still, taken) (on_trace_lem w (file_some xs n taken) _ _ _ (λ k l. integers_rows_kept w k s l) z o)

  pub bits_answer_kept : (z : ℤ) (s c : ℕ) → Old z (count_of (take n xs)) → bits_answer Strict (grown xs n x) end z s c ≡ bits_answer Strict xs n z s c
  unfolding bits_answer
  bits_answer_kept z s c o =
      let w = grown_grows by h in
      rw (still, taken) (on_trace_lem w (file_some xs n taken) _ _ _ (λ k l. bits_rows_kept w k s c l) z o)

  -- and what is left in the lent rows
  pub integers_left_kept : (z : ℤ) (row : List ℤ) → Old z (count_of (take n xs))
      → integers_left Strict (grown xs n x) end z row ≡ integers_left Strict xs n z row
  unfolding integers_left
  integers_left_kept z row o =
      let w = grown_grows by h in
      rw (integers_answer_kept z (length row) o, samples_kept w (trace_number z) (number_old w (file_some xs n taken) z o))

  pub patterns_left_kept : (z : ℤ) (row classes : List ℕ) → Old z (count_of (take n xs))
      → patterns_left Strict (grown xs n x) end z row classes ≡ patterns_left Strict xs n z row classes
  unfolding patterns_left
  patterns_left_kept z row classes o =
      let w = grown_grows by h in
      rw (bits_answer_kept z (length row) (length classes) o, patterns_kept w (trace_number z) (number_old w (file_some xs n taken) z o))

  pub classes_left_kept : (z : ℤ) (row classes : List ℕ) → Old z (count_of (take n xs))
      → classes_left Strict (grown xs n x) end z row classes ≡ classes_left Strict xs n z row classes
  unfolding classes_left
  classes_left_kept z row classes o =
      let w = grown_grows by h in
      rw (bits_answer_kept z (length row) (length classes) o, classes_kept w (trace_number z) (number_old w (file_some xs n taken) z o))

-- the file's strings after an addition, also after the first, before which the image was no file
pub strings_answers_kept : {xs : List ℕ} {n : ℕ} {x : Trace} {end : ℕ} {ss : List Str} → Bytes xs → Added xs n x end
    → Spells Strict (high_first (take n xs)) (string_end (take n xs)) (line_end (take n xs)) ss
    (part (32 + room_of (take n xs)) (strings_end (take n xs)) (take n xs))
    → AnswersBy Strict (grown xs n x) end (negsuc 0) ss
unfolding whose_of area_named
strings_answers_kept {xs} {n} {x} {end} {ss} by h s =
    let w = grown_grows by h in
    let g : List ℕ = take end (grown xs n x) in
    answered Strict (grown xs n x) end (negsuc 0) ss (grown_accepted Read by h)
    (record { a = 32 + room_of g; e = trace_at g 0; area = refl; spells = rw (strings_end_grown w) at (file_spelled_kept w s) })

-- the file's block says one trace more, and nothing else
pub file_answer_grown : {xs : List ℕ} {n : ℕ} {x : Trace} {end : ℕ} → Bytes xs → Added xs n x end
    → file_answer Strict (grown xs n x) end
    ≡ Ok (record {
      high = high_first (take n xs);
      m = room_of (take n xs);
      n = count_of (take n xs) + 1;
      strings = get_or (take n xs) 8 0;
      lines = get_or (take n xs) 11 0;
    })
unfolding file_answer file_block_of
file_answer_grown by h =
    let w = grown_grows by h in
    rw (
      grown_accepted Read by h,
      high_kept w,
      room_kept w,
      count_grown w,
      size_kept w 8 (omega arith) (omega arith),
      size_kept w 11 (omega arith)
          (omega arith),
    )
