-- Theorems on what specs/Answers defines. They stand here, as a wrong definition there is to be refused and not to be unread.
-- Assumes nothing.
use Rattle.std.specs.Prelude.{◌≡◌, refl, ℕ, ◌+◌, ℤ, length, eqb, Ok, Option, Some, None, List, []}
use Rattle.std.proofs.Common.{arith, ne_eqb, ap}
use Rattle.word.specs.Part.{part}
use Rattle.refusal.specs.Rows.{pick_second}
use Rattle.refusal.specs.declared.Part.{Part}
use Rattle.refusal.specs.declared.Part.TheVariants.{File, Trace}
use Rattle.text.specs.declared.Manner.{Manner}
use Rattle.text.specs.declared.Manner.TheVariants.{Strict, Lenient}
use Rattle.strings.specs.declared.Place.{Place}
use Rattle.strings.specs.Strings.{places_of, find_of, nth_of}
use Rattle.places.specs.Numbers.{numbers_of}
use Rattle.head_limits.specs.declared.Purpose.TheVariants.{Read}
use Rattle.head_words.specs.HeadWords.{high_first, room_of, count_of}
use Rattle.terminators.specs.Terminators.{string_end, line_end}
use Rattle.block.specs.Block.{data_at}
use Rattle.trace.specs.Trace.{area_verdict}
use Rattle.image.specs.Image.{image_of, check_of}
use Rattle.image.specs.Keeps.{trace_at, strings_end}
use Rattle.image.specs.Accepted.{image_strings, image_traced, traced_strings}
use Rattle.part_number.specs.PartNumber.{whose_of}
use Rattle.reader.specs.Questions.{area_named, area_asked, on_area, places_in, there}
use Rattle.reader.specs.Questions.{file_answer, trace_answer, count_answer, nth_answer, find_answer, keyword_answer, value_answer, span_answer}
use Rattle.reader.specs.Questions.{strings_answer, numbers_in, strings_left, number_answer, double_answer, location_answer}
use Rattle.reader.specs.Questions.{integers_answer, integers_left, bits_answer, patterns_left, classes_left}
use Rattle.reader.specs.Reach.{checked, whose_trace, some_trace, area_fits}
use Rattle.lenient.proofs.Forgiven.{strict_lenient}
use Rattle.lenient.specs.Alike.{places_any, find_strict}
use Rattle.lenient.specs.Answers.{f}
use Rattle.refusal.specs.Verdicts.{accepted, pair_parts}

-- ---- what every manner answers of an area

places_in_lem : (how : Manner) (f : List ℕ) (a e : ℕ) → places_in how f a e ≡ places_in Strict f a e
unfolding places_in places_of
places_in_lem how f a e = places_any how Strict (length (part a e f)) (high_first f) (string_end f) (part a e f) a

on_area_lem : {A : Type 0} (w : Option (ℕ × ℕ)) (none : A) (g h : ℕ → ℕ → A) → ((a e : ℕ) → w ≡ Some (a, e) → g a e ≡ h a e) → on_area w none g ≡ on_area w none h
on_area_lem None none g h same = refl
on_area_lem (Some (a, e)) none g h same = same a e refl

-- the strings of the part that was asked for were let through
area_passed : (f : List ℕ) (z : ℤ) (a e : ℕ) → image_of Strict Read f ≡ accepted → area_asked f z ≡ Some (a, e)
    → (p : Part) × (area_verdict Strict (high_first f) (string_end f) (line_end f) f p a e ≡ accepted)
unfolding area_named
area_passed f z a e ok h = go (whose_of z (count_of f)) refl h
  where
    go : (w : Option Part) → whose_of z (count_of f) ≡ w → area_named f w ≡ Some (a, e)
        → (p : Part) × (area_verdict Strict (high_first f) (string_end f) (line_end f) f p a e ≡ accepted)
    go (Some File) q h =
        let p : ◌≡◌ {A = ℕ × ℕ} (32 + room_of f, trace_at f 0) (a, e) = cc in
        let s = pair_parts p in
        let some = some_trace Strict f ok in
        let d : strings_end f ≡ trace_at f 0 = pick_second (eqb (count_of f) 0) (length f) (trace_at f 0) (ne_eqb (count_of f) 0 (omega arith)) in
        (File, rw (← s.0, ← s.1, ← d) (image_strings Strict Read f ok))
    go (Some (Trace k)) q h =
        let p : ◌≡◌ {A = ℕ × ℕ} (trace_at f k + 32, data_at (high_first f) f (trace_at f k)) (a, e) = cc in
        let s = pair_parts p in
        let l = (whose_trace z (count_of f) k q).1 in
        (Trace k, rw (← s.0, ← s.1) (traced_strings Strict f k (image_traced Strict Read f ok k l)))
    go None q h = let y : ◌≡◌ {A = ℕ} 0 1 = cc in absurd (omega arith)

find_in : (how : Manner) (f : List ℕ) (z : ℤ) (a e : ℕ) (key : List ℕ) → image_of Strict Read f ≡ accepted → area_asked f z ≡ Some (a, e)
    → find_of how f (places_in how f a e) key ≡ find_of Strict f (places_in Strict f a e) key
unfolding places_in area_verdict
find_in how f z a e key ok h =
    let s = area_passed f z a e ok h in
    let i = area_fits Strict f ok z a e h in
    find_strict how (high_first f) (string_end f) (line_end f) s.0 f a e key i.0 i.1 s.1

module _ (xs : List ℕ) (n : ℕ) (ok : check_of Strict Read xs n ≡ accepted) where
  loose : check_of Lenient Read xs n ≡ accepted
  loose = strict_lenient Read xs n ok

  pub file_alike : file_answer Lenient xs n ≡ file_answer Strict xs n
  unfolding file_answer
  file_alike = rw (ok, loose)

  pub trace_alike : (z : ℤ) → trace_answer Lenient xs n z ≡ trace_answer Strict xs n z
  unfolding trace_answer
  trace_alike z = rw (ok, loose)

  pub count_alike : (z : ℤ) → count_answer Lenient xs n z ≡ count_answer Strict xs n z
  unfolding count_answer
  count_alike z = rw (ok, loose)
      (on_area_lem (area_asked (f xs n ok) z) _ _ _
      (λ a e h. ap (λ (ps : List Place). Ok (length ps)) (places_in_lem Lenient (f xs n ok) a e)))

  pub nth_alike : (z : ℤ) (i : ℕ) → nth_answer Lenient xs n z i ≡ nth_answer Strict xs n z i
  unfolding nth_answer
  nth_alike z i = rw (ok, loose)
      (on_area_lem (area_asked (f xs n ok) z) _ _ _
      (λ a e h. ap (λ (ps : List Place). there (nth_of ps i)) (places_in_lem Lenient (f xs n ok) a e)))

  pub find_alike : (z : ℤ) (key : List ℕ) → find_answer Lenient xs n z key ≡ find_answer Strict xs n z key
  unfolding find_answer
  find_alike z key =
      rw (ok, loose) (on_area_lem (area_asked (f xs n ok) z) _ _ _ (λ a e h. ap there (find_in Lenient (f xs n ok) z a e key (checked Strict xs n ok).image h)))

  pub keyword_alike : (z : ℤ) (key : List ℕ) → keyword_answer Lenient xs n z key ≡ keyword_answer Strict xs n z key
  unfolding keyword_answer
  keyword_alike z key = rw (find_alike z key)

  pub value_alike : (z : ℤ) (key : List ℕ) → (value_answer Lenient xs n z key ≡ value_answer Strict xs n z key)
      × (span_answer Lenient xs n z key ≡ span_answer Strict xs n z key)
  unfolding value_answer span_answer
  value_alike z key = (rw (find_alike z key), rw (find_alike z key))

  pub number_alike : (z : ℤ) (key : List ℕ) → number_answer Lenient xs n z key ≡ number_answer Strict xs n z key
  unfolding number_answer
  number_alike z key = rw (find_alike z key, (value_alike z key).0)

  pub double_alike : (z : ℤ) (key : List ℕ) → double_answer Lenient xs n z key ≡ double_answer Strict xs n z key
  unfolding double_answer
  double_alike z key = rw (find_alike z key, (value_alike z key).0)

  pub location_alike : (z : ℤ) (key : List ℕ) → location_answer Lenient xs n z key ≡ location_answer Strict xs n z key
  unfolding location_answer
  location_alike z key = rw (find_alike z key, (value_alike z key).0)

  pub strings_alike : (z : ℤ) (row : List ℕ) → (strings_answer Lenient xs n z (length row) ≡ strings_answer Strict xs n z (length row))
      × (strings_left Lenient xs n z row ≡ strings_left Strict xs n z row)
  unfolding strings_answer strings_left numbers_in
  strings_alike z row =
      let numbers : on_area (area_asked (f xs n ok) z) [] (λ a e. numbers_of (places_in Lenient (f xs n ok) a e))
      ≡ on_area (area_asked (f xs n ok) z) [] (λ a e. numbers_of (places_in Strict (f xs n ok) a e)) =
      on_area_lem (area_asked (f xs n ok) z) [] _ _ (λ a e h. ap numbers_of (places_in_lem Lenient (f xs n ok) a e)) in
      (rw (count_alike z), rw (count_alike z, numbers))

  pub integers_alike : (z : ℤ) (row : List ℤ) → (integers_answer Lenient xs n z (length row) ≡ integers_answer Strict xs n z (length row))
      × (integers_left Lenient xs n z row ≡ integers_left Strict xs n z row)
  unfolding integers_answer integers_left
  integers_alike z row = (rw (ok, loose), rw (ok, loose))

  pub bits_alike : (z : ℤ) (row classes : List ℕ)
      → (bits_answer Lenient xs n z (length row) (length classes) ≡ bits_answer Strict xs n z (length row) (length classes))
      × (patterns_left Lenient xs n z row classes ≡ patterns_left Strict xs n z row classes)
      × (classes_left Lenient xs n z row classes ≡ classes_left Strict xs n z row classes)
  unfolding bits_answer patterns_left classes_left
  bits_alike z row classes = (rw (ok, loose), rw (ok, loose), rw (ok, loose))
