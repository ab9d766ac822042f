-- Theorems on what specs/Full defines. They stand here, as a wrong definition there is to be refused and not to be unread.
-- Assumes nothing.
use Rattle.std.specs.Prelude.{◌≡◌, Bool, pos, take, eqb, Result, Ok, Err, Option, Some, None, true, false, List, [], ◌∷◌, ℕ, zero, suc, ◌+◌, ◌-◌, ◌≤◌, ◌<◌, length, ltb}
use Rattle.std.proofs.Common.{refl, ap, sym, ◌∙◌, arith, ne_eqb}
use borrow.Author.Tests.{not-false}
use Rattle.word.specs.Part.{part, part_drop}
use Rattle.refusal.specs.Rows.{pick}
use Rattle.refusal.specs.Verdicts.{asked, accepted, Verdict}
use Rattle.refusal.specs.FirstRow.{row}
use Rattle.refusal.specs.declared.Part.{Part}
use Rattle.refusal.specs.declared.Part.TheVariants.{Trace}
use Rattle.refusal.specs.declared.Refusal.{Refusal}
use Rattle.text.specs.declared.Manner.TheVariants.{Strict}
use Rattle.key_order.specs.Order.{before, rises}
use Rattle.key_order.proofs.Order.{before_other, before_rises}
use Rattle.chars.specs.Runs.{same}
use Rattle.strings.specs.declared.Place.{Place}
use Rattle.strings.specs.Strings.{step_of, strings_from, strings_of, place_of}
use Rattle.strings.specs.Strings.{places_from, places_of, nth_of, find_of}
use Rattle.strings.proofs.Passed.{seen_key}
use Rattle.strings.specs.Followed.{Followed, no_fuel, not_bad, none_left}
use Rattle.strings.proofs.Followed.{followed}
use Rattle.until.specs.declared.Turn.{Turn}
use Rattle.until.specs.declared.Turn.TheVariants.{Here, Gone, On}
use Rattle.until.specs.declared.Walked.{Walked}
use Rattle.until.specs.Until.{passed, by_key, by_index, to_end, on_turn, walk_from, walk_of}
use Rattle.head_limits.specs.declared.Purpose.TheVariants.{Read}
use Rattle.head_words.specs.HeadWords.{high_first, count_of}
use Rattle.terminators.specs.Terminators.{string_end, line_end}
use Rattle.block.specs.Block.{data_at}
use Rattle.trace.specs.Trace.{area_verdict}
use Rattle.image.specs.Image.{check_of}
use Rattle.image.specs.Keeps.{trace_at}
use Rattle.image.specs.Accepted.{image_traced, traced_strings}
use Rattle.part_number.specs.PartNumber.{whose_of}
use Rattle.reader.specs.Questions.{no_trace, area_named, on_area, on_trace, there, places_in, on_string}
use Rattle.reader.specs.Questions.{count_answer, nth_answer, strings_verdict, strings_answer, strings_left, numbers_in, kept}
use Rattle.reader.specs.Questions.{find_answer, keyword_answer, value_answer, span_answer, number_answer, double_answer, location_answer}
use Rattle.reader.specs.Reach.{trace_blocked}
use Rattle.decimal.specs.Number.{number_in}
use Rattle.double.specs.Double.{double_of}
use Rattle.location.specs.Location.{location_of}
use Rattle.one_trace.specs.Alone.{alone_of}
use Rattle.quick.specs.Quick.{walk_in, told_by, counted_by, quick_walk, quick_find, quick_nth, quick_count, quick_strings, quick_strings_left}
use Rattle.quick.specs.Quick.{quick_keyword, quick_value, quick_span, quick_read, quick_number, quick_double, quick_location}
use Rattle.shortcut.specs.Full.{by_index_lem, image, quickly_full, walk_places}
use Rattle.until.specs.declared.Walked.TheVariants as walked

module _ (high : Bool) (t u : List ℕ) (p : Part) (f : List ℕ) (e : ℕ) (fits : e ≤ length f) where
  from_places : (look : ℕ → List ℕ → Turn) (m j at : ℕ) (prev : List ℕ) → strings_from Strict m high t u p prev (part at e f) at ≡ accepted
      → walk_from look m high t u p j prev (part at e f) at ≡ walk_places look f j (places_from Strict m high t (part at e f) at)
  unfolding walk_from walk_places
  from_places look zero j at prev q = absurd (no_fuel high t u p f e at prev q)
  from_places look (suc m) j at prev q =
      go (step_of Strict high t u p prev (part at e f) at) refl (λ o n. from_places look m (j + 1) (at + o) (part (at + 2) (at + 2 + n) f))
    where
      go : (st : Result (Option (ℕ × ℕ)) Refusal) → step_of Strict high t u p prev (part at e f) at ≡ st
          → ((o n : ℕ) → strings_from Strict m high t u p (part (at + 2) (at + 2 + n) f) (part (at + o) e f) (at + o) ≡ accepted
          → walk_from look m high t u p (j + 1) (part (at + 2) (at + 2 + n) f) (part (at + o) e f) (at + o)
          ≡ walk_places look f (j + 1) (places_from Strict m high t (part (at + o) e f) (at + o)))
          → walk_from look (suc m) high t u p j prev (part at e f) at ≡ walk_places look f j (places_from Strict (suc m) high t (part at e f) at)
      go (Ok None) h again = rw (h, none_left Strict high t u p f e m at prev h)
      go (Err r) h again = absurd (not_bad Strict high t u p f e m at prev r h q)
      go (Ok (Some (o, n))) h again =
          let c = followed Strict high t u p f e fits m at prev o n h q in
          let y = seen_key Strict high t u p prev f e at o n fits h in
          rw (h, y, part_drop o at e f, c.places, c.own_key, again o n c.rest)

  -- a keyword follows the one before it
  follows : {m at : ℕ} {prev : List ℕ} {o n : ℕ} → Followed Strict high t u p f e m at prev o n → rises prev (part (at + 2) (at + 2 + n) f) ≡ true
  follows {prev = prev} c = ap (rises prev) (sym c.key) ∙ not-false _ c.clear.1.1.1.0

  -- behind a keyword that the asked one comes before, none is the asked one
  none_behind : (key : List ℕ) (m at : ℕ) (prev : List ℕ) → strings_from Strict m high t u p prev (part at e f) at ≡ accepted → before key prev ≡ true
      → find_of Strict f (places_from Strict m high t (part at e f) at) key ≡ None
  unfolding find_of
  none_behind key zero at prev q w = absurd (no_fuel high t u p f e at prev q)
  none_behind key (suc m) at prev q w =
      go (step_of Strict high t u p prev (part at e f) at) refl (λ o n. none_behind key m (at + o) (part (at + 2) (at + 2 + n) f))
    where
      go : (st : Result (Option (ℕ × ℕ)) Refusal) → step_of Strict high t u p prev (part at e f) at ≡ st
          → ((o n : ℕ) → strings_from Strict m high t u p (part (at + 2) (at + 2 + n) f) (part (at + o) e f) (at + o) ≡ accepted
          → before key (part (at + 2) (at + 2 + n) f) ≡ true
          → find_of Strict f (places_from Strict m high t (part (at + o) e f) (at + o)) key ≡ None)
          → find_of Strict f (places_from Strict (suc m) high t (part at e f) at) key ≡ None
      go (Ok None) h again = rw (none_left Strict high t u p f e m at prev h)
      go (Err r) h again = absurd (not_bad Strict high t u p f e m at prev r h q)
      go (Ok (Some (o, n))) h again =
          let c = followed Strict high t u p f e fits m at prev o n h q in
          let k = before_rises key prev (part (at + 2) (at + 2 + n) f) w (follows c) in
          rw (c.places, c.own_key, before_other key (part (at + 2) (at + 2 + n) f) k) (again o n c.rest k)

  -- so the search ends where the question's own does
  from_key : (key : List ℕ) (m j at : ℕ) (prev : List ℕ) → strings_from Strict m high t u p prev (part at e f) at ≡ accepted
      → told_by (walk_places (by_key key) f j (places_from Strict m high t (part at e f) at))
      ≡ there (find_of Strict f (places_from Strict m high t (part at e f) at) key)
  unfolding walk_places find_of
  from_key key zero j at prev q = absurd (no_fuel high t u p f e at prev q)
  from_key key (suc m) j at prev q =
      go (step_of Strict high t u p prev (part at e f) at) refl (λ o n. from_key key m (j + 1) (at + o) (part (at + 2) (at + 2 + n) f))
    where
      told : (s : Place) (v w : Bool) (x : Result Walked Refusal) (y : Option Place) → told_by x ≡ there y → (w ≡ true → y ≡ None)
          → told_by (on_turn (pick v Here (pick w Gone On)) (Ok (walked.At s)) (Ok (walked.Over j)) x) ≡ there (pick v (Some s) y)
      told s true w x y a z = refl
      told s false true x y a z = rw (z refl)
      told s false false x y a z = a

      go : (st : Result (Option (ℕ × ℕ)) Refusal) → step_of Strict high t u p prev (part at e f) at ≡ st
          → ((o n : ℕ) → strings_from Strict m high t u p (part (at + 2) (at + 2 + n) f) (part (at + o) e f) (at + o) ≡ accepted
          → told_by (walk_places (by_key key) f (j + 1) (places_from Strict m high t (part (at + o) e f) (at + o)))
          ≡ there (find_of Strict f (places_from Strict m high t (part (at + o) e f) (at + o)) key))
          → told_by (walk_places (by_key key) f j (places_from Strict (suc m) high t (part at e f) at))
          ≡ there (find_of Strict f (places_from Strict (suc m) high t (part at e f) at) key)
      go (Ok None) h again = rw (none_left Strict high t u p f e m at prev h)
      go (Err r) h again = absurd (not_bad Strict high t u p f e m at prev r h q)
      go (Ok (Some (o, n))) h again =
          let c = followed Strict high t u p f e fits m at prev o n h q in
          let k : List ℕ = part (at + 2) (at + 2 + n) f in
          rw (c.places, c.own_key)
          (told (place_of t o (part at e f) at) (same k key) (passed key k) _ _ (again o n c.rest) (λ w. none_behind key m (at + o) k c.rest w))

to_end_lem : (f : List ℕ) (j : ℕ) (ss : List Place) → walk_places to_end f j ss ≡ Ok (walked.Over (j + length ss))
unfolding walk_places
to_end_lem f j [] = let e : j ≡ j + 0 = omega arith in ap (λ a. Ok (walked.Over a)) e
to_end_lem f j (s ∷ ss) = to_end_lem f (j + 1) ss ∙ (let e : j + 1 + length ss ≡ j + suc (length ss) = omega arith in ap (λ a. Ok (walked.Over a)) e)

module _ (high : Bool) (t u : List ℕ) (p : Part) (f : List ℕ) (a e : ℕ) (fits : e ≤ length f) (q : strings_of Strict high t u p (part a e f) a ≡ accepted) where
  some : (m : ℕ) → eqb (suc m) 0 ≡ false
  some m = ne_eqb (suc m) 0 (λ z. absurd (omega (arith, z)))

  pub area_walk : (look : ℕ → List ℕ → Turn) → walk_of look high t u p (part a e f) a ≡ walk_places look f 0 (places_of Strict high t (part a e f) a)
  unfolding strings_of walk_of places_of places_from walk_places
  area_walk look = go (length (part a e f)) q
    where
      go : (m : ℕ) → pick (eqb m 0) accepted (strings_from Strict m high t u p [] (part a e f) a) ≡ accepted
          → pick (eqb m 0) (Ok (walked.Over 0)) (walk_from look m high t u p 0 [] (part a e f) a)
          ≡ walk_places look f 0 (places_from Strict m high t (part a e f) a)
      go zero h = refl
      go (suc m) h = rw (some m) (from_places high t u p f e fits look (suc m) 0 a [] (rw (some m) at h))

  area_key : (key : List ℕ) → told_by (walk_places (by_key key) f 0 (places_of Strict high t (part a e f) a))
      ≡ there (find_of Strict f (places_of Strict high t (part a e f) a) key)
  unfolding strings_of places_of places_from find_of walk_places
  area_key key = go (length (part a e f)) q
    where
      go : (m : ℕ) → pick (eqb m 0) accepted (strings_from Strict m high t u p [] (part a e f) a) ≡ accepted
          → told_by (walk_places (by_key key) f 0 (places_from Strict m high t (part a e f) a))
          ≡ there (find_of Strict f (places_from Strict m high t (part a e f) a) key)
      go zero h = refl
      go (suc m) h = from_key high t u p f e fits key (suc m) 0 a [] (rw (some m) at h)

module _ (xs : List ℕ) (n : ℕ) (ok : check_of Strict Read xs n ≡ accepted) where
  abbrev g : List ℕ
  g = take n xs

  module _ {A : Type 0} (bad : Refusal → A) (mk : Result Walked Refusal → A) (own : List Place → A) (look : ℕ → List ℕ → Turn)
      (refuses : (r : Refusal) → mk (Err r) ≡ bad r) where
    outside : (v : Verdict) (w : Result Walked Refusal) → mk (asked Err v w) ≡ asked bad v (mk w)
    outside (Ok _) w = refl
    outside (Err r) w = refuses r

    on_area_lem : (k : ℕ) (w : Bool)
        → on_trace (pick w (Some (Trace k)) None) (bad no_trace) (λ i. own (places_in Strict g (trace_at g i + 32) (data_at (high_first g) g (trace_at g i))))
        ≡ on_area (area_named g (pick w (Some (Trace k)) None)) (bad no_trace) (λ a e. own (places_in Strict g a e))
    unfolding area_named
    on_area_lem k true = refl
    on_area_lem k false = refl

    strings_by : (k : ℕ)
        → ((a e : ℕ) → e ≤ length g → area_verdict Strict (high_first g) (string_end g) (line_end g) g (Trace k) a e ≡ accepted
        → mk (walk_places look g 0 (places_in Strict g a e)) ≡ own (places_in Strict g a e))
        → mk (quick_walk look xs n (pos k))
        ≡ asked bad (check_of Strict Read xs n) (on_area (area_named g (whose_of (pos k) (count_of g))) (bad no_trace) (λ a e. own (places_in Strict g a e)))
    unfolding quick_walk walk_in places_in area_verdict whose_of
    strings_by k h =
        outside (alone_of xs n (pos k)) (walk_in look g k)
        ∙ (quickly_full xs n ok) bad (λ f i. mk (walk_in look f i))
        (λ f i. own (places_in Strict f (trace_at f i + 32) (data_at (high_first f) f (trace_at f i)))) k there_so
        ∙ ap (asked bad (check_of Strict Read xs n)) (on_area_lem k (ltb k (count_of g)))
      where
        there_so : k < count_of g → mk (walk_in look g k) ≡ own (places_in Strict g (trace_at g k + 32) (data_at (high_first g) g (trace_at g k)))
        there_so l =
            let a : ℕ = trace_at g k + 32 in
            let e : ℕ = data_at (high_first g) g (trace_at g k) in
            let b = trace_blocked Strict g (image xs n ok) k l in
            let q = traced_strings Strict g k (image_traced Strict Read g (image xs n ok) k l) in
            ap mk (area_walk (high_first g) (string_end g) (line_end g) (Trace k) g a e b.fits q look) ∙ h a e b.fits q

  pub find_full : (k : ℕ) (key : List ℕ) → quick_find xs n (pos k) key ≡ find_answer Strict xs n (pos k) key
  unfolding quick_find find_answer places_in area_verdict
  find_full k key =
      strings_by Err told_by (λ ss. there (find_of Strict g ss key)) (by_key key) (λ r. refl) k
      (λ a e fits q. area_key (high_first g) (string_end g) (line_end g) (Trace k) g a e fits q key)

  pub nth_full : (k i : ℕ) → quick_nth xs n (pos k) i ≡ nth_answer Strict xs n (pos k) i
  unfolding quick_nth nth_answer
  nth_full k i = strings_by Err told_by (λ ss. there (nth_of ss i)) (by_index i) (λ r. refl) k
      (λ a e fits q. let z : i - 0 ≡ i = omega arith in rw z at (by_index_lem g i 0 (places_in Strict g a e) (omega arith)))

  pub count_full : (k : ℕ) → quick_count xs n (pos k) ≡ count_answer Strict xs n (pos k)
  unfolding quick_count count_answer
  count_full k = strings_by Err counted_by (λ ss. Ok (length ss)) to_end (λ r. refl) k
      (λ a e fits q.
      let z : 0 + length (places_in Strict g a e) ≡ length (places_in Strict g a e) = omega arith in
      ap counted_by (to_end_lem g 0 (places_in Strict g a e)) ∙ ap Ok z)

  pub strings_full : (k : ℕ) (row : List ℕ)
      → (quick_strings xs n (pos k) (length row) ≡ strings_answer Strict xs n (pos k) (length row))
      × (quick_strings_left xs n (pos k) row ≡ strings_left Strict xs n (pos k) row)
  unfolding quick_strings quick_strings_left strings_answer strings_left whose_of count_answer area_named
  strings_full k row = rw (count_full k) (refl, go (ltb k (count_of g)) refl)
    where
      go : (w : Bool) → ltb k (count_of g) ≡ w
          → kept (strings_verdict (count_answer Strict xs n (pos k)) (length row)) (numbers_in Strict g (area_named g (Some (Trace k)))) row
          ≡ kept (strings_verdict (count_answer Strict xs n (pos k)) (length row)) (numbers_in Strict g (area_named g (pick w (Some (Trace k)) None))) row
      go true w = refl
      go false w = rw (ok, w)

  -- ---- a keyword's value

  pub keyword_full : (k : ℕ) (key : List ℕ) → quick_keyword xs n (pos k) key ≡ keyword_answer Strict xs n (pos k) key
  unfolding quick_keyword keyword_answer
  keyword_full k key = rw (find_full k key)

  pub value_full : (k : ℕ) (key : List ℕ) → (quick_value xs n (pos k) key ≡ value_answer Strict xs n (pos k) key)
      × (quick_span xs n (pos k) key ≡ span_answer Strict xs n (pos k) key)
  unfolding quick_value value_answer quick_span span_answer
  value_full k key = rw (find_full k key) (refl, refl)

  -- whatever is made of the value
  read_full : {A : Type 0} (bad : Refusal → A) (read : List ℕ → A) (k : ℕ) (key : List ℕ)
      → quick_read bad read xs n (pos k) key ≡ on_string bad (find_answer Strict xs n (pos k) key) (read (value_answer Strict xs n (pos k) key))
  read_full bad read k key = rw (find_full k key, (value_full k key).0)

  pub number_full : (k : ℕ) (key : List ℕ) → quick_number xs n (pos k) key ≡ number_answer Strict xs n (pos k) key
  unfolding quick_number number_answer
  number_full = read_full Err number_in

  pub double_full : (k : ℕ) (key : List ℕ) → quick_double xs n (pos k) key ≡ double_answer Strict xs n (pos k) key
  unfolding quick_double double_answer
  double_full = read_full Err double_of

  pub location_full : (k : ℕ) (key : List ℕ) → quick_location xs n (pos k) key ≡ location_answer Strict xs n (pos k) key
  unfolding quick_location location_answer
  location_full = read_full Err location_of
