-- Theorems on what specs/Row defines. They stand here, as a wrong definition there is to be refused and not to be unread.
-- Assumes nothing.
use Rattle.std.specs.Prelude.{◌≡◌, Result, Ok, Err, Option, Some, None, Bool, ℤ, length, take, drop, eqb, true, false, List, [], ℕ, zero, suc, ◌+◌, ◌-◌, ◌*◌}
use Rattle.std.proofs.Common.{refl, ap, sym, ◌∙◌, arith}
use Rattle.word.specs.Part.{part}
use Rattle.refusal.specs.Rows.{pick}
use Rattle.refusal.specs.Verdicts.{asked, refused_not, accepted, Verdict}
use Rattle.refusal.specs.declared.Part.{Part}
use Rattle.refusal.specs.declared.Part.TheVariants.{Trace}
use Rattle.text.specs.declared.Manner.TheVariants.{Strict}
use Rattle.strings.specs.declared.Place.{Place}
use Rattle.strings.specs.Strings.{step_of, strings_from, strings_of, nth_of}
use Rattle.places.specs.Numbers.{four_of, numbers_nth}
use Rattle.head_words.specs.HeadWords.{high_first}
use Rattle.terminators.specs.Terminators.{string_end, line_end}
use Rattle.block.specs.Block.{data_at}
use Rattle.image.specs.Keeps.{trace_at}
use Rattle.until.specs.declared.Walked.{Walked}
use Rattle.until.specs.Until.{by_index, to_end, on_step, walk_from, walk_of}
use Rattle.reader.specs.Questions.{trace_number, area_named, there, places_in, numbers_in, strings_verdict}
use Rattle.one_trace.specs.Alone.{alone_of}
use Rattle.one_trace.specs.AloneLaws.{alone_passed}
use Rattle.quick.specs.Quick.{walk_in, told_by, counted_by, quick_walk, quick_nth, quick_count, quick_strings, quick_strings_left}
use Rattle.quick.specs.QuickLaws.{never_string}
use Rattle.shortcut.specs.Full.{by_index_lem}
use Rattle.shortcut.proofs.Full.{area_walk}
use Rattle.refusal.specs.declared.Refusal.{Refusal}
use Rattle.until.specs.declared.Walked.TheVariants as walked

module _ (high : Bool) (t u : List ℕ) (p : Part) where
  from_over : (m j : ℕ) (prev l : List ℕ) (at c : ℕ) → walk_from to_end m high t u p j prev l at ≡ Ok (walked.Over c)
      → strings_from Strict m high t u p prev l at ≡ accepted
  unfolding walk_from strings_from
  from_over zero j prev l at c w = let z : ◌≡◌ {A = ℕ} 0 1 = cc in absurd (omega arith)
  from_over (suc m) j prev l at c w =
      go (step_of Strict high t u p prev l at) w (λ o n. from_over m (j + 1) (take n (drop 2 l)) (drop o l) (at + o) c)
    where
      go : (st : Result (Option (ℕ × ℕ)) Refusal) → on_step st Err (Ok (walked.Over j)) (λ o n. walk_from to_end m high t u p (j + 1) (take n (drop 2 l)) (drop o l) (at + o))
          ≡ Ok (walked.Over c)
          → ((o n : ℕ) → walk_from to_end m high t u p (j + 1) (take n (drop 2 l)) (drop o l) (at + o) ≡ Ok (walked.Over c)
          → strings_from Strict m high t u p (take n (drop 2 l)) (drop o l) (at + o) ≡ accepted)
          → Rattle.strings.specs.Strings.on_step st (λ o n. strings_from Strict m high t u p (take n (drop 2 l)) (drop o l) (at + o)) ≡ accepted
      go (Ok None) h again = refl
      go (Err r) h again = let z : ◌≡◌ {A = ℕ} 0 1 = cc in absurd (omega arith)
      go (Ok (Some (o, n))) h again = again o n h

  over_accepted : (l : List ℕ) (at c : ℕ) → walk_of to_end high t u p l at ≡ Ok (walked.Over c) → strings_of Strict high t u p l at ≡ accepted
  unfolding walk_of strings_of
  over_accepted l at c w = go (eqb (length l) 0) w
    where
      go : (v : Bool) → pick v (Ok (walked.Over 0)) (walk_from to_end (length l) high t u p 0 [] l at) ≡ Ok (walked.Over c)
          → pick v accepted (strings_from Strict (length l) high t u p [] l at) ≡ accepted
      go true h = refl
      go false h = from_over (length l) 0 [] l at c h

module _ (xs : List ℕ) (n : ℕ) (z : ℤ) where
  abbrev f : List ℕ
  f = take n xs

  abbrev k : ℕ
  k = trace_number z

  abbrev a : ℕ
  a = trace_at f k + 32

  abbrev e : ℕ
  e = data_at (high_first f) f (trace_at f k)

  -- the i-th string of a list that was counted is its i-th place
  nth_of_all : (c i : ℕ) → alone_of xs n z ≡ accepted → walk_in to_end f k ≡ Ok (walked.Over c)
      → told_by (walk_in (by_index i) f k) ≡ there (nth_of (places_in Strict f a e) i)
  unfolding walk_in places_in
  nth_of_all c i ok w =
      let fits = (alone_passed xs n z ok).blocked.fits in
      let q = over_accepted (high_first f) (string_end f) (line_end f) (Trace k) (part a e f) a c w in
      let y : i - 0 ≡ i = omega arith in
      ap told_by (area_walk (high_first f) (string_end f) (line_end f) (Trace k) f a e fits q (by_index i))
      ∙ (rw y at (by_index_lem f i 0 (places_in Strict f a e) (omega arith)))

  pub row_holds : (row : List ℕ) (i : ℕ) (s : Place) → quick_strings xs n z (length row) ≡ accepted → quick_nth xs n z i ≡ Ok (Some s)
      → part (4 * i) (4 * i + 4) (quick_strings_left xs n z row) ≡ four_of s
  unfolding quick_strings quick_count quick_nth quick_walk quick_strings_left numbers_in area_named
  row_holds row i s v h = rw v (numbers_nth (places_in Strict f a e) i s (go (alone_of xs n z) refl (walk_in to_end f k) refl v h))
    where
      found : (y : Option Place) → there y ≡ Ok (Some s) → y ≡ Some s
      found None q = let z : ◌≡◌ {A = ℕ} 0 1 = cc in absurd (omega arith)
      found (Some p) q = let y : p ≡ s = cc in ap Some y

      go : (b : Verdict) → alone_of xs n z ≡ b → (w : Result Walked Refusal) → walk_in to_end f k ≡ w
          → strings_verdict (counted_by (asked Err b w)) (length row) ≡ accepted
          → told_by (asked Err b (walk_in (by_index i) f k)) ≡ Ok (Some s) → nth_of (places_in Strict f a e) i ≡ Some s
      go (Err r) o w d q x = absurd (refused_not r q)
      go (Ok _) o (Err r) d q x = absurd (refused_not r q)
      go (Ok _) o (Ok (walked.At p)) d q x = absurd (never_string f k p d)
      go (Ok _) o (Ok (walked.Over c)) d q x = found (nth_of (places_in Strict f a e) i) (sym (nth_of_all c i o d) ∙ x)
