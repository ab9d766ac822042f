-- Theorems on what specs/Reads defines. They stand here, as a wrong definition there is to be refused and not to be unread.
-- Assumes nothing.
use Rattle.std.specs.Prelude.{◌≡◌, Bool, ℤ, length, Ok, Err, Option, Some, None, List, [], ℕ, ◌+◌, ◌≤◌, ◌<◌, take}
use Rattle.std.proofs.Common.{refl, sym, ap, ap₂, ◌∙◌, arith, le-ltb, ne_eqb}
use Rattle.head_limits.specs.declared.Purpose.{Purpose}
use Rattle.head_limits.specs.declared.Purpose.TheVariants.{Read}
use Rattle.text.specs.declared.Manner.TheVariants.{Strict}
use Rattle.refusal.specs.Verdicts.{asked, accepted, Verdict}
use Rattle.word.specs.Part.{part}
use Rattle.refusal.specs.declared.Refusal.{Refusal}
use Rattle.strings.specs.declared.Place.{Place}
use Rattle.strings.specs.Strings.{places_of, nth_of, find_of, value_found}
use Rattle.head_words.specs.HeadWords.{file_block_of, high_first, room_of, count_of}
use Rattle.terminators.specs.Terminators.{string_end}
use Rattle.block.specs.Block.{sample_count_of, format_code_of, data_at, end_at, trace_block_of}
use Rattle.image.specs.Image.{check_of}
use Rattle.image.specs.Keeps.{trace_at, strings_end}
use Rattle.part_number.specs.PartNumber.{whose_of}
use Rattle.reader.specs.Questions.{no_trace, area_named, area_asked, on_area, on_trace, file_answer, trace_answer}
use Rattle.reader.specs.Questions.{places_in, count_answer, there, nth_answer, find_answer, keyword_answer, yes_or_no}
use Rattle.reader.specs.Questions.{value_there, value_answer, number_answer, double_answer, location_answer, code_at, count_at}
use Rattle.reader.specs.Questions.{data_of, integers_verdict, bits_verdict, integers_answer, bits_answer, samples_in}
use Rattle.reader.specs.Questions.{patterns_in, classes_in, samples_of, patterns_of, classes_of, integers_left, patterns_left}
use Rattle.reader.specs.Questions.{classes_left, kept}
use Rattle.reader.specs.Reach.{checked, whose_trace, some_trace, trace_blocked}
use Rattle.reader.specs.Listed.{found_value}
use Rattle.reader.specs.Answers.{integers_accepted, bits_accepted}
use Rattle.ignored.specs.Areas.{SameAt, find_same, value_same}
use Rattle.ignored.proofs.Areas.{places_same, texts_same}
use Rattle.ignored.specs.Images.{AlikeStrings, Alike, part_long, same_order, same_room, same_traces}
use Rattle.ignored.proofs.Images.{same_size}
use Rattle.ignored.specs.Images.{same_pointer, same_block, same_data, same_count, same_code, same_end}
use Rattle.ignored.proofs.Images.{same_image}
use Rattle.ignored.specs.Data.{samples_same, patterns_same, classes_same}
use Rattle.ignored.specs.Reads.{block}
use Rattle.refusal.specs.declared.Part.{Part}
use Rattle.refusal.specs.declared.Part.TheVariants.{File, Trace}

module _ {f g : List ℕ} (a : Alike f g) where
  -- ---- blocks
  block_same : (k : ℕ) → k < count_of f → trace_block_of (high_first f) f k ≡ trace_block_of (high_first g) g k
  unfolding trace_block_of
  block_same k low =
      let t = a.traces k low in
      rw (same_block a t, same_data a t, same_count a t, same_code a t, same_pointer a k low, same_order a)

  at_same : (k : ℕ) → k < count_of f → trace_at f k ≡ trace_at g k
  at_same k low = same_pointer a k low ∙ ap (λ (o : Bool). Rattle.block.specs.Block.pointer_of o g k) (same_order a)

  code_same : (k : ℕ) → k < count_of f → code_at f k ≡ code_at g k
  code_same k low = same_code a (a.traces k low) ∙ ap (format_code_of g) (at_same k low)

  count_same : (k : ℕ) → k < count_of f → count_at f k ≡ count_at g k
  count_same k low = same_count a (a.traces k low) ∙ ap₂ (λ (o : Bool) (p : ℕ). sample_count_of o g p) (same_order a) (at_same k low)

  begin_same : (k : ℕ) → k < count_of f → data_at (high_first f) f (trace_at f k) ≡ data_at (high_first g) g (trace_at g k)
  begin_same k low = rw (same_block a (a.traces k low), at_same k low, same_order a)

  on_trace_lem : {A : Type 0} (none : A) (p q : ℕ → A) → ((k : ℕ) → k < count_of f → p k ≡ q k) → (z : ℤ)
      → on_trace (whose_of z (count_of f)) none p ≡ on_trace (whose_of z (count_of g)) none q
  on_trace_lem none p q h z = rw (← same_traces a) (go (whose_of z (count_of f)) refl)
    where
      go : (w : Option Part) → whose_of z (count_of f) ≡ w → on_trace w none p ≡ on_trace w none q
      go (Some (Trace k)) e = h k (whose_trace z (count_of f) k e).1
      go (Some File) e = refl
      go None e = refl

  -- ---- strings
  places_alike : (x e : ℕ) → AlikeStrings f g x e → places_in Strict f x e ≡ places_in Strict g x e
  unfolding places_in
  places_alike x e s =
      places_same (high_first f) (string_end f) (part x e f) (part x e g) x (part_long x e f g a.size) s
      ∙ ap₂ (λ (o : Bool) (t : List ℕ). places_of Strict o t (part x e g) x) (same_order a) a.string_end_lem

  texts_alike : (x e : ℕ) → AlikeStrings f g x e → SameAt f g (places_in Strict f x e)
  unfolding places_in
  texts_alike x e s = texts_same (high_first f) (string_end f) f g x e s

  find_alike : (x e : ℕ) (key : List ℕ) → AlikeStrings f g x e
      → find_of Strict f (places_in Strict f x e) key ≡ find_of Strict g (places_in Strict g x e) key
  find_alike x e key s =
      find_same f g (places_in Strict f x e) key (texts_alike x e s) ∙ ap (λ (ps : List Place). find_of Strict g ps key) (places_alike x e s)

  value_alike : (x e : ℕ) (key : List ℕ) → AlikeStrings f g x e
      → value_found f (find_of Strict f (places_in Strict f x e) key) ≡ value_found g (find_of Strict g (places_in Strict g x e) key)
  value_alike x e key s =
      value_same f g (places_in Strict f x e) key (texts_alike x e s)
      ∙ ap (λ (ps : List Place). value_found g (find_of Strict g ps key)) (places_alike x e s)

  module _ (ok : Rattle.image.specs.Image.image_of Strict Read f ≡ accepted) where
    file_strings : AlikeStrings f g (32 + room_of f) (trace_at f 0)
    file_strings =
        let some = some_trace Strict f ok in
        let z : strings_end f ≡ trace_at f 0 = rw (ne_eqb (count_of f) 0 (omega arith)) in
        rw z at a.strings

    on_area_lem : {A : Type 0} (none : A) (p q : ℕ → ℕ → A) → ((x e : ℕ) → AlikeStrings f g x e → p x e ≡ q x e) → (z : ℤ)
        → on_area (area_asked f z) none p ≡ on_area (area_asked g z) none q
    unfolding area_named
    on_area_lem none p q h z = rw (← same_traces a) (go (whose_of z (count_of f)) refl)
      where
        go : (w : Option Part) → whose_of z (count_of f) ≡ w → on_area (area_named f w) none p ≡ on_area (area_named g w) none q
        go (Some File) e =
            h (32 + room_of f) (trace_at f 0) file_strings ∙ ap₂ q (ap (λ (m : ℕ). 32 + m) (same_room a)) (at_same 0 (some_trace Strict f ok))
        go (Some (Trace k)) e =
            let low = (whose_trace z (count_of f) k e).1 in
            h (trace_at f k + 32) (data_at (high_first f) f (trace_at f k)) (a.traces k low).strings
            ∙ ap₂ q (ap (λ (m : ℕ). m + 32) (at_same k low)) (begin_same k low)
        go None e = refl

    -- ---- samples
    end_same : (k : ℕ) → k < count_of f → end_at (high_first f) f (trace_at f k) ≡ end_at (high_first g) g (trace_at g k)
    end_same k low = same_end a (a.traces k low) ∙ ap₂ (λ (o : Bool) (p : ℕ). end_at o g p) (same_order a) (at_same k low)

    module _ (k : ℕ) (low : k < count_of f) where
      integers_alike : samples_of f k ≡ samples_of g k
      unfolding samples_in data_of trace_block_of end_at
      integers_alike =
          samples_same (code_at f k) (high_first f) (data_of f k) (block a ok k low) (count_at f k)
          (a.traces k low).samples (trace_blocked Strict f ok k low).groups
          ∙ rw (code_same k low, count_same k low, end_same k low, begin_same k low, same_order a)

      patterns_alike : patterns_of f k ≡ patterns_of g k
      unfolding patterns_in data_of trace_block_of end_at
      patterns_alike =
          patterns_same (code_at f k) (high_first f) (data_of f k) (block a ok k low) (count_at f k) (a.traces k low).samples
          ∙ rw (code_same k low, count_same k low, end_same k low, begin_same k low, same_order a)

      classes_alike : classes_of f k ≡ classes_of g k
      unfolding classes_in data_of trace_block_of end_at
      classes_alike =
          classes_same (code_at f k) (high_first f) (data_of f k) (block a ok k low) (count_at f k) (a.traces k low).samples
          ∙ rw (code_same k low, count_same k low, end_same k low, begin_same k low, same_order a)

-- ---- the answers. Rules out a question that looks at a byte which document 01 says is ignored.

through_area : {A B : Type 0} (h : A → B) (w : Option (ℕ × ℕ)) (none : A) (p : ℕ → ℕ → A) → h (on_area w none p) ≡ on_area w (h none) (λ x e. h (p x e))
through_area h None none p = refl
through_area h (Some (x, e)) none p = refl

module _ (xs ys : List ℕ) (n : ℕ) (fx : n ≤ length xs) (fy : n ≤ length ys) (a : Alike (take n xs) (take n ys)) where
  pub alike_check : (purpose : Purpose) → check_of Strict purpose xs n ≡ check_of Strict purpose ys n
  unfolding check_of
  alike_check purpose = rw (le-ltb (length xs) n fx, le-ltb (length ys) n fy, same_image a purpose)

  on_check : {A : Type 0} (bad : Refusal → A) (p q : A) → (Rattle.image.specs.Image.image_of Strict Read (take n xs) ≡ accepted → p ≡ q)
      → asked bad (check_of Strict Read xs n) p ≡ asked bad (check_of Strict Read ys n) q
  on_check bad p q h = rw (← alike_check Read) (go (check_of Strict Read xs n) refl)
    where
      go : (v : Verdict) → check_of Strict Read xs n ≡ v → asked bad v p ≡ asked bad v q
      go (Ok _) e = h (checked Strict xs n e).image
      go (Err r) e = refl

  pub alike_file : file_answer Strict xs n ≡ file_answer Strict ys n
  unfolding file_answer file_block_of
  alike_file = on_check Err _ _ (λ ok. rw (same_order a, same_room a, same_traces a, same_size a, a.line_size))

  pub alike_trace : (z : ℤ) → trace_answer Strict xs n z ≡ trace_answer Strict ys n z
  unfolding trace_answer
  alike_trace z = on_check Err _ _ (λ ok. on_trace_lem a _ _ _ (λ k low. ap Ok (block_same a k low)) z)

  pub alike_count : (z : ℤ) → count_answer Strict xs n z ≡ count_answer Strict ys n z
  unfolding count_answer
  alike_count z = on_check Err _ _ (λ ok. on_area_lem a ok _ _ _ (λ x e s. ap (λ (ps : List Place). Ok (length ps))
      (places_alike a x e s)) z)

  pub alike_nth : (z : ℤ) (i : ℕ) → nth_answer Strict xs n z i ≡ nth_answer Strict ys n z i
  unfolding nth_answer
  alike_nth z i = on_check Err _ _ (λ ok. on_area_lem a ok _ _ _ (λ x e s. ap (λ (ps : List Place). there (nth_of ps i))
      (places_alike a x e s)) z)

  pub alike_find : (z : ℤ) (key : List ℕ) → find_answer Strict xs n z key ≡ find_answer Strict ys n z key
  unfolding find_answer
  alike_find z key = on_check Err _ _ (λ ok. on_area_lem a ok _ _ _ (λ x e s. ap there (find_alike a x e key s)) z)

  pub alike_keyword : (z : ℤ) (key : List ℕ) → keyword_answer Strict xs n z key ≡ keyword_answer Strict ys n z key
  unfolding keyword_answer
  alike_keyword z key = ap yes_or_no (alike_find z key)

  through_check : {A B : Type 0} (h : A → B) (bad : Refusal → A) (v : Verdict) (p : A) → h (asked bad v p) ≡ asked (λ r. h (bad r)) v (h p)
  through_check h bad (Ok _) p = refl
  through_check h bad (Err r) p = refl

  pub alike_value : (z : ℤ) (key : List ℕ) → value_answer Strict xs n z key ≡ value_answer Strict ys n z key
  unfolding value_answer find_answer
  alike_value z key =
      let f : List ℕ = take n xs in
      let g : List ℕ = take n ys in
      through_check (value_there f) Err (check_of Strict Read xs n) _
      ∙ on_check (λ r. []) _ _
      (λ ok.
      through_area (value_there f) (area_asked f z) (Err no_trace) _
      ∙ on_area_lem a ok [] _ _
      (λ x e s. found_value f (find_of Strict f (places_in Strict f x e) key) ∙ value_alike a x e key s
      ∙ sym (found_value g (find_of Strict g (places_in Strict g x e) key))) z
      ∙ sym (through_area (value_there g) (area_asked g z) (Err no_trace) _))
      ∙ sym (through_check (value_there g) Err (check_of Strict Read ys n) _)

  pub alike_number : (z : ℤ) (key : List ℕ) → number_answer Strict xs n z key ≡ number_answer Strict ys n z key
  unfolding number_answer
  alike_number z key = rw (alike_find z key, alike_value z key)

  pub alike_double : (z : ℤ) (key : List ℕ) → double_answer Strict xs n z key ≡ double_answer Strict ys n z key
  unfolding double_answer
  alike_double z key = rw (alike_find z key, alike_value z key)

  pub alike_location : (z : ℤ) (key : List ℕ) → location_answer Strict xs n z key ≡ location_answer Strict ys n z key
  unfolding location_answer
  alike_location z key = rw (alike_find z key, alike_value z key)

  pub alike_integers : (z : ℤ) (s : ℕ) → integers_answer Strict xs n z s ≡ integers_answer Strict ys n z s
  unfolding integers_answer integers_verdict trace_block_of
  alike_integers z s = on_check Err _ _ (λ ok. on_trace_lem a _ _ _ (λ k low. rw (code_same a k low, count_same a k low)) z)

  pub alike_bits : (z : ℤ) (s c : ℕ) → bits_answer Strict xs n z s c ≡ bits_answer Strict ys n z s c
  unfolding bits_answer bits_verdict trace_block_of
  alike_bits z s c = on_check Err _ _ (λ ok. on_trace_lem a _ _ _ (λ k low. rw (code_same a k low, count_same a k low)) z)

  -- a lent row that was filled is filled with the same
  kept_same : {A : Type 0} (v w : Verdict) (p q old : A) → v ≡ w → (v ≡ accepted → p ≡ q) → kept v p old ≡ kept w q old
  kept_same (Ok _) w p q old e h = rw (← e) (h refl)
  kept_same (Err r) w p q old e h = rw (← e)

  pub alike_integers_left : (z : ℤ) (row : List ℤ) → integers_left Strict xs n z row ≡ integers_left Strict ys n z row
  unfolding integers_left
  alike_integers_left z row =
      kept_same _ _ _ _ row (alike_integers z (length row))
      (λ e. (let k = (integers_accepted Strict xs n z (length row) e).0 in
      rw k.number (integers_alike a (checked Strict xs n k.accepted).image k.k k.low)))

  pub alike_patterns_left : (z : ℤ) (row classes : List ℕ) → patterns_left Strict xs n z row classes ≡ patterns_left Strict ys n z row classes
  unfolding patterns_left
  alike_patterns_left z row classes =
      kept_same _ _ _ _ row (alike_bits z (length row) (length classes))
      (λ e. (let k = (bits_accepted Strict xs n z (length row) (length classes) e).0 in
      rw k.number (patterns_alike a (checked Strict xs n k.accepted).image k.k k.low)))

  pub alike_classes_left : (z : ℤ) (row classes : List ℕ) → classes_left Strict xs n z row classes ≡ classes_left Strict ys n z row classes
  unfolding classes_left
  alike_classes_left z row classes =
      kept_same _ _ _ _ classes (alike_bits z (length row) (length classes))
      (λ e. (let k = (bits_accepted Strict xs n z (length row) (length classes) e).0 in
      rw k.number (classes_alike a (checked Strict xs n k.accepted).image k.k k.low)))
