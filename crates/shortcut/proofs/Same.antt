-- Theorems on what specs/Same defines. They stand here, as a wrong definition there is to be refused and not to be unread.
-- Assumes nothing.
use Rattle.std.specs.Prelude.{◌≡◌, Result, Ok, Err, Some, ℤ, length, drop, List, [], ℕ, ◌+◌, ◌-◌, ◌≤◌, take}
use Rattle.std.proofs.Common.{refl, sym, ap, ◌∙◌, take-take, arith}
use Rattle.word.specs.Part.{part, part_part, length_part}
use Rattle.refusal.specs.Verdicts.{asked, accepted, Verdict}
use Rattle.refusal.specs.FirstRow.{row, first_of}
use Rattle.refusal.specs.declared.Part.TheVariants.{Trace}
use Rattle.refusal.specs.declared.Refusal.{Refusal}
use Rattle.strings.specs.declared.Place.{Place}
use Rattle.head_words.specs.HeadWords.{high_first}
use Rattle.terminators.specs.Terminators.{string_end, line_end}
use Rattle.block.specs.declared.TraceBlock.{TraceBlock}
use Rattle.block.specs.Block.{data_at, end_at, trace_block_of}
use Rattle.block.specs.BlockLaws.{Blocked, blocked}
use Rattle.image.specs.Keeps.{trace_at}
use Rattle.ignored.specs.Images.{part_long}
use Rattle.text.specs.declared.Manner.TheVariants.{Strict}
use Rattle.strings.specs.Strings.{value_in}
use Rattle.until.specs.declared.Turn.{Turn}
use Rattle.until.specs.declared.Walked.{Walked}
use Rattle.until.specs.Until.{by_key, by_index, to_end}
use Rattle.reader.specs.Questions.{trace_number, area_named, places_in, numbers_in, strings_verdict, value_there, kept}
use Rattle.reader.specs.Questions.{block_at, integers_verdict, bits_verdict, data_in, samples_in, patterns_in, classes_in}
use Rattle.places.specs.Numbers.{numbers_of}
use Rattle.decimal.specs.Number.{number_in}
use Rattle.double.specs.Double.{double_of}
use Rattle.location.specs.Location.{location_of}
use Rattle.one_trace.specs.Alone.{alone_of, block_alone}
use Rattle.quick.specs.Quick.{quickly, walk_in, told_by, counted_by, quick_walk, quick_find, quick_nth, quick_count, quick_strings, quick_strings_left}
use Rattle.quick.specs.Quick.{quick_keyword, quick_value, quick_span, quick_read, quick_number, quick_double, quick_location}
use Rattle.quick.specs.Quick.{quick_integers, quick_integers_left, quick_bits, quick_patterns_left, quick_classes_left}
use Rattle.quick.specs.QuickLaws.{never_string}
use Rattle.shortcut.specs.Read.{read_of, read_in, behind, block_read, strings_read, data_read, integers_read, bits_read, bytes_read, Agree}
use Rattle.shortcut.proofs.Strings.{walk_alike, places_alike, read_within, read_ends}
use Rattle.shortcut.specs.Same.{Alike, AllNamed, Named.file_block_lem, Named.pointer, Named.samples, Named.strings}
use Rattle.shortcut.specs.Same.{Named.trace_block_lem, block_check, first_row, pointer_check, quickly_same, top_rows}
use Rattle.until.specs.declared.Walked.TheVariants as walked

module _ (xs ys : List ℕ) (n : ℕ) (z : ℤ) (long : length xs ≡ length ys) where
  abbrev f : List ℕ
  f = take n xs

  abbrev g : List ℕ
  g = take n ys

  abbrev k : ℕ
  k = trace_number z

  pub block_same_answer : Agree f g (bytes_read block_read xs n z) → block_alone xs n z ≡ block_alone ys n z
  unfolding block_alone
  block_same_answer agree = (quickly_same xs ys n z long) Err (λ f i. Ok (block_at f i)) block_read agree (λ a s. ap Ok a.block)

  module _ (look : ℕ → List ℕ → Turn) (al : Alike f g k) (agree : Agree f g (strings_read look f k)) where
    abbrev a : ℕ
    a = trace_at f k + 32

    abbrev e : ℕ
    e = data_at (high_first f) f (trace_at f k)

    abbrev x : ℕ
    x = read_of look (high_first f) (string_end f) (line_end f) (Trace k) (part a e f) a

    x_most : x ≤ e - a
    x_most =
        let w = read_within (high_first f) (string_end f) (line_end f) (Trace k) look (part a e f) a in
        omega (arith, length_part a e f al.own.fits)

    front_part : (l : List ℕ) → take x (part a e l) ≡ part a (a + x) l
    front_part l =
        let s : a + x - a ≡ x = omega arith in
        take-take x (e - a) (drop a l) x_most ∙ ap (λ (j : ℕ). take j (drop a l)) (sym s)

    own_bytes : part a (a + x) f ≡ part a (a + x) g
    unfolding read_in
    own_bytes = agree.0

    fronts : take x (part a e f) ≡ take x (part a e g)
    fronts = front_part f ∙ own_bytes ∙ sym (front_part g)

    end_same_place : data_at (high_first g) g (trace_at g k) ≡ e
    unfolding trace_block_of
    end_same_place = sym (ap (λ (y : TraceBlock). y.p + y.b) al.block)

    strings_same : walk_in look f k ≡ walk_in look g k
    unfolding walk_in
    strings_same =
        walk_alike (high_first f) (string_end f) (line_end f) (Trace k) look (part a e f) (part a e g) a (part_long a e f g al.size) fronts
        ∙ rw (end_same_place, ← al.start, ← al.order, ← al.strings, ← al.lines)

    -- the value too: what is found ends among the bytes read
    value_part : (s : Place) → walk_in look f k ≡ Ok (walked.At s) → value_in f s ≡ value_in g s
    unfolding walk_in
    value_part s h =
        let i = read_ends (high_first f) (string_end f) (line_end f) (Trace k) look s (part a e f) a h in
        let u : a + (s.value - a) ≡ s.value = omega (arith, i.0) in
        let v : a + (s.end - a) ≡ s.end = omega (arith, i.0, i.1) in
        let cut : (l : List ℕ) → part (s.value - a) (s.end - a) (part a (a + x) l) ≡ part s.value s.end l =
        λ (l : List ℕ). rw (u, v) at (part_part (s.value - a) (s.end - a) a (a + x) l (omega (arith, i.0, i.1, i.2))) in
        sym (cut f) ∙ ap (part (s.value - a) (s.end - a)) own_bytes ∙ cut g

  pub walk_same : (look : ℕ → List ℕ → Turn) → Agree f g (bytes_read (strings_read look) xs n z) → quick_walk look xs n z ≡ quick_walk look ys n z
  unfolding quick_walk
  walk_same look agree = (quickly_same xs ys n z long) Err (walk_in look) (strings_read look) agree (λ al s. strings_same look al s)

  pub nth_same : (i : ℕ) → Agree f g (bytes_read (strings_read (by_index i)) xs n z) → quick_nth xs n z i ≡ quick_nth ys n z i
  unfolding quick_nth
  nth_same i agree = ap told_by (walk_same (by_index i) agree)

  pub count_same : Agree f g (bytes_read (strings_read to_end) xs n z) → quick_count xs n z ≡ quick_count ys n z
  unfolding quick_count
  count_same agree = ap counted_by (walk_same to_end agree)

  module _ (row : List ℕ) (agree : Agree f g (bytes_read (strings_read to_end) xs n z)) where
    abbrev numbers : List ℕ → ℕ → List ℕ
    numbers f i = numbers_in Strict f (area_named f (Some (Trace i)))

    abbrev filled : List ℕ → ℕ → List ℕ
    filled f i = kept (strings_verdict (counted_by (walk_in to_end f i)) (length row)) (numbers f i) row

    pub strings_same_answer : quick_strings xs n z (length row) ≡ quick_strings ys n z (length row)
    unfolding quick_strings
    strings_same_answer = ap (λ (c : Result ℕ Refusal). strings_verdict c (length row)) (count_same agree)

    numbers_same : (al : Alike f g k) (s : Agree f g (strings_read to_end f k)) (c : ℕ) → walk_in to_end f k ≡ Ok (walked.Over c) → numbers f k ≡ numbers g k
    unfolding numbers_in area_named places_in walk_in
    numbers_same al s c w =
        ap numbers_of
        (places_alike (high_first f) (string_end f) (line_end f) (Trace k) (part (a to_end al s) (e to_end al s) f) (part (a to_end al s) (e to_end al s) g)
        (a to_end al s) c
        (part_long (a to_end al s) (e to_end al s) f g al.size) (fronts to_end al s) w)
        ∙ rw (end_same_place to_end al s, ← al.start, ← al.order, ← al.strings)

    filled_same : Alike f g k → Agree f g (strings_read to_end f k) → filled f k ≡ filled g k
    filled_same al s = go (walk_in to_end f k) refl
      where
        go : (w : Result Walked Refusal) → walk_in to_end f k ≡ w → filled f k ≡ filled g k
        go (Ok (walked.Over c)) h = rw (← strings_same to_end al s, numbers_same al s c h)
        go (Ok (walked.At p)) h = absurd (never_string f k p h)
        go (Err r) h = rw (← strings_same to_end al s, h)

    pub strings_same_left : quick_strings_left xs n z row ≡ quick_strings_left ys n z row
    unfolding quick_strings_left quick_strings quick_count quick_walk
    strings_same_left =
        outside (alone_of xs n z) f
        ∙ (quickly_same xs ys n z long) (λ r. row) filled (strings_read to_end) agree filled_same
        ∙ sym (outside (alone_of ys n z) g)
      where
        outside : (v : Verdict) (l : List ℕ)
            → kept (strings_verdict (counted_by (asked Err v (walk_in to_end l k))) (length row)) (numbers l k) row ≡ asked (λ r. row) v (filled l k)
        outside (Ok _) l = refl
        outside (Err r) l = refl

  module _ (key : List ℕ) (agree : Agree f g (bytes_read (strings_read (by_key key)) xs n z)) where
    pub find_same : quick_find xs n z key ≡ quick_find ys n z key
    unfolding quick_find
    find_same = ap told_by (walk_same (by_key key) agree)

    pub keyword_same : quick_keyword xs n z key ≡ quick_keyword ys n z key
    unfolding quick_keyword
    keyword_same = rw find_same

    pub span_same : quick_span xs n z key ≡ quick_span ys n z key
    unfolding quick_span
    span_same = rw find_same

    -- the bytes of the value, too
    pub value_same : quick_value xs n z key ≡ quick_value ys n z key
    unfolding quick_value quick_find quick_walk
    value_same =
        outside f (alone_of xs n z) (walk_in (by_key key) f k)
        ∙ (quickly_same xs ys n z long) (λ r. []) (λ l i. value_there l (told_by (walk_in (by_key key) l i))) (strings_read (by_key key)) agree made
        ∙ sym (outside g (alone_of ys n z) (walk_in (by_key key) g k))
      where
        outside : (l : List ℕ) (v : Verdict) (w : Result Walked Refusal) → value_there l (told_by (asked Err v w)) ≡ asked (λ r. []) v (value_there l (told_by w))
        outside l (Ok _) w = refl
        outside l (Err r) w = refl

        made : Alike f g k → Agree f g (strings_read (by_key key) f k)
            → value_there f (told_by (walk_in (by_key key) f k)) ≡ value_there g (told_by (walk_in (by_key key) g k))
        made al s = rw (← strings_same (by_key key) al s) (go (walk_in (by_key key) f k) refl)
          where
            go : (w : Result Walked Refusal) → walk_in (by_key key) f k ≡ w → value_there f (told_by w) ≡ value_there g (told_by w)
            go (Ok (walked.At p)) h = value_part (by_key key) al s p h
            go (Ok (walked.Over j)) h = refl
            go (Err r) h = refl

    -- and whatever is made of it
    read_same : {A : Type 0} (bad : Refusal → A) (read : List ℕ → A) → quick_read bad read xs n z key ≡ quick_read bad read ys n z key
    read_same bad read = rw (find_same, value_same)

    pub number_same : quick_number xs n z key ≡ quick_number ys n z key
    unfolding quick_number
    number_same = read_same Err number_in

    pub double_same : quick_double xs n z key ≡ quick_double ys n z key
    unfolding quick_double
    double_same = read_same Err double_of

    pub location_same : quick_location xs n z key ≡ quick_location ys n z key
    unfolding quick_location
    location_same = read_same Err location_of

  -- ---- samples: those of one block, out of the same data
  data_same : (v : Verdict) → Alike f g k → Agree f g (data_read v f k) → v ≡ accepted → data_in f (block_at f k) ≡ data_in g (block_at f k)
  unfolding trace_block_of end_at
  data_same (Ok _) al s h = s.0
  data_same (Err r) al s h = let y : ◌≡◌ {A = ℕ} 0 1 = cc in absurd (omega arith)

  -- what is made of the data and the block, where no row was met
  rows_same : {A : Type 0} (mk : List ℕ → TraceBlock → A) (verdict : TraceBlock → Verdict) (old : A)
      → ((x : TraceBlock) → data_in f x ≡ data_in g x → high_first f ≡ high_first g → mk f x ≡ mk g x)
      → Alike f g k → Agree f g (data_read (verdict (block_at f k)) f k)
      → kept (verdict (block_at f k)) (mk f (block_at f k)) old ≡ kept (verdict (block_at g k)) (mk g (block_at g k)) old
  rows_same mk verdict old h al s = rw (← al.block) (go (verdict (block_at f k)) refl)
    where
      go : (v : Verdict) → verdict (block_at f k) ≡ v → kept v (mk f (block_at f k)) old ≡ kept v (mk g (block_at f k)) old
      go (Ok _) e = h (block_at f k) (data_same (verdict (block_at f k)) al s e) al.order
      go (Err r) e = refl

  -- a lent row at the end, and the answer
  left_same : {A : Type 0} (mk : List ℕ → TraceBlock → A) (verdict : TraceBlock → Verdict) (old : A)
      → ((x : TraceBlock) → data_in f x ≡ data_in g x → high_first f ≡ high_first g → mk f x ≡ mk g x)
      → Agree f g (bytes_read (λ l i. data_read (verdict (block_at l i)) l i) xs n z)
      → kept (quickly Err (λ l i. verdict (block_at l i)) xs n z) (mk f (block_at f k)) old
      ≡ kept (quickly Err (λ l i. verdict (block_at l i)) ys n z) (mk g (block_at g k)) old
  left_same {A} mk verdict old h agree =
      outside (alone_of xs n z) f
      ∙ (quickly_same xs ys n z long) (λ r. old) (λ l i. kept (verdict (block_at l i)) (mk l (block_at l i)) old)
      (λ l i. data_read (verdict (block_at l i)) l i) agree
      (rows_same mk verdict old h)
      ∙ sym (outside (alone_of ys n z) g)
    where
      outside : (v : Verdict) (l : List ℕ)
          → kept (asked Err v (verdict (block_at l k))) (mk l (block_at l k)) old
          ≡ asked (λ r. old) v (kept (verdict (block_at l k)) (mk l (block_at l k)) old)
      outside (Ok _) l = refl
      outside (Err r) l = refl

  verdict_same : (verdict : TraceBlock → Verdict) → Agree f g (bytes_read (λ l i. data_read (verdict (block_at l i)) l i) xs n z)
      → quickly Err (λ l i. verdict (block_at l i)) xs n z ≡ quickly Err (λ l i. verdict (block_at l i)) ys n z
  verdict_same verdict agree =
      (quickly_same xs ys n z long) Err (λ l i. verdict (block_at l i)) (λ l i. data_read (verdict (block_at l i)) l i) agree (λ al s. ap verdict al.block)

  pub integers_same : (row : List ℤ) → Agree f g (bytes_read (integers_read (length row)) xs n z)
      → (quick_integers xs n z (length row) ≡ quick_integers ys n z (length row)) × (quick_integers_left xs n z row ≡ quick_integers_left ys n z row)
  unfolding quick_integers quick_integers_left samples_in
  integers_same row agree =
      (verdict_same (λ x. integers_verdict x (length row)) agree, left_same samples_in (λ x. integers_verdict x (length row)) row (λ x d o. rw (d, o)) agree)

  pub bits_same : (row classes : List ℕ) → Agree f g (bytes_read (bits_read (length row) (length classes)) xs n z)
      → (quick_bits xs n z (length row) (length classes) ≡ quick_bits ys n z (length row) (length classes))
      × (quick_patterns_left xs n z row classes ≡ quick_patterns_left ys n z row classes)
      × (quick_classes_left xs n z row classes ≡ quick_classes_left ys n z row classes)
  unfolding quick_bits quick_patterns_left quick_classes_left patterns_in classes_in
  bits_same row classes agree =
      let v : TraceBlock → Verdict = λ x. bits_verdict x (length row) (length classes) in
      (verdict_same v agree, left_same patterns_in v row (λ x d o. rw (d, o)) agree, left_same classes_in v classes (λ x d o. rw (d, o)) agree)

behind_named : (f : List ℕ) (k : ℕ) (v : Verdict) (ss : List (ℕ × ℕ)) → (v ≡ accepted → AllNamed f k ss) → AllNamed f k (behind v ss)
behind_named f k (Ok _) ss h = h refl
behind_named f k (Err r) ss h = tt

module _ (xs : List ℕ) (n : ℕ) (z : ℤ) where
  read_named : (own : List ℕ → ℕ → List (ℕ × ℕ))
      → (Blocked (high_first (take n xs)) (take n xs) (trace_at (take n xs) (trace_number z))
      → AllNamed (take n xs) (trace_number z) (own (take n xs) (trace_number z)))
      → AllNamed (take n xs) (trace_number z) (bytes_read own xs n z)
  unfolding bytes_read
  read_named own h =
      let f : List ℕ = take n xs in
      let k : ℕ = trace_number z in
      behind_named f k (first_row xs n) _ (λ c1. (
        file_block_lem,
        behind_named f k (first_of (top_rows f z)) _
            (λ c2. (
              pointer,
              behind_named f k (pointer_check f k) _
                  (λ c3. (trace_block_lem, behind_named f k (block_check f k) _ (λ c4. h (blocked (high_first f) f k (trace_at f k) c4)))),
            )),
      ))

  pub block_named : AllNamed (take n xs) (trace_number z) (bytes_read block_read xs n z)
  block_named = read_named block_read (λ b. tt)

  pub strings_named : (look : ℕ → List ℕ → Turn) → AllNamed (take n xs) (trace_number z) (bytes_read (strings_read look) xs n z)
  unfolding read_in
  strings_named look =
      let f : List ℕ = take n xs in
      let k : ℕ = trace_number z in
      let p : ℕ = trace_at f k in
      let e : ℕ = data_at (high_first f) f p in
      read_named (strings_read look)
      (λ b.
      let w = read_within (high_first f) (string_end f) (line_end f) (Trace k) look (part (p + 32) e f) (p + 32) in
      let l = length_part (p + 32) e f b.fits in
      (strings (read_in look f k) (omega (arith, b.least, w, l)), tt))

  data_named : (v : List ℕ → ℕ → Verdict) → AllNamed (take n xs) (trace_number z) (bytes_read (λ l i. data_read (v l i) l i) xs n z)
  data_named v =
      read_named (λ l i. data_read (v l i) l i)
      (λ b. behind_named (take n xs) (trace_number z) (v (take n xs) (trace_number z)) _ (λ c. (samples, tt)))

  pub integers_named : (s : ℕ) → AllNamed (take n xs) (trace_number z) (bytes_read (integers_read s) xs n z)
  integers_named s = data_named (λ l i. integers_verdict (block_at l i) s)

  pub bits_named : (s c : ℕ) → AllNamed (take n xs) (trace_number z) (bytes_read (bits_read s c) xs n z)
  bits_named s c = data_named (λ l i. bits_verdict (block_at l i) s c)

-- the string that is found is the last that is read
pub found_is_last : (look : ℕ → List ℕ → Turn) (f : List ℕ) (k : ℕ) (s : Place) → walk_in look f k ≡ Ok (walked.At s)
    → s.end + length (string_end f) ≡ trace_at f k + 32 + read_in look f k
unfolding walk_in read_in
found_is_last look f k s h =
    let p : ℕ = trace_at f k in
    (read_ends (high_first f) (string_end f) (line_end f) (Trace k) look s (part (p + 32) (data_at (high_first f) f p) f) (p + 32) h).2
