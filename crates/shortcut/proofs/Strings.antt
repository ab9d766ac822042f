-- Theorems on what specs/Strings defines. They stand here, as a wrong definition there is to be refused and not to be unread.
-- Assumes nothing.
use Rattle.std.specs.Prelude.{◌≡◌, Result, Ok, Err, Option, Some, None, Bool, drop, true, false, List, [], ◌∷◌, ℕ, zero, suc, ◌+◌, ◌-◌, ◌≤◌, ◌<◌, length, take, leb, eqb}
use Rattle.std.proofs.Common.{refl, sym, ◌∙◌, lt_of_not-le, arith, length-drop, leb-true, leb-false, lt-ltb, le-ltb, le-leb, ne_eqb}
use Rattle.std.proofs.Math.Decide.{dec_le}
use Rattle.word.specs.Tests.{both, never}
use Rattle.refusal.specs.Rows.{pick}
use Rattle.refusal.specs.declared.Part.{Part}
use Rattle.text.specs.declared.Manner.TheVariants.{Strict}
use Rattle.strings.specs.declared.Place.{Place}
use Rattle.strings.specs.Strings.{offset, body, frame_of, on_frame, step_of, place_of, on_text, places_from, places_of}
use Rattle.strings.specs.Frames.{frame_short, frame_end, frame_small, frame_past}
use Rattle.strings.specs.Walks.{in_frame, next_fits, done_frame}
use Rattle.strings.proofs.Walks.{place_fits, next_bounds}
use Rattle.ignored.specs.Areas.{offset_same, part_same, front_same, rest_same, drop_long}
use Rattle.until.specs.declared.Turn.{Turn}
use Rattle.until.specs.declared.Turn.TheVariants.{Here, Gone, On}
use Rattle.until.specs.declared.Walked.{Walked}
use Rattle.until.specs.Until.{to_end, on_turn, on_step, walk_from, walk_of}
use Rattle.shortcut.specs.Read.{reaches, string_read, read_from, read_of}
use Rattle.shortcut.specs.Strings.{offset_read}
use Rattle.refusal.specs.declared.Refusal.{Refusal}
use Rattle.refusal.specs.declared.Rule.{Rule}
use Rattle.until.specs.declared.Walked.TheVariants as walked

module _ (high : Bool) (t : List ℕ) where
  -- ---- one string

  -- how many of its bytes are read
  few_read : (l : List ℕ) → length l < 2 → string_read high t l ≡ 0
  unfolding string_read
  few_read l h = rw (lt-ltb (length l) 2 h)

  whole_read : (l : List ℕ) → 2 ≤ length l → reaches high t l ≡ true → string_read high t l ≡ offset high l
  unfolding string_read
  whole_read l h w = rw (le-ltb (length l) 2 h, w)

  reach_bounds : (l : List ℕ) → reaches high t l ≡ true → (3 + length t ≤ offset high l) × (offset high l ≤ length l)
  reach_bounds l w =
      let b = both (leb (3 + length t) (offset high l)) (leb (offset high l) (length l)) w in
      (leb-true _ _ b.0, leb-true _ _ b.1)

  reach_so : (l : List ℕ) (o : ℕ) → frame_of Strict high t l ≡ Ok (Some o) → (2 ≤ length l) × (reaches high t l ≡ true) × (offset high l ≡ o)
  reach_so l o f =
      let i = in_frame Strict high t l o f in
      (i.two, rw (i.told, le-leb (3 + length t) o i.low, le-leb o (length l) i.fit), i.told)

  read_most : (l : List ℕ) → string_read high t l ≤ length l
  read_most l =
      elim (dec_le 2 (length l)) [
        | yes h ↦ go (reaches high t l) refl h
        | no h ↦ (let e = few_read l (lt_of_not-le h) in omega arith)
      ]
    where
      go : (w : Bool) → reaches high t l ≡ w → 2 ≤ length l → string_read high t l ≤ length l
      go true w h = let e = whole_read l h w in let b = reach_bounds l w in omega (arith, b.1)
      go false w h = let e = (offset_read high t) l h w in omega arith

  -- a frame whose offset does not reach is told by the offset and the length
  out_same : (l r : List ℕ) → length l ≡ length r → 2 ≤ length l → offset high l ≡ offset high r → reaches high t l ≡ false
      → frame_of Strict high t l ≡ frame_of Strict high t r
  unfolding offset
  out_same l r n two o w =
      let a : 2 ≤ length l = two in
      let b : 2 ≤ length r = omega arith in
      elim (dec_le 1 (offset high l)) [
        | no z ↦ (let y = lt_of_not-le z in sym (frame_end Strict high t l _ refl a (omega arith)) ∙ frame_end Strict high t r _ refl b (omega arith))
        | yes z ↦
            elim (dec_le (3 + length t) (offset high l)) [
              | no s ↦
                  (let y = lt_of_not-le s in
                  sym (frame_small Strict high t l _ refl a z y) ∙ frame_small Strict high t r _ refl b (omega arith) (omega arith))
              | yes s ↦
                  (let y = past s in
                  sym (frame_past Strict high t l _ refl a s y) ∙ frame_past Strict high t r _ refl b (omega arith) (omega arith))
            ]
      ]
    where
      past : 3 + length t ≤ offset high l → length l < offset high l
      past s = go (leb (offset high l) (length l)) refl
        where
          go : (v : Bool) → leb (offset high l) (length l) ≡ v → length l < offset high l
          go true e = never (sym w ∙ rw (le-leb (3 + length t) (offset high l) s, e))
          go false e = leb-false (offset high l) (length l) e

  -- one that reaches, by the bytes up to its end too
  in_same : (l r : List ℕ) → length l ≡ length r → offset high l ≡ offset high r → take (offset high l) l ≡ take (offset high l) r
      → frame_of Strict high t l ≡ frame_of Strict high t r
  unfolding frame_of
  in_same l r n o q =
      let p = part_same (offset high l - length t) (offset high l) (offset high l) l r (omega arith) q in
      rw (n, p, o)

  module _ (l r : List ℕ) (n : length l ≡ length r) (q : take (string_read high t l) l ≡ take (string_read high t l) r) where
    offset_alike : 2 ≤ length l → offset high l ≡ offset high r
    offset_alike two = go (reaches high t l) refl
      where
        go : (w : Bool) → reaches high t l ≡ w → offset high l ≡ offset high r
        go true w = let b = reach_bounds l w in offset_same high (string_read high t l) l r (omega (arith, whole_read l two w, b.0)) q
        go false w = offset_same high (string_read high t l) l r (omega (arith, (offset_read high t) l two w)) q

    frame_alike : frame_of Strict high t l ≡ frame_of Strict high t r
    frame_alike =
        elim (dec_le 2 (length l)) [
          | no h ↦
              (let k = lt_of_not-le h in
              sym (frame_short Strict high t l (lt-ltb (length l) 2 k)) ∙ frame_short Strict high t r (lt-ltb (length r) 2 (omega arith)))
          | yes two ↦ go (reaches high t l) refl two
        ]
      where
        go : (w : Bool) → reaches high t l ≡ w → 2 ≤ length l → frame_of Strict high t l ≡ frame_of Strict high t r
        go true w two = in_same l r n (offset_alike two) (rw (whole_read l two w) at q)
        go false w two = out_same l r n two (offset_alike two) w

    text_alike : (o : ℕ) → frame_of Strict high t l ≡ Ok (Some o) → take o l ≡ take o r
    text_alike o f = let w = reach_so l o f in rw (whole_read l w.0 w.1, w.2) at q

    body_alike : (o : ℕ) → frame_of Strict high t l ≡ Ok (Some o) → body t o l ≡ body t o r
    unfolding body
    body_alike o f = part_same 2 (o - length t) o l r (omega arith) (text_alike o f)

  module _ (u : List ℕ) (p : Part) where
    step_alike : (prev l r : List ℕ) (at : ℕ) → length l ≡ length r → take (string_read high t l) l ≡ take (string_read high t l) r
        → step_of Strict high t u p prev l at ≡ step_of Strict high t u p prev r at
    unfolding step_of on_frame
    step_alike prev l r at n q = rw (← frame_alike l r n q) (go (frame_of Strict high t l) refl)
      where
        go : (w : Result (Option ℕ) Rule) → frame_of Strict high t l ≡ w → on_frame Strict w t u prev l p at ≡ on_frame Strict w t u prev r p at
        go (Ok None) f = refl
        go (Err b) f = refl
        go (Ok (Some o)) f = rw (body_alike l r n q o f)

    -- a step past a string has read it
    next_read : (prev l : List ℕ) (at o k : ℕ) → step_of Strict high t u p prev l at ≡ Ok (Some (o, k)) → string_read high t l ≡ o
    next_read prev l at o k h =
        let w = reach_so l o (next_fits Strict high t u p prev l at o k h).0 in
        whole_read l w.0 w.1 ∙ w.2

    module _ (look : ℕ → List ℕ → Turn) where
      -- what comes behind a string: the walk ends or goes on
      abbrev More : ℕ → ℕ → List ℕ → ℕ → ℕ → ℕ → ℕ
      More m j l at o k = on_turn (look j (take k (drop 2 l))) 0 0 (read_from look m high t u p (j + 1) (take k (drop 2 l)) (drop o l) (at + o))

      abbrev Walk : ℕ → ℕ → List ℕ → ℕ → ℕ → ℕ → Result Walked Refusal
      Walk m j l at o k =
          on_turn (look j (take k (drop 2 l))) (Ok (walked.At (place_of t o l at))) (Ok (walked.Over j))
          (walk_from look m high t u p (j + 1) (take k (drop 2 l)) (drop o l) (at + o))

      pub read_next : (m j : ℕ) (prev l : List ℕ) (at o k : ℕ) → step_of Strict high t u p prev l at ≡ Ok (Some (o, k))
          → read_from look (suc m) high t u p j prev l at ≡ o + More m j l at o k
      unfolding read_from
      read_next m j prev l at o k h = rw (h, next_read prev l at o k h)

      read_front : (m j : ℕ) (prev l r : List ℕ) (at : ℕ)
          → take (read_from look (suc m) high t u p j prev l at) l ≡ take (read_from look (suc m) high t u p j prev l at) r
          → take (string_read high t l) l ≡ take (string_read high t l) r
      unfolding read_from
      read_front m j prev l r at q =
          let x : ℕ = on_step (step_of Strict high t u p prev l at) (λ r. 0) 0 (λ o k. More m j l at o k) in
          front_same (string_read high t l) (string_read high t l + x) l r (omega arith) q

      from_alike : (m j : ℕ) (prev l r : List ℕ) (at : ℕ) → length l ≡ length r
          → take (read_from look m high t u p j prev l at) l ≡ take (read_from look m high t u p j prev l at) r
          → walk_from look m high t u p j prev l at ≡ walk_from look m high t u p j prev r at
      unfolding walk_from
      from_alike zero j prev l r at n q = refl
      from_alike (suc m) j prev l r at n q =
          rw (← step_alike prev l r at n (read_front m j prev l r at q)) (go (step_of Strict high t u p prev l at) refl (from_alike m (j + 1)))
        where
          Again : Type 0
          Again =
              (prev l r : List ℕ) (at : ℕ) → length l ≡ length r
              → take (read_from look m high t u p (j + 1) prev l at) l ≡ take (read_from look m high t u p (j + 1) prev l at) r
              → walk_from look m high t u p (j + 1) prev l at ≡ walk_from look m high t u p (j + 1) prev r at

          goes_on : (o k : ℕ) → frame_of Strict high t l ≡ Ok (Some o) → (w : Turn)
              → take (o + on_turn w 0 0 (read_from look m high t u p (j + 1) (take k (drop 2 l)) (drop o l) (at + o))) l
              ≡ take (o + on_turn w 0 0 (read_from look m high t u p (j + 1) (take k (drop 2 l)) (drop o l) (at + o))) r
              → Again
              → on_turn w (Ok (walked.At (place_of t o l at))) (Ok (walked.Over j)) (walk_from look m high t u p (j + 1) (take k (drop 2 l)) (drop o l) (at + o))
              ≡ on_turn w (Ok (walked.At (place_of t o r at))) (Ok (walked.Over j)) (walk_from look m high t u p (j + 1) (take k (drop 2 l)) (drop o r) (at + o))
          goes_on o k f Here s again = rw (body_alike l r n (read_front m j prev l r at q) o f)
          goes_on o k f Gone s again = refl
          goes_on o k f On s again =
              again (take k (drop 2 l)) (drop o l) (drop o r) (at + o) (drop_long o l r n)
              (rest_same o (read_from look m high t u p (j + 1) (take k (drop 2 l)) (drop o l) (at + o)) l r s)

          go : (st : Result (Option (ℕ × ℕ)) Refusal) → step_of Strict high t u p prev l at ≡ st → Again
              → on_step st Err (Ok (walked.Over j)) (λ o k. Walk m j l at o k) ≡ on_step st Err (Ok (walked.Over j)) (λ o k. Walk m j r at o k)
          go (Ok None) h again = refl
          go (Err x) h again = refl
          go (Ok (Some (o, k))) h again =
              let f = (next_fits Strict high t u p prev l at o k h).0 in
              let b = next_bounds Strict high t u p prev l at o k h in
              let g = text_alike l r n (read_front m j prev l r at q) o f in
              let d : take k (drop 2 l) ≡ take k (drop 2 r) = rest_same 2 k l r (front_same (2 + k) o l r (omega (arith, b.2)) g) in
              rw (← d) (goes_on o k f (look j (take k (drop 2 l))) (rw (read_next m j prev l at o k h) at q) again)

      -- two areas that are alike on the bytes read of one of them
      pub walk_alike : (l r : List ℕ) (at : ℕ) → length l ≡ length r → take (read_of look high t u p l at) l ≡ take (read_of look high t u p l at) r
          → walk_of look high t u p l at ≡ walk_of look high t u p r at
      unfolding walk_of read_of
      walk_alike l r at n q = rw (from_alike (length l) 0 [] l r at n q, n)

      -- ---- these bytes are the area's
      from_most : (m j : ℕ) (prev l : List ℕ) (at : ℕ) → read_from look m high t u p j prev l at ≤ length l
      unfolding read_from
      from_most zero j prev l at = omega arith
      from_most (suc m) j prev l at = go (step_of Strict high t u p prev l at) refl (λ o k. from_most m (j + 1) (take k (drop 2 l)) (drop o l) (at + o))
        where
          more : (o : ℕ) (w : Turn) (x : ℕ) → o ≤ length l → x ≤ length (drop o l) → o + on_turn w 0 0 x ≤ length l
          more o Here x h i = omega arith
          more o Gone x h i = omega arith
          more o On x h i = omega (arith, length-drop o l)

          go : (st : Result (Option (ℕ × ℕ)) Refusal) → step_of Strict high t u p prev l at ≡ st
              → ((o k : ℕ) → read_from look m high t u p (j + 1) (take k (drop 2 l)) (drop o l) (at + o) ≤ length (drop o l))
              → string_read high t l + on_step st (λ r. 0) 0 (λ o k. More m j l at o k) ≤ length l
          go (Ok None) h again = omega (arith, read_most l)
          go (Err x) h again = omega (arith, read_most l)
          go (Ok (Some (o, k))) h again =
              let b = next_bounds Strict high t u p prev l at o k h in
              rw (next_read prev l at o k h)
              (more o (look j (take k (drop 2 l))) (read_from look m high t u p (j + 1) (take k (drop 2 l)) (drop o l) (at + o)) b.1 (again o k))

      pub read_within : (l : List ℕ) (at : ℕ) → read_of look high t u p l at ≤ length l
      unfolding read_of
      read_within l at = from_most (length l) 0 [] l at

      module _ (s : Place) where
        abbrev EndsWith : ℕ → ℕ → Type 0
        EndsWith at x = (at ≤ s.value) × (s.value ≤ s.end) × (s.end + length t ≡ at + x)

        from_ends : (m j : ℕ) (prev l : List ℕ) (at : ℕ) → walk_from look m high t u p j prev l at ≡ Ok (walked.At s)
            → EndsWith at (read_from look m high t u p j prev l at)
        unfolding walk_from
        from_ends zero j prev l at q = let z : ◌≡◌ {A = ℕ} 0 1 = cc in absurd (omega arith)
        from_ends (suc m) j prev l at q =
            go (step_of Strict high t u p prev l at) refl q (λ o k. from_ends m (j + 1) (take k (drop 2 l)) (drop o l) (at + o))
          where
            here : (r : Place) → r ≡ s → (o x : ℕ) → (at ≤ r.value) × (r.value ≤ r.end) × (r.end + length t ≡ at + o) → EndsWith at (o + 0)
            here r e o x h = let k = rw e at h in (k.0, k.1, omega (arith, k.2))

            at_string : (o k : ℕ) → frame_of Strict high t l ≡ Ok (Some o) → (w : Turn)
                → on_turn w (Ok (walked.At (place_of t o l at))) (Ok (walked.Over j)) (walk_from look m high t u p (j + 1) (take k (drop 2 l)) (drop o l) (at + o))
                ≡ Ok (walked.At s)
                → (walk_from look m high t u p (j + 1) (take k (drop 2 l)) (drop o l) (at + o) ≡ Ok (walked.At s)
                → EndsWith (at + o) (read_from look m high t u p (j + 1) (take k (drop 2 l)) (drop o l) (at + o)))
                → EndsWith at (o + on_turn w 0 0 (read_from look m high t u p (j + 1) (take k (drop 2 l)) (drop o l) (at + o)))
            at_string o k f Here c again =
                let i = place_fits Strict high t l at o f in
                let n = in_frame Strict high t l o f in
                let e : place_of t o l at ≡ s = cc in
                here (place_of t o l at) e o 0 (omega arith, i.inside.2, omega (arith, n.low))
            at_string o k f Gone c again = let z : ◌≡◌ {A = ℕ} 0 1 = cc in absurd (omega arith)
            at_string o k f On c again = let i = again c in (omega (arith, i.0), i.1, omega (arith, i.2))

            go : (st : Result (Option (ℕ × ℕ)) Refusal) → step_of Strict high t u p prev l at ≡ st
                → on_step st Err (Ok (walked.Over j)) (λ o k. Walk m j l at o k) ≡ Ok (walked.At s)
                → ((o k : ℕ) → walk_from look m high t u p (j + 1) (take k (drop 2 l)) (drop o l) (at + o) ≡ Ok (walked.At s)
                → EndsWith (at + o) (read_from look m high t u p (j + 1) (take k (drop 2 l)) (drop o l) (at + o)))
                → EndsWith at (read_from look (suc m) high t u p j prev l at)
            go (Ok None) h c again = let z : ◌≡◌ {A = ℕ} 0 1 = cc in absurd (omega arith)
            go (Err x) h c again = let z : ◌≡◌ {A = ℕ} 0 1 = cc in absurd (omega arith)
            go (Ok (Some (o, k))) h c again =
                rw (read_next m j prev l at o k h)
                (at_string o k (next_fits Strict high t u p prev l at o k h).0 (look j (take k (drop 2 l))) c (again o k))

        pub read_ends : (l : List ℕ) (at : ℕ) → walk_of look high t u p l at ≡ Ok (walked.At s) → EndsWith at (read_of look high t u p l at)
        unfolding walk_of read_of
        read_ends l at q = go (eqb (length l) 0) q
          where
            go : (w : Bool) → pick w (Ok (walked.Over 0)) (walk_from look (length l) high t u p 0 [] l at) ≡ Ok (walked.At s)
                → EndsWith at (read_from look (length l) high t u p 0 [] l at)
            go true c = let z : ◌≡◌ {A = ℕ} 0 1 = cc in absurd (omega arith)
            go false c = from_ends (length l) 0 [] l at c

    -- ---- where all strings were passed, their places are alike too
    from_places : (m j : ℕ) (prev l r : List ℕ) (at c : ℕ) → length l ≡ length r
        → take (read_from to_end m high t u p j prev l at) l ≡ take (read_from to_end m high t u p j prev l at) r
        → walk_from to_end m high t u p j prev l at ≡ Ok (walked.Over c) → places_from Strict m high t l at ≡ places_from Strict m high t r at
    unfolding walk_from places_from on_text
    from_places zero j prev l r at c n q w = refl
    from_places (suc m) j prev l r at c n q w =
        rw (← frame_alike l r n (read_front to_end m j prev l r at q))
        (go (step_of Strict high t u p prev l at) refl w (λ o k. from_places m (j + 1) (take k (drop 2 l)) (drop o l) (drop o r) (at + o) c))
      where
        Further : ℕ → ℕ → Result Walked Refusal
        Further o k = walk_from to_end m high t u p (j + 1) (take k (drop 2 l)) (drop o l) (at + o)

        Both : Result (Option ℕ) Rule → Type 0
        Both w =
            on_text w [] (λ o. place_of t o l at ∷ places_from Strict m high t (drop o l) (at + o))
            ≡ on_text w [] (λ o. place_of t o r at ∷ places_from Strict m high t (drop o r) (at + o))

        go : (st : Result (Option (ℕ × ℕ)) Refusal) → step_of Strict high t u p prev l at ≡ st → on_step st Err (Ok (walked.Over j)) (λ o k. Further o k) ≡ Ok (walked.Over c)
            → ((o k : ℕ) → length (drop o l) ≡ length (drop o r)
            → take (read_from to_end m high t u p (j + 1) (take k (drop 2 l)) (drop o l) (at + o)) (drop o l)
            ≡ take (read_from to_end m high t u p (j + 1) (take k (drop 2 l)) (drop o l) (at + o)) (drop o r)
            → Further o k ≡ Ok (walked.Over c) → places_from Strict m high t (drop o l) (at + o) ≡ places_from Strict m high t (drop o r) (at + o))
            → Both (frame_of Strict high t l)
        go (Ok None) h e again = rw (done_frame Strict high t u p prev l at h)
        go (Err x) h e again = let z : ◌≡◌ {A = ℕ} 0 1 = cc in absurd (omega arith)
        go (Ok (Some (o, k))) h e again =
            let f = (next_fits Strict high t u p prev l at o k h).0 in
            let b = body_alike l r n (read_front to_end m j prev l r at q) o f in
            let s = rest_same o (read_from to_end m high t u p (j + 1) (take k (drop 2 l)) (drop o l) (at + o)) l r
            (rw (read_next to_end m j prev l at o k h) at q) in
            rw (f, b, again o k (drop_long o l r n) s e)

    pub places_alike : (l r : List ℕ) (at c : ℕ) → length l ≡ length r → take (read_of to_end high t u p l at) l ≡ take (read_of to_end high t u p l at) r
        → walk_of to_end high t u p l at ≡ Ok (walked.Over c) → places_of Strict high t l at ≡ places_of Strict high t r at
    unfolding walk_of read_of places_of places_from
    places_alike l r at c n q w = rw (← n) (go (length l) q w)
      where
        go : (m : ℕ) → take (read_from to_end m high t u p 0 [] l at) l ≡ take (read_from to_end m high t u p 0 [] l at) r
            → pick (eqb m 0) (Ok (walked.Over 0)) (walk_from to_end m high t u p 0 [] l at) ≡ Ok (walked.Over c)
            → places_from Strict m high t l at ≡ places_from Strict m high t r at
        go zero s v = refl
        go (suc m) s v =
            let some : eqb (suc m) 0 ≡ false = ne_eqb (suc m) 0 (λ z. absurd (omega (arith, z))) in
            from_places (suc m) 0 [] l r at c n s (rw some at v)
