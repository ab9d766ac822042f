-- "On every file that the full check accepts, the answer equals the full one" (document 02 §5): one law for the family
-- (`quickly_full`), and each question by it, lent rows included.
-- Assumes nothing.
use Rattle.std.specs.Prelude.{◌≡◌, Bool, ℤ, pos, take, eqb, Result, Ok, Err, Some, None, true, false, List, [], ◌∷◌, ℕ, zero, suc, ◌+◌, ◌-◌, ◌≤◌, ◌<◌, length, ltb}
use Rattle.std.proofs.Common.{refl, arith, ltb-true, lt-ltb, eqb-true}
use borrow.Author.Tests.{eqb-false}
use Rattle.refusal.specs.Rows.{pick}
use Rattle.refusal.specs.Verdicts.{asked, accepted, Verdict}
use Rattle.refusal.specs.FirstRow.{row, first_of, met_none_passed}
use Rattle.refusal.specs.declared.Part.TheVariants.{Trace}
use Rattle.refusal.specs.declared.Refusal.{Refusal}
use Rattle.text.specs.declared.Manner.TheVariants.{Strict}
use Rattle.strings.specs.declared.Place.{Place}
use Rattle.strings.specs.Strings.{key_in, nth_of}
use Rattle.until.specs.declared.Turn.{Turn}
use Rattle.until.specs.declared.Turn.TheVariants.{Here, On}
use Rattle.until.specs.declared.Walked.{Walked}
use Rattle.until.specs.Until.{by_index, on_turn}
use Rattle.head_limits.specs.declared.Purpose.TheVariants.{Read}
use Rattle.head_words.specs.HeadWords.{high_first, room_of, count_of}
use Rattle.head.specs.Head.{head_of}
use Rattle.head.specs.HeadLaws.{head_accepts}
use Rattle.block.specs.Block.{end_at}
use Rattle.block.specs.BlockLaws.{pointer_accepts, block_accepts}
use Rattle.file_length.specs.FileLength.{bad_length}
use Rattle.image.specs.Image.{image_of, check_of}
use Rattle.file_length.specs.FileLength.{length_accepts}
use Rattle.image.specs.Keeps.{trace_at, end_before}
use Rattle.image.specs.Accepted.{image_headed}
use Rattle.part_number.specs.PartNumber.{whose_of}
use Rattle.reader.specs.Questions.{no_trace, on_trace, there, block_at}
use Rattle.reader.specs.Questions.{trace_answer}
use Rattle.reader.specs.Questions.{integers_verdict, bits_verdict, integers_answer, integers_left, bits_answer, patterns_left, classes_left}
use Rattle.reader.specs.Reach.{checked, trace_pointed, trace_blocked}
use Rattle.one_trace.specs.Alone.{alone_checks, alone_of, block_alone}
use Rattle.quick.specs.Quick.{quickly, told_by}
use Rattle.quick.specs.Quick.{quick_integers, quick_integers_left, quick_bits, quick_patterns_left, quick_classes_left}
use Rattle.until.specs.declared.Walked.TheVariants as walked

-- ---- an area that the check accepts: a walk along its strings is one along its places

-- no string of the list is judged again
unfoldable pub walk_places : (ℕ → List ℕ → Turn) → List ℕ → ℕ → List Place → Result Walked Refusal
walk_places look f j [] = Ok (walked.Over j)
walk_places look f j (s ∷ ss) = on_turn (look j (key_in f s)) (Ok (walked.At s)) (Ok (walked.Over j)) (walk_places look f (j + 1) ss)

-- the i-th of a list of places, and how many it has
pub by_index_lem : (f : List ℕ) (i j : ℕ) (ss : List Place) → j ≤ i → told_by (walk_places (by_index i) f j ss) ≡ there (nth_of ss (i - j))
unfolding walk_places nth_of
by_index_lem f i j [] h = refl
by_index_lem f i j (s ∷ ss) h = go (eqb j i) refl (by_index_lem f i (j + 1) ss)
  where
    go : (w : Bool) → eqb j i ≡ w → (j + 1 ≤ i → told_by (walk_places (by_index i) f (j + 1) ss) ≡ there (nth_of ss (i - (j + 1))))
        → told_by (on_turn (pick w Here On) (Ok (walked.At s)) (Ok (walked.Over j)) (walk_places (by_index i) f (j + 1) ss)) ≡ there (nth_of (s ∷ ss) (i - j))
    go true w again = let e : i - j ≡ 0 = omega (arith, eqb-true j i w) in rw e
    go false w again =
        let n : j < i = omega (arith, h, eqb-false j i w) in
        let e : i - j ≡ suc (i - (j + 1)) = omega arith in
        rw e (again (omega arith))

-- ---- a file that the check accepts
module _ (xs : List ℕ) (n : ℕ) (ok : check_of Strict Read xs n ≡ accepted) where
  abbrev pub g : List ℕ
  g = take n xs

  pub image : image_of Strict Read g ≡ accepted
  image = (checked Strict xs n ok).image

  -- no trace begins before the pointer room's end
  behind_room : (k : ℕ) → k < count_of g → 32 + room_of g ≤ trace_at g k
  unfolding end_before end_at
  behind_room k l = let p = trace_pointed Strict g image k l in let r = room k l in omega (arith, p.behind)
    where
      room : (j : ℕ) → j < count_of g → 32 + room_of g ≤ end_before g j
      room zero h = omega arith
      room (suc j) h =
          let q = trace_pointed Strict g image j (omega arith) in
          let s = room j (omega arith) in
          omega (arith, q.behind)

  top : (bad_length (length xs) n ≡ false) × (head_of Read (take 32 g) (length g) ≡ accepted)
  top =
      let c = checked Strict xs n ok in
      (length_accepts (length xs) n c.least c.most c.fits, head_accepts Read g (image_headed Strict Read g image))

  -- a trace that is there passes its own rows
  alone_there : (k : ℕ) → k < count_of g → alone_of xs n (pos k) ≡ accepted
  unfolding alone_of
  alone_there k l =
      let p = trace_pointed Strict g image k l in
      let b = trace_blocked Strict g image k l in
      met_none_passed (alone_checks xs n (pos k)) (
        rw top.0,
        (
          top.1,
          (
            rw (lt-ltb k (count_of g) l),
            (
              pointer_accepts (length g) k (32 + room_of g) (trace_at g k) (record { whole = p.whole; behind = behind_room k l; fits = p.fits }),
              (block_accepts (high_first g) g k (trace_at g k) b, tt),
            ),
          ),
        ),
      )

  -- one that is not is 18
  alone_gone : (k : ℕ) → ltb k (count_of g) ≡ false → alone_of xs n (pos k) ≡ Err no_trace
  unfolding alone_of first_of
  alone_gone k w = rw (top.0, top.1, w)

  -- ---- the family: what a question makes of a trace that is there, it makes of the checked file's
  pub quickly_full : {A : Type 0} (bad : Refusal → A) (own full : List ℕ → ℕ → A) (k : ℕ) → (k < count_of g → own g k ≡ full g k)
      → quickly bad own xs n (pos k) ≡ asked bad (check_of Strict Read xs n) (on_trace (whose_of (pos k) (count_of g)) (bad no_trace) (full g))
  unfolding whose_of
  quickly_full {A} bad own full k h = rw ok (go (ltb k (count_of g)) refl)
    where
      go : (w : Bool) → ltb k (count_of g) ≡ w → quickly bad own xs n (pos k) ≡ on_trace (pick w (Some (Trace k)) None) (bad no_trace) (full g)
      go true w = let l = ltb-true k (count_of g) w in rw (alone_there k l) (h l)
      go false w = rw (alone_gone k w)

  pub block_full : (k : ℕ) → block_alone xs n (pos k) ≡ trace_answer Strict xs n (pos k)
  unfolding block_alone trace_answer
  block_full k = quickly_full Err (λ f i. Ok (block_at f i)) (λ f i. Ok (block_at f i)) k (λ l. refl)

  -- ---- samples
  pub integers_full : (k : ℕ) (row : List ℤ)
      → (quick_integers xs n (pos k) (length row) ≡ integers_answer Strict xs n (pos k) (length row))
      × (quick_integers_left xs n (pos k) row ≡ integers_left Strict xs n (pos k) row)
  unfolding quick_integers quick_integers_left integers_answer integers_left
  integers_full k row =
      let own : List ℕ → ℕ → Verdict = λ f i. integers_verdict (block_at f i) (length row) in
      let e = quickly_full Err own own k (λ l. refl) in
      (e, rw e)

  pub bits_full : (k : ℕ) (row classes : List ℕ)
      → (quick_bits xs n (pos k) (length row) (length classes) ≡ bits_answer Strict xs n (pos k) (length row) (length classes))
      × (quick_patterns_left xs n (pos k) row classes ≡ patterns_left Strict xs n (pos k) row classes)
      × (quick_classes_left xs n (pos k) row classes ≡ classes_left Strict xs n (pos k) row classes)
  unfolding quick_bits quick_patterns_left quick_classes_left bits_answer patterns_left classes_left
  bits_full k row classes =
      let own : List ℕ → ℕ → Verdict = λ f i. bits_verdict (block_at f i) (length row) (length classes) in
      let e = quickly_full Err own own k (λ l. refl) in
      (e, rw e, rw e)
