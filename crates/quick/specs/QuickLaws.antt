-- One trace, quickly: a law for each answer of the family, and that what is found lies in the lent buffer.
-- Assumes nothing.
use Rattle.std.specs.Prelude.{◌≡◌, ℤ, pos, nat_abs, length, T, Result, Ok, Err, Option, Some, None}
use Rattle.std.proofs.Math.Path.{refl, sym}
use Rattle.std.proofs.Common.{ap, ◌∙◌, arith, to_z, of_z, Fits}
use mathlib.Core.List.{List}
use Prim.Native.Nat.{ℕ, ◌+◌, ◌≤◌, ◌<◌}
use Rattle.std.proofs.Math.ListN.{take}
use Rattle.std.specs.Int.Signed.{mag, non_neg}
use Rattle.std.specs.Int.{w32}
use Rattle.std.specs.Borrow.{Bor}
use Rattle.word.specs.Part.{PartOf}
use Rattle.word.specs.Bytes.{Bytes, bytes_take}
use Rattle.word.specs.WordLaws.{word_small}
use Rattle.word.specs.Signed.{kept}
use Rattle.refusal.specs.declared.Part.TheVariants.{Trace}
use Rattle.refusal.specs.declared.Refusal.{Refusal}
use Rattle.refusal.specs.Verdicts.{asked}
use Rattle.strings.specs.declared.Place.{Place}
use Rattle.strings.specs.Strings.{PlaceIn}
use Rattle.head_words.specs.HeadWords.{high_first, count_of}
use Rattle.terminators.specs.Terminators.{string_end, line_end}
use Rattle.block.specs.declared.TraceBlock.{TraceBlock}
use Rattle.block.specs.Block.{data_at, trace_block_of}
use Rattle.image.specs.Keeps.{trace_at}
use Rattle.until.specs.declared.Turn.{Turn}
use Rattle.until.specs.declared.Walked.{Walked}
use Rattle.until.specs.Until.{by_key, to_end}
use Rattle.until.specs.Counted.{counted, never_at}
use Rattle.until.specs.Turns.{EndsIn, walk_in_lem}
use Rattle.text.specs.declared.Manner.TheVariants.{Strict}
use Rattle.reader.specs.Questions.{trace_number, area_named, places_in, block_at, value_there, span_there, on_string}
use Rattle.reader.specs.Leaves.{Within}
use Rattle.reader.specs.Reach.{found_told, made_told}
use Rattle.one_trace.specs.Alone.{alone_of, block_alone}
use Rattle.one_trace.specs.AloneLaws.{Alone, alone_passed, alone_read, alone_refused}
use Rattle.quick.specs.Quick.{quickly, walk_between, walk_in, quick_walk, told_by, quick_find, quick_value, quick_read, quick_span}
use Rattle.refusal.specs.Verdicts.{Verdict}
use Rattle.until.specs.declared.Walked.TheVariants as walked

module _ (xs : List ℕ) (n : ℕ) (z : ℤ) where
  abbrev f : List ℕ
  f = take n xs

  -- a row was met before the question's own
  pub quick_bad : {A : Type 0} (bad : Refusal → A) (own : List ℕ → ℕ → A) {r : Refusal} → block_alone xs n z ≡ Err r → bad r ≡ quickly bad own xs n z
  quick_bad bad own {r} e = rw (alone_refused xs n z r e)

  pub walk_refused : (look : ℕ → List ℕ → Turn) {r : Refusal} → block_alone xs n z ≡ Err r → Err r ≡ quick_walk look xs n z
  unfolding quick_walk
  walk_refused look e = quick_bad Err (walk_in look) e

  -- none was: what was shown, and where the strings stand
  module _ (x : TraceBlock) (e : block_alone xs n z ≡ Ok x) where
    pub shown : Alone xs n z
    shown = alone_passed xs n z (alone_read xs n z x e).0

    pub own_block : x ≡ block_at f (trace_number z)
    own_block = (alone_read xs n z x e).1

    starts : trace_at f (trace_number z) ≡ x.p
    unfolding trace_block_of
    starts = sym (ap (λ (y : TraceBlock). y.p) own_block)

    ends : data_at (high_first f) f (trace_at f (trace_number z)) ≡ x.p + x.b
    unfolding trace_block_of
    ends = sym (ap (λ (y : TraceBlock). y.p + y.b) own_block)

    pub area_lies : (x.p + 32 ≤ x.p + x.b) × (x.p + x.b ≤ length f)
    area_lies =
        let b = shown.blocked in
        let s = starts in
        let d = ends in
        (omega (arith, b.least, s, d), omega (arith, b.fits, d))

    pub own_area : area_named f (Some (Trace (trace_number z))) ≡ Some (x.p + 32, x.p + x.b)
    unfolding area_named
    own_area = rw (ends, starts)

    pub quick_told : {A : Type 0} (bad : Refusal → A) (own : List ℕ → ℕ → A) {a : A} → a ≡ own f (trace_number z) → a ≡ quickly bad own xs n z
    quick_told bad own h = h ∙ sym (rw (alone_read xs n z x e).0)

    -- of the strings of the trace k
    pub walk_told : (look : ℕ → List ℕ → Turn) (k : ℕ) {w : Result Walked Refusal} → k ≡ trace_number z → w ≡ walk_between look f k (x.p + 32) (x.p + x.b)
        → w ≡ quick_walk look xs n z
    unfolding quick_walk walk_in
    walk_told look k q h = h ∙ sym (rw ((alone_read xs n z x e).0, ends, starts, q))

-- ---- what is found lies in the image
told_in : (n e : ℕ) (w : Result Walked Refusal) → e ≤ n → EndsIn e w → Within n (told_by w)
told_in n e (Ok (walked.At p)) l i = (i.0, i.1, i.2, omega (arith, i.3))
told_in n e (Ok (walked.Over j)) l i = tt
told_in n e (Err r) l i = tt

module _ (look : ℕ → List ℕ → Turn) (xs : List ℕ) (n : ℕ) (z : ℤ) where
  pub walk_within : Within n (told_by (quick_walk look xs n z))
  unfolding quick_walk walk_in
  walk_within = go (alone_of xs n z) refl
    where
      go : (v : Verdict) → alone_of xs n z ≡ v → Within n (told_by (asked Err v (walk_in look (take n xs) (trace_number z))))
      go (Err r) e = tt
      go (Ok _) e =
          let f : List ℕ = take n xs in
          let a = alone_passed xs n z e in
          let p : ℕ = trace_at f (trace_number z) in
          let d : ℕ = data_at (high_first f) f p in
          let b = a.blocked in
          told_in n d (walk_in look f (trace_number z)) (omega (arith, b.fits, a.size))
          (walk_in_lem look (high_first f) (string_end f) (line_end f) (Trace (trace_number z)) d f (p + 32) (omega (arith, b.least)) b.fits)

  -- and so in the buffer
  pub walk_lent : Within (length xs) (told_by (quick_walk look xs n z))
  unfolding quick_walk
  walk_lent = go (alone_of xs n z) refl walk_within
    where
      wider : (m : ℕ) (s : Result (Option Place) Refusal) → n ≤ m → Within n s → Within m s
      wider m (Ok (Some p)) l h = (h.0, h.1, h.2, omega (arith, h.3))
      wider m (Ok None) l h = tt
      wider m (Err r) l h = tt

      go : (v : Verdict) → alone_of xs n z ≡ v → Within n (told_by (asked Err v (walk_in look (take n xs) (trace_number z))))
          → Within (length xs) (told_by (asked Err v (walk_in look (take n xs) (trace_number z))))
      go (Err r) e h = tt
      go (Ok _) e h = wider (length xs) (told_by (walk_in look (take n xs) (trace_number z))) (alone_passed xs n z e).fits h

find_within : (xs : List ℕ) (n : ℕ) (z : ℤ) (key : List ℕ) → Within n (quick_find xs n z key)
unfolding quick_find
find_within xs n z key = walk_within (by_key key) xs n z

pub find_lent : (xs : List ℕ) (n : ℕ) (z : ℤ) (key : List ℕ) → Within (length xs) (quick_find xs n z key)
unfolding quick_find
find_lent xs n z key = walk_lent (by_key key) xs n z

-- ---- a walk along all strings of a trace ends at none of them, and has passed as many as there are
pub never_string : (f : List ℕ) (k : ℕ) (s : Place) → walk_in to_end f k ≡ Ok (walked.At s) → ⊥
unfolding walk_in
never_string f k s h = never_at (high_first f) (string_end f) (line_end f) (Trace k) _ _ s h

pub all_counted : (f : List ℕ) (k c : ℕ) → walk_in to_end f k ≡ Ok (walked.Over c)
    → c ≡ length (places_in Strict f (trace_at f k + 32) (data_at (high_first f) f (trace_at f k)))
unfolding walk_in places_in
all_counted f k c h = counted (high_first f) (string_end f) (line_end f) (Trace k) _ _ c h

-- the value that is found is the answer, and stands where the answer stands
pub value_told : (xs : List ℕ) (n : ℕ) (z : ℤ) (key : List ℕ) (s : Result (Option Place) Refusal) → s ≡ quick_find xs n z key
    → value_there xs s ≡ quick_value xs n z key
unfolding quick_value
value_told xs n z key s e = found_told xs n s (quick_find xs n z key) e (find_within xs n z key)

-- and what is made of it is the answer, unless a row was met
pub read_told : {A : Type 0} (bad : Refusal → A) (g : List ℕ → A) (xs : List ℕ) (n : ℕ) (z : ℤ) (key : List ℕ) (s : Result (Option Place) Refusal) → s ≡ quick_find xs n z key
    → on_string bad s (g (value_there xs s)) ≡ quick_read bad g xs n z key
read_told bad g xs n z key s e = made_told bad g xs s (quick_find xs n z key) (quick_value xs n z key) e (value_told xs n z key s e)

pub span_told : {b r : Bor (List ℕ)} (xs : List ℕ) (n : ℕ) (z : ℤ) (key : List ℕ) (s : Result (Option Place) Refusal) → s ≡ quick_find xs n z key
    → PartOf b (span_there s) r
    → PartOf b (quick_span xs n z key) r
unfolding quick_span
span_told xs n z key s e h = rw e at h

-- ---- the number of a trace that is there, as the machine casts it
module _ {xs : List ℕ} {n : ℕ} {z : ℤ} (a : Alone xs n z) (fits : mag z < 2147483648) where
  number_kept : to_z w32 (of_z w32 z) ≡ pos (trace_number z)
  number_kept = kept w32 z fits ∙ a.number

  pub number_plain : nat_abs (to_z w32 (of_z w32 z)) ≡ trace_number z
  number_plain = rw number_kept

  pub number_casts : Bytes xs → T (non_neg (to_z w32 (of_z w32 z))) × Fits w32 (nat_abs (to_z w32 (of_z w32 z))) × (nat_abs (to_z w32 (of_z w32 z)) < 65536)
  unfolding count_of
  number_casts by =
      let s = word_small 2 (high_first (take n xs)) (take n xs) 6 (bytes_take n xs by) in
      rw number_kept (tt, record { fits = omega (arith, a.low, s) }, omega (arith, a.low, s))
