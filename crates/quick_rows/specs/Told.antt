-- The strings of one trace in one row, quickly: a law for each answer, with what the code has in hand.
-- Assumes nothing.
use Rattle.std.specs.Prelude.{◌≡◌, List, ℕ, ◌+◌, ℤ, length, take, Result, Ok, Err}
use Rattle.std.proofs.Math.Path.{refl}
use Rattle.std.proofs.Common.{sym, ap, ◌∙◌}
use Rattle.refusal.specs.declared.Refusal.{Refusal}
use Rattle.refusal.specs.declared.Part.TheVariants.{Trace}
use Rattle.text.specs.declared.Manner.TheVariants.{Strict}
use Rattle.strings.specs.declared.Place.{Place}
use Rattle.places.specs.Numbers.{numbers_of}
use Rattle.head_words.specs.HeadWords.{high_first}
use Rattle.terminators.specs.Terminators.{string_end, line_end}
use Rattle.block.specs.declared.TraceBlock.{TraceBlock}
use Rattle.until.specs.declared.Walked.{Walked}
use Rattle.until.specs.Until.{to_end}
use Rattle.until.specs.Counted.{counted, never_at}
use Rattle.reader.specs.Questions.{trace_number, places_in, numbers_in, strings_verdict, kept}
use Rattle.one_trace.specs.Alone.{block_alone}
use Rattle.quick.specs.Quick.{walk_between, quick_walk, counted_by, quick_count, quick_strings, quick_strings_left}
use Rattle.quick.specs.QuickLaws.{walk_refused, walk_told, own_area}
use Rattle.string_rows.specs.Rows.{row_verdict}
use Rattle.refusal.specs.Verdicts.{Verdict}
use Rattle.until.specs.declared.Walked.TheVariants as walked

module _ (xs : List ℕ) (n : ℕ) (z : ℤ) (row : List ℕ) where
  -- what the walk answers is what the row asks first
  walked_so : (w : Result Walked Refusal) → w ≡ quick_walk to_end xs n z → strings_verdict (counted_by w) (length row) ≡ quick_strings xs n z (length row)
  unfolding quick_strings quick_count
  walked_so w e = rw e

  -- a refusal: of the rows before the strings, or of a string
  refused_so : (r : Refusal) → Err r ≡ quick_walk to_end xs n z
      → (Err r ≡ quick_strings xs n z (length row)) × (row ≡ quick_strings_left xs n z row)
  unfolding quick_strings_left
  refused_so r e = let q = walked_so (Err r) e in (q, rw (← q))

  pub strings_refused : (r : Refusal) → block_alone xs n z ≡ Err r
      → (Err r ≡ quick_strings xs n z (length row)) × (row ≡ quick_strings_left xs n z row)
  strings_refused r e = refused_so r (walk_refused xs n z to_end e)

  module _ (x : TraceBlock) (e : block_alone xs n z ≡ Ok x) (k : ℕ) (s : k ≡ trace_number z) where
    abbrev a : ℕ
    a = x.p + 32

    abbrev d : ℕ
    d = x.p + x.b

    abbrev f : List ℕ
    f = take n xs

    abbrev Walk : Result Walked Refusal → Type 0
    Walk w = walk_between to_end f k a d ≡ w

    pub strings_bad : (r : Refusal) → Walk (Err r) → (Err r ≡ quick_strings xs n z (length row)) × (row ≡ quick_strings_left xs n z row)
    strings_bad r w = refused_so r (walk_told xs n z x e to_end k s (sym w))

    -- as many as the area has places
    pub as_many : (c : ℕ) → Walk (Ok (walked.Over c)) → c ≡ length (places_in Strict f a d)
    unfolding places_in
    as_many c w = counted (high_first f) (string_end f) (line_end f) (Trace k) _ a c w

    pub strings_told : (c : ℕ) → Walk (Ok (walked.Over c)) → (v : Verdict) → v ≡ row_verdict c (length row) → v ≡ quick_strings xs n z (length row)
    unfolding row_verdict
    strings_told c w v q = q ∙ walked_so (Ok (walked.Over c)) (walk_told xs n z x e to_end k s (sym w))

    pub strings_left_lem : (c : ℕ) → Walk (Ok (walked.Over c)) → (new : List ℕ) → new ≡ kept (row_verdict c (length row)) (numbers_of (places_in Strict f a d)) row
        → new ≡ quick_strings_left xs n z row
    unfolding quick_strings_left numbers_in
    strings_left_lem c w new q = q ∙ rw (strings_told c w (row_verdict c (length row)) refl, own_area xs n z x e)

    -- no walk along all strings ends at one
    pub no_string : (p : Place) → Walk (Ok (walked.At p)) → ⊥
    no_string p w = never_at (high_first f) (string_end f) (line_end f) (Trace k) _ a p w
