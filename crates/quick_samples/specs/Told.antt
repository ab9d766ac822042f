-- The samples of one trace, quickly: that the two questions are made of what is answered of its block.
-- Assumes nothing.
use Rattle.std.specs.Prelude.{◌≡◌, refl, List, ℕ, ℤ, length, take, Ok, Err}
use Rattle.std.proofs.Common.{sym, ap, ◌∙◌, arith}
use Rattle.refusal.specs.declared.Refusal.{Refusal}
use Rattle.block.specs.declared.TraceBlock.{TraceBlock}
use Rattle.reader.specs.Questions.{trace_number, block_at, integers_verdict, bits_verdict, samples_in, patterns_in, classes_in, kept}
use Rattle.reader.specs.Leaves.{Fits}
use Rattle.reader.specs.Reach.{blocked_fits}
use Rattle.one_trace.specs.Alone.{block_alone}
use Rattle.one_trace.specs.AloneLaws.{Alone}
use Rattle.quick.specs.Quick.{quick_integers, quick_integers_left, quick_bits, quick_patterns_left, quick_classes_left}
use Rattle.quick.specs.QuickLaws.{quick_bad, quick_told, shown, own_block}

module _ (xs : List ℕ) (n : ℕ) (z : ℤ) where
  abbrev f : List ℕ
  f = take n xs

  -- a row was met before the samples'
  module _ (r : Refusal) (e : block_alone xs n z ≡ Err r) where
    pub integers_bad : (row : List ℤ) → (Err r ≡ quick_integers xs n z (length row)) × (row ≡ quick_integers_left xs n z row)
    unfolding quick_integers quick_integers_left
    integers_bad row = let q = quick_bad xs n z Err (λ f k. integers_verdict (block_at f k) (length row)) e in (q, rw (← q))

    pub bits_bad : (row classes : List ℕ)
        → (Err r ≡ quick_bits xs n z (length row) (length classes))
        × ((row ≡ quick_patterns_left xs n z row classes) × (classes ≡ quick_classes_left xs n z row classes))
    unfolding quick_bits quick_patterns_left quick_classes_left
    bits_bad row classes =
        let q = quick_bad xs n z Err (λ f k. bits_verdict (block_at f k) (length row) (length classes)) e in (q, (rw (← q), rw (← q)))

  -- none was: the block that was answered lies in the image
  module _ (x : TraceBlock) (e : block_alone xs n z ≡ Ok x) where
    pub own_fits : Fits (length f) x
    own_fits =
        let a = shown xs n z x e in
        rw (own_block xs n z x e) (blocked_fits f (trace_number z) (omega (arith, a.most, a.size)) a.blocked)

    pub integers_answer_lem : (s : ℕ) → integers_verdict x s ≡ quick_integers xs n z s
    unfolding quick_integers
    integers_answer_lem s =
        quick_told xs n z x e Err (λ f k. integers_verdict (block_at f k) s) (ap (λ (y : TraceBlock). integers_verdict y s) (own_block xs n z x e))

    pub bits_answer_lem : (s c : ℕ) → bits_verdict x s c ≡ quick_bits xs n z s c
    unfolding quick_bits
    bits_answer_lem s c =
        quick_told xs n z x e Err (λ f k. bits_verdict (block_at f k) s c) (ap (λ (y : TraceBlock). bits_verdict y s c) (own_block xs n z x e))

    pub integers_left_lem : (row : List ℤ) → kept (integers_verdict x (length row)) (samples_in f x) row ≡ quick_integers_left xs n z row
    unfolding quick_integers_left
    integers_left_lem row =
        rw (integers_answer_lem (length row)) (ap (λ (y : TraceBlock). kept (quick_integers xs n z (length row)) (samples_in f y) row) (own_block xs n z x e))

    pub patterns_left_lem : (row classes : List ℕ)
        → kept (bits_verdict x (length row) (length classes)) (patterns_in f x) row ≡ quick_patterns_left xs n z row classes
    unfolding quick_patterns_left
    patterns_left_lem row classes =
        rw (bits_answer_lem (length row) (length classes))
        (ap (λ (y : TraceBlock). kept (quick_bits xs n z (length row) (length classes)) (patterns_in f y) row) (own_block xs n z x e))

    pub classes_left_lem : (row classes : List ℕ)
        → kept (bits_verdict x (length row) (length classes)) (classes_in f x) classes ≡ quick_classes_left xs n z row classes
    unfolding quick_classes_left
    classes_left_lem row classes =
        rw (bits_answer_lem (length row) (length classes))
        (ap (λ (y : TraceBlock). kept (quick_bits xs n z (length row) (length classes)) (classes_in f y) classes) (own_block xs n z x e))
