-- The samples of a trace: that the two questions are made of what is answered of its block.
-- Assumes nothing.
use Rattle.std.specs.Prelude.{◌≡◌, List, ℕ, ◌-◌, ℤ, length, take, Ok, Err, Option, Some, None}
use Rattle.std.proofs.Common.{sym, ap, arith}
use Rattle.head_limits.specs.declared.Purpose.TheVariants.{Read}
use Rattle.text.specs.declared.Manner.{Manner}
use Rattle.refusal.specs.Verdicts.{asked, accepted}
use Rattle.refusal.specs.declared.Refusal.{Refusal}
use Rattle.block.specs.declared.TraceBlock.{TraceBlock}
use Rattle.head_words.specs.HeadWords.{high_first, count_of}
use Rattle.head.specs.Head.{refused}
use Rattle.block.specs.Block.{trace_block_of}
use Rattle.image.specs.Image.{check_of}
use Rattle.part_number.specs.PartNumber.{whose_of}
use Rattle.reader.specs.Questions.{no_trace, on_trace, trace_answer, block_at}
use Rattle.reader.specs.Questions.{integers_verdict, bits_verdict, integers_answer, bits_answer, samples_in, patterns_in}
use Rattle.reader.specs.Questions.{classes_in, kept, integers_left, patterns_left, classes_left}
use Rattle.reader.specs.Reach.{Told}
use Rattle.refusal.specs.declared.Part.{Part}
use Rattle.refusal.specs.Verdicts.{Verdict}
use Rattle.refusal.specs.declared.Part.TheVariants.{File}
use Rattle.refusal.specs.declared.Part.TheVariants.{Trace}

-- ---- the questions

-- where the trace is refused, so is every question on it
trace_refused : (how : Manner) {A : Type 0} (bad : Refusal → A) (some : ℕ → A) (xs : List ℕ) (n : ℕ) (z : ℤ) (r : Refusal)
    → trace_answer how xs n z ≡ Err r
    → asked bad (check_of how Read xs n) (on_trace (whose_of z (count_of (take n xs))) (bad no_trace) some) ≡ bad r
unfolding trace_answer
trace_refused how bad some xs n z r h = go (check_of how Read xs n) (whose_of z (count_of (take n xs))) h
  where
    go : (v : Verdict) (w : Option Part)
        → asked Err v (on_trace w (Err no_trace) (λ k. Ok (trace_block_of (high_first (take n xs)) (take n xs) k))) ≡ Err r
        → asked bad v (on_trace w (bad no_trace) some) ≡ bad r
    go (Err q) w k = let s : q ≡ r = cc in ap bad s
    go (Ok _) (Some File) k = let s : no_trace ≡ r = cc in ap bad s
    go (Ok _) None k = let s : no_trace ≡ r = cc in ap bad s
    go (Ok _) (Some (Trace j)) k = let y : ◌≡◌ {A = ℕ} 0 1 = cc in absurd (omega arith)

module _ (how : Manner) (xs : List ℕ) (n : ℕ) (z : ℤ) (r : Refusal) (h : trace_answer how xs n z ≡ Err r) where
  pub integers_bad : (row : List ℤ) → (Err r ≡ integers_answer how xs n z (length row)) × (row ≡ integers_left how xs n z row)
  unfolding integers_answer integers_left
  integers_bad row = let e = trace_refused how Err (λ k. integers_verdict (block_at (take n xs) k) (length row)) xs n z r h in (sym e, rw e)

  pub bits_bad : (row classes : List ℕ)
      → (Err r ≡ bits_answer how xs n z (length row) (length classes))
      × ((row ≡ patterns_left how xs n z row classes) × (classes ≡ classes_left how xs n z row classes))
  unfolding bits_answer patterns_left classes_left
  bits_bad row classes = let e = trace_refused how Err (λ k. bits_verdict (block_at (take n xs) k) (length row) (length classes)) xs n z r h in
      (sym e, (rw e, rw e))

module _ (how : Manner) (xs : List ℕ) (n : ℕ) (z : ℤ) (t : TraceBlock) (h : Told how xs n z t) where
  pub integers_answer_lem : (s : ℕ) → integers_verdict t s ≡ integers_answer how xs n z s
  unfolding integers_answer
  integers_answer_lem s = rw (h.accepted, h.whose, h.block)

  pub bits_answer_lem : (s c : ℕ) → bits_verdict t s c ≡ bits_answer how xs n z s c
  unfolding bits_answer
  bits_answer_lem s c = rw (h.accepted, h.whose, h.block)

  pub integers_left_lem : (row : List ℤ) → kept (integers_verdict t (length row)) (samples_in (take n xs) t) row ≡ integers_left how xs n z row
  unfolding integers_left
  integers_left_lem row = rw (integers_answer_lem (length row), h.number, h.block)

  pub patterns_left_lem : (row classes : List ℕ) → kept (bits_verdict t (length row) (length classes)) (patterns_in (take n xs) t) row ≡ patterns_left how
      xs n z row classes
  unfolding patterns_left
  patterns_left_lem row classes = rw (bits_answer_lem (length row) (length classes), h.number, h.block)

  pub classes_left_lem : (row classes : List ℕ) → kept (bits_verdict t (length row) (length classes)) (classes_in (take n xs) t) classes ≡ classes_left how
      xs n z row classes
  unfolding classes_left
  classes_left_lem row classes = rw (bits_answer_lem (length row) (length classes), h.number, h.block)
