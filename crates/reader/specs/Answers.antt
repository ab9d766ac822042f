-- Blocks and samples of an accepted file: when they are answered, and what is left in the lent rows: the samples of
-- that trace, all S of them, or the rows as they were.
-- Assumes nothing.
use Rattle.std.specs.Prelude.{◌≡◌, true, List, ℕ, zero, suc, ◌≤◌, ◌<◌, ℤ, pos, length, take, Ok, Err, Option, Some, None, false}
use Rattle.std.proofs.Math.Path.{refl}
use Rattle.std.proofs.Common.{arith}
use borrow.Author.Tests.{eq-eqb, eqb-true, not-false}
use Rattle.refusal.specs.Verdicts.{asked, refused_not, accepted}
use Rattle.refusal.specs.Rows.{ruled_clear}
use Rattle.refusal.specs.declared.Refusal.{Refusal}
use Rattle.head_words.specs.HeadWords.{high_first, count_of}
use Rattle.head.specs.Head.{refused}
use Rattle.block.specs.Block.{data_at, end_at, trace_block_of}
use Rattle.image.specs.Image.{check_of}
use Rattle.text.specs.declared.Manner.{Manner}
use Rattle.word.specs.Part.{part}
use Rattle.sample.specs.Run.{values_from}
use Rattle.decode.specs.Sample.{sample_of, pattern_of, class_of}
use Rattle.image.specs.Keeps.{trace_at}
use Rattle.head_limits.specs.declared.Purpose.TheVariants.{Read}
use Rattle.part_number.specs.PartNumber.{whose_of}
use Rattle.reader.specs.Questions.{no_trace, on_trace, code_at, count_at, of_integers, of_bits, block_at}
use Rattle.reader.specs.Questions.{data_of, samples_in, patterns_in, classes_in, integers_rows, bits_rows}
use Rattle.reader.specs.Questions.{integers_verdict, bits_verdict, integers_answer, bits_answer, samples_of}
use Rattle.reader.specs.Questions.{patterns_of, classes_of, integers_left, patterns_left, classes_left}
use Rattle.reader.specs.Reach.{whose_trace}
use Rattle.reader.specs.Listed.{whose_one}
use Rattle.refusal.specs.declared.Part.{Part}
use Rattle.refusal.specs.Verdicts.{Verdict}
use Rattle.refusal.specs.declared.Part.TheVariants.{File}
use Rattle.refusal.specs.declared.Part.TheVariants.{Trace}

-- ---- the kinds of codes

pub of_integers_lem : (code : ℕ) → of_integers code ≡ true → (1 ≤ code) × (code ≤ 3)
of_integers_lem zero h = let y : ◌≡◌ {A = ℕ} 0 1 = cc in absurd (omega arith)
of_integers_lem (suc zero) h = (omega arith, omega arith)
of_integers_lem (suc (suc zero)) h = (omega arith, omega arith)
of_integers_lem (suc (suc (suc zero))) h = (omega arith, omega arith)
of_integers_lem (suc (suc (suc (suc zero)))) h = let y : ◌≡◌ {A = ℕ} 0 1 = cc in absurd (omega arith)
of_integers_lem (suc (suc (suc (suc (suc zero))))) h = let y : ◌≡◌ {A = ℕ} 0 1 = cc in absurd (omega arith)
of_integers_lem (suc (suc (suc (suc (suc (suc k)))))) h = let y : ◌≡◌ {A = ℕ} 0 1 = cc in absurd (omega arith)

-- ---- the data and the samples of the trace k, by what its block says

module _ (f : List ℕ) (k : ℕ) where
  pub data_at_lem : data_of f k ≡ part (data_at (high_first f) f (trace_at f k)) (end_at (high_first f) f (trace_at f k)) f
  unfolding data_of trace_block_of end_at
  data_at_lem = refl

  pub samples_at : samples_of f k ≡ values_from (sample_of (code_at f k) (high_first f) (data_of f k)) 0 (count_at f k)
  unfolding samples_in data_of trace_block_of
  samples_at = refl

  pub patterns_at : patterns_of f k ≡ values_from (pattern_of (code_at f k) (high_first f) (data_of f k)) 0 (count_at f k)
  unfolding patterns_in data_of trace_block_of
  patterns_at = refl

  pub classes_at : classes_of f k ≡ values_from (λ i. class_of (code_at f k) (pattern_of (code_at f k) (high_first f) (data_of f k) i)) 0 (count_at f k)
  unfolding classes_in data_of trace_block_of
  classes_at = refl

-- ---- trace k of an accepted file, asked in its kind with rows of S elements: its samples are left

module _ (how : Manner) (xs : List ℕ) (n k : ℕ) (ok : check_of how Read xs n ≡ accepted) (low : k < count_of (take n xs)) where
  pub integers_read_lem : (row : List ℤ) → of_integers (code_at (take n xs) k) ≡ true → length row ≡ count_at (take n xs) k
      → (integers_answer how xs n (pos k) (length row) ≡ accepted) × (integers_left how xs n (pos k) row ≡ samples_of (take n xs) k)
  unfolding integers_answer integers_verdict integers_left trace_block_of
  integers_read_lem row c s =
      let w = whose_one k (count_of (take n xs)) low in
      let q = eq-eqb (length row) (count_at (take n xs) k) s in
      (rw (ok, w, c, q), rw (ok, w, c, q))

  pub bits_read_lem : (row classes : List ℕ) → of_bits (code_at (take n xs) k) ≡ true → length row ≡ count_at (take n xs) k → length classes ≡ count_at (take n xs) k
      → (bits_answer how xs n (pos k) (length row) (length classes) ≡ accepted)
      × (patterns_left how xs n (pos k) row classes ≡ patterns_of (take n xs) k)
      × (classes_left how xs n (pos k) row classes ≡ classes_of (take n xs) k)
  unfolding bits_answer bits_verdict patterns_left classes_left trace_block_of
  bits_read_lem row classes c s t =
      let w = whose_one k (count_of (take n xs)) low in
      let q = eq-eqb (length row) (count_at (take n xs) k) s in
      let r = eq-eqb (length classes) (count_at (take n xs) k) t in
      (rw (ok, w, c, q, r), rw (ok, w, c, q, r), rw (ok, w, c, q, r))

-- ---- a refusal leaves the rows as they were

pub integers_kept : (how : Manner) (xs : List ℕ) (n : ℕ) (z : ℤ) (row : List ℤ) (r : Refusal) → integers_answer how xs n z (length row) ≡ Err r
    → integers_left how xs n z row ≡ row
unfolding integers_left
integers_kept how xs n z row r h = rw h

pub bits_kept : (how : Manner) (xs : List ℕ) (n : ℕ) (z : ℤ) (row classes : List ℕ) (r : Refusal)
    → bits_answer how xs n z (length row) (length classes) ≡ Err r
    → (patterns_left how xs n z row classes ≡ row) × (classes_left how xs n z row classes ≡ classes)
unfolding patterns_left classes_left
bits_kept how xs n z row classes r h = (rw h, rw h)

-- ---- and nothing else is accepted

-- the file is accepted and z is a trace k of it
pub record Asks (how : Manner) (xs : List ℕ) (n : ℕ) (z : ℤ) : Type 0 where
  pub accepted : check_of how Read xs n ≡ accepted
  pub k : ℕ
  pub number : z ≡ pos k
  pub low : k < count_of (take n xs)

asks : (how : Manner) (xs : List ℕ) (n : ℕ) (z : ℤ) (rows : ℕ → Verdict)
    → asked Err (check_of how Read xs n) (on_trace (whose_of z (count_of (take n xs))) (Err no_trace) rows) ≡ accepted
    → (a : Asks how xs n z) × (rows a.k ≡ accepted)
asks how xs n z rows h = go (check_of how Read xs n) refl (whose_of z (count_of (take n xs))) refl h
  where
    go : (v : Verdict) → check_of how Read xs n ≡ v → (w : Option Part) → whose_of z (count_of (take n xs)) ≡ w
        → asked Err v (on_trace w (Err no_trace) rows) ≡ accepted
        → (a : Asks how xs n z) × (rows a.k ≡ accepted)
    go (Err r) q w p e = absurd (refused_not r e)
    go (Ok _) q (Some File) p e = absurd (refused_not _ e)
    go (Ok _) q None p e = absurd (refused_not _ e)
    go (Ok _) q (Some (Trace k)) p e =
        let s = whose_trace z (count_of (take n xs)) k p in
        (record { accepted = q; k = k; number = s.0; low = s.1 }, e)

pub integers_accepted : (how : Manner) (xs : List ℕ) (n : ℕ) (z : ℤ) (s : ℕ) → integers_answer how xs n z s ≡ accepted
    → (a : Asks how xs n z) × (of_integers (code_at (take n xs) a.k) ≡ true) × (s ≡ count_at (take n xs) a.k)
unfolding integers_answer integers_verdict trace_block_of
integers_accepted how xs n z s h =
    let a = asks how xs n z (λ k. integers_verdict (block_at (take n xs) k) s) h in
    let k : ℕ = a.0.k in
    let c = (ruled_clear (λ r. refused r 0) accepted (λ r. refused_not _) (integers_rows (block_at (take n xs) k) s) accepted a.1).0 in
    (a.0, not-false _ c.0, eqb-true _ _ (not-false _ c.1.0))

pub bits_accepted : (how : Manner) (xs : List ℕ) (n : ℕ) (z : ℤ) (s t : ℕ) → bits_answer how xs n z s t ≡ accepted
    → (a : Asks how xs n z) × (of_bits (code_at (take n xs) a.k) ≡ true) × (s ≡ count_at (take n xs) a.k) × (t ≡ count_at (take n xs) a.k)
unfolding bits_answer bits_verdict trace_block_of
bits_accepted how xs n z s t h =
    let a = asks how xs n z (λ k. bits_verdict (block_at (take n xs) k) s t) h in
    let k : ℕ = a.0.k in
    let c = (ruled_clear (λ r. refused r 0) accepted (λ r. refused_not _) (bits_rows (block_at (take n xs) k) s t) accepted a.1).0 in
    (a.0, not-false _ c.0, eqb-true _ _ (not-false _ c.1.0), eqb-true _ _ (not-false _ c.1.1.0))
