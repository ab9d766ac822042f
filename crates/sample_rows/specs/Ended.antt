-- The samples of a trace whose block is known, as they are read: a law for each answer.
-- Assumes nothing.
use Rattle.std.specs.Prelude.{◌≡◌, refl, Bool, true, false, List, ℕ, zero, suc, ◌+◌, ◌-◌, ◌%◌, ◌≤◌, ℤ, length}
use Rattle.std.proofs.Common.{◌∙◌, arith}
use borrow.Author.Tests.{eq-eqb, ne_eqb, le-leb}
use Rattle.head_limits.specs.declared.Purpose.TheVariants.{Read}
use Rattle.refusal.specs.Verdicts.{asked, accepted}
use Rattle.word.specs.Part.{length_part}
use Rattle.refusal.specs.declared.Rule.TheVariants.{RowLength, CodeKind}
use Rattle.sample.specs.Needed.{needed}
use Rattle.decode.specs.Sample.{integers_asked, integers_there, integers_read, bits_there, patterns_read, classes_read}
use Rattle.block.specs.declared.TraceBlock.{TraceBlock}
use Rattle.head_words.specs.HeadWords.{high_first}
use Rattle.head.specs.Head.{refused}
use Rattle.reader.specs.Questions.{of_integers, of_bits, data_in}
use Rattle.reader.specs.Questions.{integers_verdict, bits_verdict, samples_in, patterns_in}
use Rattle.reader.specs.Questions.{classes_in, kept}
use Rattle.reader.specs.Leaves.{Fits}
use Rattle.refusal.specs.Verdicts.{Verdict}

-- ---- the data block has the bytes that its samples need
data_long : (f : List ℕ) (t : TraceBlock) → Fits (length f) t → length (data_in f t) ≡ t.d
data_long f t h = length_part (t.p + t.b) (t.p + t.b + t.d) f h.inside ∙ omega arith

groups_asked : (code s : ℕ) → of_integers code ≡ true → (code ≡ 3 → s % 4 ≡ 0) → integers_asked code s ≡ true
groups_asked zero s k g = k
groups_asked (suc zero) s k g = k
groups_asked (suc (suc zero)) s k g = k
groups_asked (suc (suc (suc zero))) s k g = eq-eqb _ _ (g refl)
groups_asked (suc (suc (suc (suc zero)))) s k g = k
groups_asked (suc (suc (suc (suc (suc zero))))) s k g = k
groups_asked (suc (suc (suc (suc (suc (suc c)))))) s k g = k

integers_there_lem : (f : List ℕ) (t : TraceBlock) → Fits (length f) t → of_integers t.code ≡ true → integers_there t.code t.s (data_in f t) ≡ true
unfolding integers_there
integers_there_lem f t h k =
    let l : needed t.code t.s ≤ length (data_in f t) = omega (arith, data_long f t h, h.samples) in
    rw (groups_asked t.code t.s k h.groups, le-leb (needed t.code t.s) (length (data_in f t)) l)

bits_there_lem : (f : List ℕ) (t : TraceBlock) → Fits (length f) t → of_bits t.code ≡ true → bits_there t.code t.s t.s (data_in f t) ≡ true
unfolding bits_there
bits_there_lem f t h k =
    let l : needed t.code t.s ≤ length (data_in f t) = omega (arith, data_long f t h, h.samples) in
    rw (k, eq-eqb t.s t.s refl, le-leb (needed t.code t.s) (length (data_in f t)) l)

-- ---- integers
module _ (f : List ℕ) (t : TraceBlock) (row : List ℤ) where
  abbrev pub IntegersEnd : Verdict → List ℤ → Type 0
  IntegersEnd v new = (v ≡ integers_verdict t (length row)) × (new ≡ kept (integers_verdict t (length row)) (samples_in f t) row)

  pub integers_kind : of_integers t.code ≡ false → IntegersEnd (refused CodeKind 0) row
  unfolding integers_verdict
  integers_kind k = rw k (refl, refl)

  pub integers_long : of_integers t.code ≡ true → (length row ≡ t.s → ⊥) → IntegersEnd (refused RowLength 0) row
  unfolding integers_verdict
  integers_long k l = rw (k, ne_eqb (length row) t.s l) (refl, refl)

  pub integers_done : (h : Bool) (new : List ℤ) → of_integers t.code ≡ true → length row ≡ t.s → Fits (length f) t → h ≡ high_first f
      → new ≡ integers_read t.code h (data_in f t) row → IntegersEnd accepted new
  unfolding integers_verdict integers_read samples_in
  integers_done h new k l fit e w =
      rw (k, eq-eqb (length row) t.s l) (refl, w ∙ rw (l, e, integers_there_lem f t fit k))

-- ---- bits
module _ (f : List ℕ) (t : TraceBlock) (row classes : List ℕ) where
  abbrev pub BitsEnd : Verdict → List ℕ → List ℕ → Type 0
  BitsEnd v new cs =
      (v ≡ bits_verdict t (length row) (length classes))
      × ((new ≡ kept (bits_verdict t (length row) (length classes)) (patterns_in f t) row)
      × (cs ≡ kept (bits_verdict t (length row) (length classes)) (classes_in f t) classes))

  pub bits_kind : of_bits t.code ≡ false → BitsEnd (refused CodeKind 0) row classes
  unfolding bits_verdict
  bits_kind k = rw k (refl, (refl, refl))

  pub bits_long : of_bits t.code ≡ true → (length row ≡ t.s → ⊥) → BitsEnd (refused RowLength 0) row classes
  unfolding bits_verdict
  bits_long k l = rw (k, ne_eqb (length row) t.s l) (refl, (refl, refl))

  pub classes_long : of_bits t.code ≡ true → length row ≡ t.s → (length classes ≡ t.s → ⊥) → BitsEnd (refused RowLength 0) row classes
  unfolding bits_verdict
  classes_long k l m = rw (k, eq-eqb (length row) t.s l, ne_eqb (length classes) t.s m) (refl, (refl, refl))

  pub bits_done : (h : Bool) (new cs : List ℕ) → of_bits t.code ≡ true → length row ≡ t.s → length classes ≡ t.s → Fits (length f) t → h ≡ high_first f
      → new ≡ patterns_read t.code h (data_in f t) row classes → cs ≡ classes_read t.code h (data_in f t) row classes → BitsEnd accepted new cs
  unfolding bits_verdict patterns_read classes_read patterns_in classes_in
  bits_done h new cs k l m fit e v w =
      let b = bits_there_lem f t fit k in
      rw (k, eq-eqb (length row) t.s l, eq-eqb (length classes) t.s m) (refl, (v ∙ rw (l, m, e, b), w ∙ rw (l, m, e, b)))
