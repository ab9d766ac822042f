-- "D may exceed this; the rest is ignored" (document 01, "The trace block"): two data blocks that agree in the needed
-- bytes of s samples have the same samples, the same patterns and the same classes.
-- Assumes nothing.
use Rattle.std.specs.Prelude.{◌≡◌, refl, Bool, List, ℕ, zero, suc, ◌*◌, ◌/◌, ◌%◌, ◌<◌, take}
use Rattle.std.proofs.Common.{sym, ap, ◌∙◌, arith, eq-eqb}
use Rattle.word.specs.WordLaws.{word_take}
use Rattle.sample.specs.Needed.{needed, width}
use Rattle.sample.specs.Run.{values_from, run_same}
use Rattle.decode.specs.Sample.{sample_of, pattern_of, class_of}
use Rattle.decode.specs.SampleLaws.{sample_needed}

-- sample i of s is told by the needed bytes; codes of no integers have none
sample_told : (code : ℕ) (high : Bool) (block : List ℕ) (s i : ℕ) → (code ≡ 3 → s % 4 ≡ 0) → i < s
    → sample_of code high (take (needed code s) block) i ≡ sample_of code high block i
unfolding sample_of
sample_told zero high block s i g l = refl
sample_told (suc zero) high block s i g l = sample_needed 1 high block (needed 1 s) s i refl l (omega arith)
sample_told (suc (suc zero)) high block s i g l = sample_needed 2 high block (needed 2 s) s i refl l (omega arith)
sample_told (suc (suc (suc zero))) high block s i g l = sample_needed 3 high block (needed 3 s) s i (eq-eqb (s % 4) 0 (g refl)) l (omega arith)
sample_told (suc (suc (suc (suc zero)))) high block s i g l = refl
sample_told (suc (suc (suc (suc (suc zero))))) high block s i g l = refl
sample_told (suc (suc (suc (suc (suc (suc code)))))) high block s i g l = refl

pattern_told : (code : ℕ) (high : Bool) (block : List ℕ) (s i : ℕ) → i < s → pattern_of code high (take (needed code s) block) i ≡ pattern_of code high block i
unfolding pattern_of width needed
pattern_told zero high block s i l = word_take 0 high 0 block (0 * i) (omega arith)
pattern_told (suc zero) high block s i l = word_take 2 high (2 * s) block (2 * i) (omega arith)
pattern_told (suc (suc zero)) high block s i l = word_take 4 high (4 * s) block (4 * i) (omega arith)
pattern_told (suc (suc (suc zero))) high block s i l = word_take 0 high (10 * s / 4) block (0 * i) (omega arith)
pattern_told (suc (suc (suc (suc zero)))) high block s i l = word_take 4 high (4 * s) block (4 * i) (omega arith)
pattern_told (suc (suc (suc (suc (suc zero))))) high block s i l = word_take 8 high (8 * s) block (8 * i) (omega arith)
pattern_told (suc (suc (suc (suc (suc (suc code)))))) high block s i l = word_take 0 high 0 block (0 * i) (omega arith)

module _ (code : ℕ) (high : Bool) (block other : List ℕ) (s : ℕ) (same : take (needed code s) block ≡ take (needed code s) other) where
  pub samples_same : (code ≡ 3 → s % 4 ≡ 0) → values_from (sample_of code high block) 0 s ≡ values_from (sample_of code high other) 0 s
  samples_same g =
      run_same (sample_of code high block) (sample_of code high other) 0 s
      (λ i p l.
      sym (sample_told code high block s i g (omega arith)) ∙ ap (λ (r : List ℕ). sample_of code high r i) same
      ∙ sample_told code high other s i g (omega arith))

  pattern_same : (i : ℕ) → i < s → pattern_of code high block i ≡ pattern_of code high other i
  pattern_same i l = sym (pattern_told code high block s i l) ∙ ap (λ (r : List ℕ). pattern_of code high r i) same ∙ pattern_told code high other s i l

  pub patterns_same : values_from (pattern_of code high block) 0 s ≡ values_from (pattern_of code high other) 0 s
  patterns_same = run_same (pattern_of code high block) (pattern_of code high other) 0 s (λ i p l. pattern_same i (omega arith))

  pub classes_same : values_from (λ i. class_of code (pattern_of code high block i)) 0 s ≡ values_from (λ i. class_of code (pattern_of code high other i)) 0 s
  classes_same =
      run_same (λ i. class_of code (pattern_of code high block i)) (λ i. class_of code (pattern_of code high other i)) 0 s
      (λ i p l. ap (class_of code) (pattern_same i (omega arith)))
