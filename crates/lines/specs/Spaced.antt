-- A value with its tabs as spaces, stored byte by byte: a law for each turn.
-- Assumes nothing.
use Rattle.std.specs.Prelude.{◌≡◌, refl, List, [], ◌∷◌, ℕ, zero, suc, ◌+◌, ◌≤◌, ◌<◌, length, get_or, drop, set}
use Rattle.std.proofs.Common.{sym, ap, ◌∙◌, arith, drop_of_length-le}
use Rattle.word.specs.Put.{put, put_none, copy_turn}
use Rattle.lines.specs.Lines.{space, spaced}
use Rattle.word.specs.Wrote.{Wrote}

pub length_spaced : (v : List ℕ) → length (spaced v) ≡ length v
unfolding spaced
length_spaced [] = refl
length_spaced (b ∷ bs) = ap suc (length_spaced bs)

pub spaced_at : (v : List ℕ) (i : ℕ) → i < length v → get_or (spaced v) i 0 ≡ space (get_or v i 0)
unfolding spaced
spaced_at [] i h = absurd (omega arith)
spaced_at (b ∷ bs) zero h = refl
spaced_at (b ∷ bs) (suc i) h = spaced_at bs i (omega arith)

module _ (v out₀ out : List ℕ) (at i : ℕ) (e : put out (at + i) (drop i (spaced v)) ≡ put out₀ at (spaced v)) where
  pub spaced_turn : (b : ℕ) → i < length v → b ≡ space (get_or v i 0) → put (set out (at + i) b) (at + (i + 1)) (drop (i + 1) (spaced v)) ≡ put out₀ at (spaced v)
  spaced_turn b h w =
      let l = length_spaced v in
      let q : b ≡ get_or (spaced v) i 0 = w ∙ sym (spaced_at v i h) in
      rw q (copy_turn 0 (spaced v) out at i (omega arith)) ∙ e

  pub spaced_over : i ≤ length v → length v ≤ i → Wrote out₀ at (spaced v) (at + i) out
  spaced_over h k =
      let l = length_spaced v in
      let d : drop i (spaced v) ≡ [] = drop_of_length-le (spaced v) {i = i} (omega arith) in
      (omega arith, sym (put_none out (at + i)) ∙ sym (ap (λ (q : List ℕ). put out (at + i) q) d) ∙ e)
