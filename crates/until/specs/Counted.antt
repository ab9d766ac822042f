-- A walk along all strings ends at none of them, and where no row was met it has passed as many as the area has places.
-- Assumes nothing.
use Rattle.std.specs.Prelude.{◌≡◌, Bool, true, false, length, take, drop, eqb, Result, Ok, Err, Option, Some, None}
use Rattle.std.proofs.Math.Path.{refl}
use Rattle.std.proofs.Common.{sym, ◌∙◌, arith, ne_eqb}
use mathlib.Core.List.{List, [], ◌∷◌}
use Prim.Native.Nat.{ℕ, zero, suc, ◌+◌}
use Rattle.refusal.specs.Rows.{pick}
use Rattle.refusal.specs.declared.Part.{Part}
use Rattle.text.specs.declared.Manner.TheVariants.{Strict}
use Rattle.strings.specs.declared.Place.{Place}
use Rattle.strings.specs.Strings.{on_text, step_of, place_of, places_from, places_of}
use Rattle.strings.specs.Walks.{next_fits, done_frame}
use Rattle.until.specs.declared.Walked.{Walked}
use Rattle.until.specs.Until.{to_end, on_step, walk_from, walk_of}
use Rattle.refusal.specs.declared.Refusal.{Refusal}
use Rattle.until.specs.declared.Walked.TheVariants as walked

-- as many as so many before and these
abbrev Counts : ℕ → List Place → Result Walked Refusal → Type 0
Counts j ss (Ok (walked.At s)) = ⊥
Counts j ss (Ok (walked.Over c)) = c ≡ j + length ss
Counts j ss (Err r) = Unit {0}

module _ (high : Bool) (t u : List ℕ) (p : Part) where
  later : (j : ℕ) (s : Place) (ss : List Place) (w : Result Walked Refusal) → Counts (j + 1) ss w → Counts j (s ∷ ss) w
  later j s ss (Ok (walked.At r)) h = h
  later j s ss (Ok (walked.Over c)) h = omega (arith, h)
  later j s ss (Err r) h = tt

  from_counts : (m j : ℕ) (prev l : List ℕ) (at : ℕ) → Counts j (places_from Strict m high t l at) (walk_from to_end m high t u p j prev l at)
  unfolding walk_from places_from on_text
  from_counts zero j prev l at = tt
  from_counts (suc m) j prev l at =
      go (step_of Strict high t u p prev l at) refl (λ o n. from_counts m (j + 1) (take n (drop 2 l)) (drop o l) (at + o))
    where
      go : (st : Result (Option (ℕ × ℕ)) Refusal) → step_of Strict high t u p prev l at ≡ st
          → ((o n : ℕ) → Counts (j + 1) (places_from Strict m high t (drop o l) (at + o))
          (walk_from to_end m high t u p (j + 1) (take n (drop 2 l)) (drop o l) (at + o)))
          → Counts j (places_from Strict (suc m) high t l at)
          (on_step st Err (Ok (walked.Over j)) (λ o n. walk_from to_end m high t u p (j + 1) (take n (drop 2 l)) (drop o l) (at + o)))
      go (Ok None) h again = rw (done_frame Strict high t u p prev l at h) (omega arith)
      go (Err r) h again = tt
      go (Ok (Some (o, n))) h again =
          rw (next_fits Strict high t u p prev l at o n h).0
          (later j (place_of t o l at) (places_from Strict m high t (drop o l) (at + o))
          (walk_from to_end m high t u p (j + 1) (take n (drop 2 l)) (drop o l) (at + o)) (again o n))

  of_counts : (l : List ℕ) (at : ℕ) → Counts 0 (places_of Strict high t l at) (walk_of to_end high t u p l at)
  unfolding walk_of places_of places_from
  of_counts l at = go (length l) (from_counts (length l) 0 [] l at)
    where
      go : (m : ℕ) → Counts 0 (places_from Strict m high t l at) (walk_from to_end m high t u p 0 [] l at)
          → Counts 0 (places_from Strict m high t l at) (pick (eqb m 0) (Ok (walked.Over 0)) (walk_from to_end m high t u p 0 [] l at))
      go zero h = refl
      go (suc m) h = rw (ne_eqb (suc m) 0 (λ z. absurd (omega (arith, z)))) h

  pub counted : (l : List ℕ) (at c : ℕ) → walk_of to_end high t u p l at ≡ Ok (walked.Over c) → c ≡ length (places_of Strict high t l at)
  counted l at c e = go (walk_of to_end high t u p l at) e (of_counts l at)
    where
      go : (w : Result Walked Refusal) → w ≡ Ok (walked.Over c) → Counts 0 (places_of Strict high t l at) w → c ≡ length (places_of Strict high t l at)
      go (Ok (walked.At s)) q h = absurd h
      go (Ok (walked.Over d)) q h = let s : d ≡ c = cc in omega (arith, h)
      go (Err r) q h = let z : ◌≡◌ {A = ℕ} 0 1 = cc in absurd (omega arith)

  pub never_at : (l : List ℕ) (at : ℕ) (s : Place) → walk_of to_end high t u p l at ≡ Ok (walked.At s) → ⊥
  never_at l at s e = go (walk_of to_end high t u p l at) e (of_counts l at)
    where
      go : (w : Result Walked Refusal) → w ≡ Ok (walked.At s) → Counts 0 (places_of Strict high t l at) w → ⊥
      go (Ok (walked.At r)) q h = h
      go (Ok (walked.Over d)) q h = let z : ◌≡◌ {A = ℕ} 0 1 = cc in absurd (omega arith)
      go (Err r) q h = let z : ◌≡◌ {A = ℕ} 0 1 = cc in absurd (omega arith)
