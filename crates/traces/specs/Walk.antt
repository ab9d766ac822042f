-- The walk over a file as the code goes it: each step answers where it goes on, or the refusal. Row 8 of a trace is asked
-- at the end of what stands before it, so the first pointer is judged once, where image/Image has it twice. The laws say
-- that these are the traces of Traces.
-- Assumes nothing.
use Rattle.std.specs.Prelude.{◌≡◌, refl, Bool, true, false, List, length, leb, eqb, Result, Ok, Err}
use Rattle.std.proofs.Math.Path.{sym}
use Rattle.std.proofs.Common.{ap, ◌∙◌, leb-true, leb-false, ne_eqb}
use Prim.Native.Nat.{ℕ, zero, suc, ◌+◌, ◌-◌, ◌≤◌, ◌<◌}
use Rattle.std.proofs.Math.Nat.{lt_of_not-le}
use Rattle.std.proofs.Math.Decide.{dec_le}
use native.Mathlib.Omega.{arith}
use Rattle.refusal.specs.Rows.{pick, pick_second}
use Rattle.refusal.specs.Verdicts.{asked, and_then, accepted}
use Rattle.refusal.specs.FirstRow.{first_of, first_next, first_two}
use Rattle.refusal.specs.declared.Part.TheVariants.{File}
use Rattle.refusal.specs.declared.Refusal.{Refusal}
use Rattle.text.specs.declared.Manner.{Manner}
use Rattle.block.specs.Block.{pointer_of, end_at, pointer_row}
use Rattle.block.specs.BlockLaws.{pointed}
use Rattle.trace.specs.Trace.{area_verdict, block_checks, chosen_at, traced}
use Rattle.trace.specs.TraceLaws.{not_through, was_through}
use Rattle.traces.specs.Traces.{with_channel, trace_of, traces_from}
use Rattle.refusal.specs.Verdicts.{Verdict}

-- behind what ends at prev: row 8 of the trace k, and where it begins; behind the last of n traces, the image's end
abbrev pub next_of : Bool → List ℕ → ℕ → ℕ → ℕ → Result ℕ Refusal
next_of high f n k prev =
    pick (leb n k) (Ok (length f)) (asked Err (pointer_row (length f) k prev (pointer_of high f k)) (Ok (pointer_of high f k)))

-- the traces from k on, so many of them, where row 8 of the first was asked
unfoldable pub pointed_from : Manner → Bool → List ℕ → List ℕ → List ℕ → ℕ → ℕ → Verdict
pointed_from how high t u f zero k = accepted
pointed_from how high t u f (suc left) k =
    and_then (first_of (block_checks how high t u f (with_channel how high t f) k (pointer_of high f k)))
    (traces_from how high t u f left (k + 1) (end_at high f (pointer_of high f k)))

-- a pointer has 32 bits
abbrev pub InWord : Result ℕ Refusal → Type 0
InWord (Ok p) = p < 4294967296
InWord (Err r) = Unit {0}

-- p is where the trace k begins, if there is one, and its first 32 bytes are there
abbrev pub Stands : Bool → List ℕ → ℕ → ℕ → ℕ → Type 0
Stands high f n k p = k < n → (p ≡ pointer_of high f k) × (p + 32 ≤ length f) × (p < 4294967296)

-- ---- what a step has shown

stopped : (v : Verdict) (p : ℕ) (r : Refusal) → asked Err v (Ok p) ≡ Err r → v ≡ Err r
stopped (Ok _) p r e = let z : ◌≡◌ {A = ℕ} 0 1 = cc in absurd (omega arith)
stopped (Err q) p r e = let s : q ≡ r = cc in ap Err s

went_on : (v : Verdict) (p q : ℕ) → asked Err v (Ok p) ≡ Ok q → (v ≡ accepted) × (p ≡ q)
went_on (Ok _) p q e = (refl, cc)
went_on (Err r) p q e = let z : ◌≡◌ {A = ℕ} 0 1 = cc in absurd (omega arith)

-- ---- a trace: its pointer, then its block
module _ (how : Manner) (high : Bool) (t u f : List ℕ) (k prev : ℕ) where
  trace_bad : (r : Refusal) → pointer_row (length f) k prev (pointer_of high f k) ≡ Err r → trace_of how high t u f k prev ≡ Err r
  unfolding trace_of and_then
  trace_bad r h = first_next _ _ ∙ rw h

  -- a trace whose pointer was judged is its other checks
  trace_pointed : pointer_row (length f) k prev (pointer_of high f k) ≡ accepted
      → first_of (block_checks how high t u f (with_channel how high t f) k (pointer_of high f k)) ≡ trace_of how high t u f k prev
  unfolding trace_of and_then
  trace_pointed h = sym (first_next _ _ ∙ rw h)

-- ---- where the walk goes on
module _ (high : Bool) (f : List ℕ) (n k prev : ℕ) where
  -- row 8 was asked and refused; or it was passed, or there is no trace k
  pub next_refused : (r : Refusal) → next_of high f n k prev ≡ Err r → (k < n) × (pointer_row (length f) k prev (pointer_of high f k) ≡ Err r)
  next_refused r e = go (leb n k) _ refl e
    where
      go : (b : Bool) (v : Verdict) → leb n k ≡ b → pick b (Ok (length f)) (asked Err v (Ok (pointer_of high f k))) ≡ Err r
          → (k < n) × (v ≡ Err r)
      go true v q h = let z : ◌≡◌ {A = ℕ} 0 1 = cc in absurd (omega arith)
      go false v q h = (leb-false n k q, stopped v _ r h)

  pub next_passed : (p : ℕ) → next_of high f n k prev ≡ Ok p
      → (k < n → (pointer_row (length f) k prev (pointer_of high f k) ≡ accepted) × (pointer_of high f k ≡ p)) × (n ≤ k → length f ≡ p)
  next_passed p e = go (leb n k) _ refl e
    where
      go : (b : Bool) (v : Verdict) → leb n k ≡ b → pick b (Ok (length f)) (asked Err v (Ok (pointer_of high f k))) ≡ Ok p
          → (k < n → (v ≡ accepted) × (pointer_of high f k ≡ p)) × (n ≤ k → length f ≡ p)
      go true v q h = let l = leb-true n k q in ((λ s. absurd (omega arith)), λ _. cc)
      go false v q h = let l = leb-false n k q in ((λ _. went_on v _ p h), λ s. absurd (omega arith))

  -- so p is where the trace k begins, and no place goes back or beyond the end
  pub next_stands : (p : ℕ) (x : Result ℕ Refusal) → x ≡ next_of high f n k prev → (k < n → InWord x) → x ≡ Ok p → Stands high f n k p
  next_stands p x e w q l =
      let s = (next_passed p (sym e ∙ q)).0 l in
      (sym s.1, rw s.1 at (pointed _ k prev _ s.0).fits, rw q at (w l))

  pub next_within : (p : ℕ) → next_of high f n k prev ≡ Ok p → prev ≤ length f → (prev ≤ p) × (p ≤ length f)
  next_within p e h =
      elim (dec_le n k) [
        | yes l ↦ (let z = (next_passed p e).1 l in (omega arith, omega arith))
        | no l ↦
            (let s = (next_passed p e).0 (lt_of_not-le l) in
            let q = pointed _ k prev _ s.0 in
            (omega (arith, q.behind, s.1), omega (arith, q.fits, s.1)))
      ]

  module _ (how : Manner) (t u : List ℕ) where
    -- the traces from k on, behind prev: its refusal, or what they are where row 8 of the first was asked
    pub next_bad : (r : Refusal) → next_of high f n k prev ≡ Err r → Err r ≡ traces_from how high t u f (n - k) k prev
    unfolding traces_from and_then
    next_bad r e =
        let s = next_refused r e in
        let z : n - k ≡ suc (n - (k + 1)) = omega (arith, s.0) in
        sym (rw (z, trace_bad how high t u f k prev r s.1))

    pub next_past : (p : ℕ) → next_of high f n k prev ≡ Ok p → pointed_from how high t u f (n - k) k ≡ traces_from how high t u f (n - k) k prev
    unfolding traces_from pointed_from
    next_past p e =
        elim (dec_le n k) [
          | yes l ↦ (let z : n - k ≡ 0 = omega arith in rw z)
          | no l ↦
              (let s = (next_passed p e).0 (lt_of_not-le l) in
              let z : n - k ≡ suc (n - (k + 1)) = omega (arith, lt_of_not-le l) in
              rw (z, trace_pointed how high t u f k prev s.0))
        ]

-- ---- a turn of the walk: the trace k at p, of which row 8 was asked; w is what was chosen there

-- that is as trace 0 has it
pub chosen_first : (how : Manner) (high : Bool) (t f : List ℕ) (with : Bool) (k p : ℕ) → p ≡ pointer_of high f k → (0 < k → with ≡ with_channel how high t f)
    → chosen_at how high t f with k p ≡ with_channel how high t f
chosen_first how high t f with zero p e h = rw e
chosen_first how high t f with (suc k) p e h = rw (ne_eqb (suc k) 0 (omega arith)) (h (omega arith))

module _ (how : Manner) (high : Bool) (t u f : List ℕ) (n k p : ℕ) (low : k < n) (here : p ≡ pointer_of high f k) (w : Bool)
    (chose : w ≡ with_channel how high t f) where
  turn : pointed_from how high t u f (n - k) k
      ≡ and_then (first_of (block_checks how high t u f w k p)) (traces_from how high t u f (n - (k + 1)) (k + 1) (end_at high f p))
  unfolding pointed_from
  turn = let e : n - k ≡ suc (n - (k + 1)) = omega arith in rw (e, here, chose)

  pub turn_bad : (r : Refusal) → traced how high t u f w k p ≡ Err r → Err r ≡ pointed_from how high t u f (n - k) k
  unfolding and_then
  turn_bad r h = sym (turn ∙ rw (not_through (first_of (block_checks how high t u f w k p)) (end_at high f p) w r h))

  pub turn_past : (e : ℕ) (all : Bool) → traced how high t u f w k p ≡ Ok (e, all)
      → (traces_from how high t u f (n - (k + 1)) (k + 1) e ≡ pointed_from how high t u f (n - k) k) × (all ≡ with_channel how high t f)
  unfolding and_then
  turn_past e all h =
      let g = was_through (first_of (block_checks how high t u f w k p)) (end_at high f p) w e all h in
      (sym (turn ∙ rw (g.0, g.1)), sym g.2 ∙ chose)

pub walk_over : (how : Manner) (high : Bool) (t u f : List ℕ) (n k : ℕ) → n ≤ k → accepted ≡ pointed_from how high t u f (n - k) k
unfolding pointed_from
walk_over how high t u f n k h = let e : n - k ≡ 0 = omega arith in rw e
