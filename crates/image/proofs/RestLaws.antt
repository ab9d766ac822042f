-- Theorems on what specs/Rest defines. They stand here, as a wrong definition there is to be refused and not to be unread.
-- Assumes nothing.
use Rattle.std.specs.Prelude.{◌≡◌, Bool, List, length, eqb, Ok, Err}
use Rattle.std.proofs.Math.Path.{sym}
use Rattle.std.proofs.Common.{◌∙◌, ne_eqb}
use Prim.Native.Nat.{ℕ, zero, suc, ◌+◌, ◌-◌}
use native.Mathlib.Omega.{arith}
use Rattle.refusal.specs.Rows.{pick_second}
use Rattle.refusal.specs.Verdicts.{and_then, accepted}
use Rattle.refusal.specs.FirstRow.{first_next, first_two}
use Rattle.refusal.specs.declared.Part.TheVariants.{File}
use Rattle.refusal.specs.declared.Refusal.{Refusal}
use Rattle.text.specs.declared.Manner.{Manner}
use Rattle.block.specs.Block.{pointer_of, pointer_row}
use Rattle.trace.specs.Trace.{area_verdict}
use Rattle.traces.specs.Traces.{traces_from}
use Rattle.traces.specs.Walk.{next_of, pointed_from, next_refused, next_passed, next_past}
use Rattle.image.specs.Image.{rest_of}

module _ (how : Manner) (high : Bool) (t u f : List ℕ) (m : ℕ) where
  rest_filled : (n : ℕ) → rest_of how high t u f m (suc n)
      ≡ and_then (pointer_row (length f) 0 (32 + m) (pointer_of high f 0))
      (and_then (area_verdict how high t u f File (32 + m) (pointer_of high f 0)) (traces_from how high t u f (suc n) 0 (32 + m)))
  unfolding rest_of
  rest_filled n =
      pick_second (eqb (suc n) 0) _ _ (ne_eqb (suc n) 0 (λ z. absurd (omega arith)))
      ∙ first_next (pointer_row (length f) 0 (32 + m) (pointer_of high f 0)) _
      ∙ rw (first_two (area_verdict how high t u f File (32 + m) (pointer_of high f 0)) (traces_from how high t u f (suc n) 0 (32 + m)))

  pub rest_pointer : (n : ℕ) (r : Refusal) → next_of high f n 0 (32 + m) ≡ Err r → Err r ≡ rest_of how high t u f m n
  unfolding and_then
  rest_pointer zero r e = let s = next_refused high f 0 0 (32 + m) r e in absurd (omega (arith, s.0))
  rest_pointer (suc n) r e = let s = next_refused high f (suc n) 0 (32 + m) r e in sym (rest_filled n ∙ rw s.1)

  pub rest_strings : (n p : ℕ) (r : Refusal) → next_of high f n 0 (32 + m) ≡ Ok p → area_verdict how high t u f File (32 + m) p ≡ Err r
      → Err r ≡ rest_of how high t u f m n
  unfolding rest_of and_then
  rest_strings zero p r e h = let s = (next_passed high f 0 0 (32 + m) p e).1 (omega arith) in sym (rw (s, h))
  rest_strings (suc n) p r e h =
      let s = (next_passed high f (suc n) 0 (32 + m) p e).0 (omega arith) in
      sym (rest_filled n ∙ rw (s.0, s.1, h))

  pub rest_traces : (n p : ℕ) → next_of high f n 0 (32 + m) ≡ Ok p → area_verdict how high t u f File (32 + m) p ≡ accepted
      → pointed_from how high t u f n 0 ≡ rest_of how high t u f m n
  unfolding rest_of pointed_from and_then
  rest_traces zero p e h = let s = (next_passed high f 0 0 (32 + m) p e).1 (omega arith) in sym (rw (s, h))
  rest_traces (suc n) p e h =
      let s = (next_passed high f (suc n) 0 (32 + m) p e).0 (omega arith) in
      let z : suc n - 0 ≡ suc n = omega arith in
      rw z at (next_past high f (suc n) 0 (32 + m) how t u p e) ∙ sym (rest_filled n ∙ rw (s.0, s.1, h))
