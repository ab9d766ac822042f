-- Two verdicts on the same bytes, the second by an easier check: what the first lets through the second lets through, and
-- what the first refuses the second refuses by the same refusal, or else the refusal is one that is forgiven.
-- Assumes nothing.
use Rattle.std.specs.Prelude.{◌≡◌, Bool, true, false, List, ◌∷◌, ◌⊎◌, Ok, Err}
use Rattle.std.proofs.Common.{refl, inl, inr, ⊎_elim}
use Rattle.refusal.specs.declared.Refusal.{Refusal}
use Rattle.refusal.specs.Rows.{pick}
use Rattle.refusal.specs.Verdicts.{refused_not, and_then, accepted, Verdict}
use Rattle.refusal.specs.FirstRow.{first_of, first_next}

-- F tells which refusals are forgiven
pub record Eased (F : Refusal → Type 0) (v w : Verdict) : Type 0 where
  pub accepted : v ≡ accepted → w ≡ accepted
  pub refused : (r : Refusal) → v ≡ Err r → (w ≡ Err r) ⊎ F r

module _ {F : Refusal → Type 0} where
  -- the same verdict, and a refusal that is forgiven
  pub eased_same : (v : Verdict) → Eased F v v
  eased_same v = record { accepted = λ e. e; refused = λ r e. inl e }

  pub eased_to : {v w x : Verdict} → w ≡ x → Eased F v x → Eased F v w
  eased_to e h = rw e h

  pub forgiven : (r : Refusal) (w : Verdict) → F r → Eased F (Err r) w
  forgiven r w g =
      record { accepted = λ (e : Err r ≡ accepted). absurd (refused_not r e); refused = λ q e. (let s : r ≡ q = cc in inr (rw (← s) g)) }

  -- one check behind the other
  pub eased_then : (v w a b : Verdict) → Eased F v w → Eased F a b → Eased F (and_then v a) (and_then w b)
  unfolding and_then
  eased_then (Ok _) w a b h k = let e : w ≡ accepted = h.accepted refl in rw e k
  eased_then (Err r) w a b h k =
      ⊎_elim (λ (e : w ≡ Err r). rw e (eased_same (Err r))) (λ (g : F r). forgiven r _ g) (h.refused r refl)

  pub eased_next : {v w : Verdict} (vs ws : List Verdict) → Eased F v w → Eased F (first_of vs) (first_of ws) → Eased F (first_of (v ∷ vs)) (first_of (w ∷ ws))
  eased_next {v} {w} vs ws h k = rw (first_next v vs, first_next w ws) (eased_then v w (first_of vs) (first_of ws) h k)

-- the same test before both
pub eased_pick : {F : Refusal → Type 0} (t : Bool) (v w a b : Verdict) → Eased F v w → Eased F a b → Eased F (pick t v a) (pick t w b)
eased_pick true v w a b h k = h
eased_pick false v w a b h k = k

-- more may be forgiven
pub eased_more : {F G : Refusal → Type 0} {v w : Verdict} → ((r : Refusal) → F r → G r) → Eased F v w → Eased G v w
eased_more m h = record { accepted = h.accepted; refused = λ r e. ⊎_elim (λ x. inl x) (λ g. inr (m r g)) (h.refused r e) }
