-- A step of the check by its parts, as code goes through them: the frame, and where there is one what is judged in it.
-- Assumes nothing.
use Rattle.std.specs.Prelude.{◌≡◌, refl, Bool, List, ℕ, Result, Ok, Err, Option, Some, None}
use Rattle.std.proofs.Common.{sym, ap, ◌∙◌}
use Rattle.refusal.specs.declared.Rule.{Rule}
use Rattle.refusal.specs.declared.Part.{Part}
use Rattle.refusal.specs.declared.Refusal.{Refusal}
use Rattle.refusal.specs.Verdicts.{placed, placed_ok, placed_err}
use Rattle.text.specs.declared.Manner.{Manner}
use Rattle.strings.specs.Strings.{body, frame_of, judged_of, on_frame, step_of}
use Rattle.strings.specs.Walks.{InFrame, in_frame}

module _ (how : Manner) (high : Bool) (t u : List ℕ) (p : Part) (prev l : List ℕ) (at : ℕ) {w : Result (Option ℕ) Rule} (f : w ≡ frame_of how high t l) where
  pub step_broken : (r : Refusal) → Err r ≡ placed w p at → Err r ≡ step_of how high t u p prev l at
  unfolding step_of on_frame
  step_broken r e = let b = placed_err w p at r (sym e) in ap Err b.2 ∙ rw (sym f ∙ b.1)

  pub step_ended : Ok None ≡ placed w p at → Ok None ≡ step_of how high t u p prev l at
  unfolding step_of on_frame
  step_ended e = rw (sym f ∙ placed_ok w p at None (sym e))

  module _ (o : ℕ) (e : Ok (Some o) ≡ placed w p at) where
    framed_here : frame_of how high t l ≡ Ok (Some o)
    framed_here = sym f ∙ placed_ok w p at (Some o) (sym e)

    pub step_frame : InFrame high t l o
    step_frame = in_frame how high t l o framed_here

    module _ {j : Result ℕ Rule} (g : j ≡ judged_of how u prev (body t o l)) where
      pub step_wrong : (r : Refusal) → Err r ≡ placed j p at → Err r ≡ step_of how high t u p prev l at
      unfolding step_of on_frame
      step_wrong r k = let b = placed_err j p at r (sym k) in ap Err b.2 ∙ rw (framed_here, sym g ∙ b.1)

      pub step_next : (n : ℕ) → Ok n ≡ placed j p at → Ok (Some (o, n)) ≡ step_of how high t u p prev l at
      unfolding step_of on_frame
      step_next n k = rw (framed_here, sym g ∙ placed_ok j p at n (sym k))
