-- An area that the check lets through, string by string: a string of it has passed its rows, and what stands behind it is
-- let through too. The area ends at e of f.
-- Assumes nothing.
use Rattle.std.specs.Prelude.{◌≡◌, refl, Bool, List, [], ◌∷◌, ℕ, suc, ◌+◌, ◌-◌, ◌≤◌, drop, Ok, Err, Some, None}
use Rattle.std.proofs.Math.Path.{ap}
use Rattle.std.proofs.Common.{◌∙◌, arith}
use Rattle.std.proofs.Math.ListN.{length, take}
use Rattle.std.proofs.Math.Seq.{take-take}
use Rattle.word.specs.Part.{part, part_drop}
use Rattle.refusal.specs.Rows.{Clear}
use Rattle.refusal.specs.Verdicts.{refused_not, accepted}
use Rattle.refusal.specs.declared.Part.{Part}
use Rattle.refusal.specs.declared.Refusal.{Refusal}
use Rattle.text.specs.declared.Manner.{Manner}
use Rattle.text.specs.declared.Manner.TheVariants.{Strict}
use Rattle.strings.specs.Strings.{body, key_len, key_of, frame_of, text_rows, judged_of, step_of, strings_from, on_text, place_of, places_from, key_in}
use Rattle.strings.specs.Walks.{in_frame, next_fits, done_frame, judged_clear, length_body, key_len_le}

-- a string of o bytes at `at`, its keyword n bytes long
pub record Followed (how : Manner) (high : Bool) (t u : List ℕ) (p : Part) (f : List ℕ) (e m at : ℕ) (prev : List ℕ) (o n : ℕ) : Type 0 where
  pub rest : strings_from how m high t u p (part (at + 2) (at + 2 + n) f) (part (at + o) e f) (at + o) ≡ accepted
  pub places : places_from how (suc m) high t (part at e f) at ≡ place_of t o (part at e f) at ∷ places_from how m high t (part (at + o) e f) (at + o)
  pub own_key : key_in f (place_of t o (part at e f) at) ≡ part (at + 2) (at + 2 + n) f
  -- its keyword, and that no row on its text was met
  pub key : key_of (body t o (part at e f)) ≡ part (at + 2) (at + 2 + n) f
  pub clear : Clear (text_rows how u prev (body t o (part at e f)))

module _ (how : Manner) (high : Bool) (t u : List ℕ) (p : Part) (f : List ℕ) (e : ℕ) where
  module _ (fits : e ≤ length f) (m at : ℕ) (prev : List ℕ) (o n : ℕ) (h : step_of how high t u p prev (part at e f) at ≡ Ok (Some (o, n))) where
    abbrev l : List ℕ
    l = part at e f

    abbrev b : List ℕ
    b = body t o l

  -- an area that was let through has no string that is refused
  pub not_bad : (m at : ℕ) (prev : List ℕ) (r : Refusal) → step_of how high t u p prev (part at e f) at ≡ Err r
      → strings_from how (suc m) high t u p prev (part at e f) at ≡ accepted → ⊥
  unfolding strings_from
  not_bad m at prev r h q = refused_not r (rw h at q)

  -- where the list ends there is no place more
  pub none_left : (m at : ℕ) (prev : List ℕ) → step_of how high t u p prev (part at e f) at ≡ Ok None → places_from how (suc m) high t (part at e f) at ≡ []
  unfolding places_from on_text
  none_left m at prev h = rw (done_frame how high t u p prev (part at e f) at h)

-- in the strict manner it has an end mark
pub no_fuel : (high : Bool) (t u : List ℕ) (p : Part) (f : List ℕ) (e at : ℕ) (prev : List ℕ) → strings_from Strict 0 high t u p prev (part at e f) at ≡ accepted
    → ⊥
unfolding strings_from
no_fuel high t u p f e at prev q = refused_not _ q
