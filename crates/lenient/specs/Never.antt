-- "17 and 34 are never given here" (document 02 §11): the rules by which the lenient check refuses, row by row.
-- Assumes nothing.
use Rattle.std.specs.Prelude.{◌≡◌, Bool, true, not, ◌||◌, [], ◌∷◌, ℕ, eqb, Result, Ok, Err, Option, Some, None}
use Rattle.refusal.specs.declared.Rule.{Rule}
use Rattle.refusal.specs.declared.Refusal.{Refusal}
use Rattle.refusal.specs.Table.{number_of}
use Rattle.refusal.specs.Rows.{Rows}
use Rattle.refusal.specs.Verdicts.{Verdict}

-- the rules that may be given: neither 17 nor 34
abbrev pub given_here : Rule → Bool
given_here r = not (eqb (number_of r) 17 || eqb (number_of r) 34)

-- ---- a verdict that refuses by such a rule alone

pub record Gives (v : Verdict) : Type 0 where
  pub rule : (r : Refusal) → v ≡ Err r → given_here r.rule ≡ true

-- rows with their answers
abbrev pub AllGive : Rows Verdict → Type 0
AllGive [] = Unit {0}
AllGive (r ∷ rs) = Gives r.1 × AllGive rs

-- ---- the rows of a string

abbrev pub FrameGives : Result (Option ℕ) Rule → Type 0
FrameGives (Ok None) = Unit {0}
FrameGives (Ok (Some o)) = Unit {0}
FrameGives (Err r) = given_here r ≡ true

abbrev pub TextGives : Result ℕ Rule → Type 0
TextGives (Ok n) = Unit {0}
TextGives (Err r) = given_here r ≡ true
