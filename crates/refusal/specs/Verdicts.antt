-- What a verdict tells, and checks one behind the other. Assumes nothing.
use Rattle.std.specs.Prelude.{◌≡◌, refl, Bool, true, false, ℕ, Result, Ok, Err}
use Rattle.std.proofs.Common.{ap, arith}
use Rattle.refusal.specs.declared.Rule.{Rule}
use Rattle.refusal.specs.declared.Part.{Part}
use Rattle.refusal.specs.declared.Refusal.{Refusal}
use Rattle.refusal.specs.Table.{refusal}

-- what a check answers: nothing is wrong, or the refusal
abbrev pub Verdict : Type 0
Verdict = Result (Unit {0}) Refusal

abbrev pub accepted : Verdict
accepted = Ok tt

abbrev pub is_accepted : Verdict → Bool
is_accepted (Ok _) = true
is_accepted (Err r) = false

pub refused_not : (r : Refusal) → Err r ≡ accepted → ⊥
refused_not r e = let z : ◌≡◌ {A = ℕ} 0 1 = cc in omega arith

-- the refusal, or else the answer
abbrev pub asked : {A : Type 0} → (Refusal → A) → Verdict → A → A
asked bad (Ok _) a = a
asked bad (Err r) a = bad r

-- an answer that has a rule where it has no value: the refusal of the part p at a place
abbrev pub placed : {A : Type 0} → Result A Rule → Part → ℕ → Result A Refusal
placed (Ok a) p at = Ok a
placed (Err r) p at = Err (refusal r p at)

pub placed_ok : {A : Type 0} (x : Result A Rule) (p : Part) (at : ℕ) (a : A) → placed x p at ≡ Ok a → x ≡ Ok a
placed_ok (Ok b) p at a e = let s : b ≡ a = cc in ap Ok s
placed_ok (Err r) p at a e = let z : ◌≡◌ {A = ℕ} 0 1 = cc in absurd (omega arith)

pub placed_err : {A : Type 0} (x : Result A Rule) (p : Part) (at : ℕ) (q : Refusal) → placed x p at ≡ Err q → (r : Rule) × (x ≡ Err r) × (q ≡ refusal r p at)
placed_err (Ok b) p at q e = let z : ◌≡◌ {A = ℕ} 0 1 = cc in absurd (omega arith)
placed_err (Err r) p at q e = (r, refl, cc)

-- one check, and where it accepts the other
unfoldable pub and_then : Verdict → Verdict → Verdict
and_then (Ok _) v = v
and_then (Err r) v = Err r

pub and_then_lem : (a b : Verdict) → and_then a b ≡ accepted → (a ≡ accepted) × (b ≡ accepted)
unfolding and_then
and_then_lem (Ok _) b h = (refl, h)
and_then_lem (Err r) b h = absurd (refused_not r h)

pub then_and : (a b : Verdict) → a ≡ accepted → b ≡ accepted → and_then a b ≡ accepted
unfolding and_then
then_and a b h k = rw (h, k)

pub then_assoc : (a b c : Verdict) → and_then (and_then a b) c ≡ and_then a (and_then b c)
unfolding and_then
then_assoc (Ok _) b c = refl
then_assoc (Err r) b c = refl

-- equal pairs have equal parts
pub pair_parts : {A B : Type 0} {a c : A} {b d : B} → ◌≡◌ {A = A × B} (a, b) (c, d) → (a ≡ c) × (b ≡ d)
pair_parts e = (ap (λ p. p.0) e, ap (λ p. p.1) e)
