-- The first row that is met answers. A row of the refusal table is what it answers: the refusal where its test holds,
-- and else nothing.
-- Assumes nothing.
use Rattle.std.specs.Prelude.{◌≡◌, Bool, List, [], ◌∷◌, ◌++◌, ◌↔◌, ℕ, Ok, Err}
use Rattle.std.proofs.Math.Path.{refl}
use Rattle.std.proofs.Common.{sym, ap, ap₂, ◌∙◌}
use Rattle.std.proofs.Math.Bool.{true, false}
use Rattle.refusal.specs.Verdicts.{refused_not, asked, and_then, accepted}
use Rattle.refusal.specs.declared.Refusal.{Refusal}
use Rattle.refusal.specs.declared.Rule.{Rule}
use Rattle.refusal.specs.declared.Part.{Part}
use Rattle.refusal.specs.Table.{refusal}
use Rattle.refusal.specs.Rows.{Rows, pick, first, ruled}
use Rattle.refusal.specs.Verdicts.{Verdict}

abbrev pub row : Bool → Rule → Part → ℕ → Verdict
row test r part at = pick test (Err (refusal r part at)) accepted

unfoldable pub first_of : List Verdict → Verdict
first_of [] = accepted
first_of (Ok _ ∷ vs) = first_of vs
first_of (Err r ∷ vs) = Err r

-- none of them is met
abbrev pub NoneMet : List Verdict → Type 0
NoneMet [] = Unit {0}
NoneMet (v ∷ vs) = (v ≡ accepted) × NoneMet vs

-- this one is met, and none before it
abbrev pub Met : List Verdict → Refusal → Type 0
Met vs r = (before after : List Verdict) × (vs ≡ before ++ (Err r ∷ after)) × NoneMet before

met_is_first : (vs : List Verdict) (r : Refusal) → first_of vs ≡ Err r → Met vs r
unfolding first_of
met_is_first [] r e = absurd (refused_not r (sym e))
met_is_first (Ok _ ∷ vs) r e =
    let m = met_is_first vs r e in
    (accepted ∷ m.0, m.1, ap (λ (l : List Verdict). accepted ∷ l) m.2, (refl, m.3))
met_is_first (Err q ∷ vs) r e = let s : q ≡ r = cc in ([], vs, ap (λ (y : Refusal). Err y ∷ vs) s, tt)

first_is_met : (before after : List Verdict) (r : Refusal) → NoneMet before → first_of (before ++ (Err r ∷ after)) ≡ Err r
unfolding first_of
first_is_met [] after r n = refl
first_is_met (v ∷ before) after r n = rw n.0 (first_is_met before after r n.1)

-- "input that meets rows of the refusal table gets the first of them in its order, with its place". Rules out a check
-- that answers a later row, or another place.
pub refused_by_the_first : (vs : List Verdict) (r : Refusal) → (first_of vs ≡ Err r) ↔ Met vs r
refused_by_the_first vs r = (met_is_first vs r, λ m. rw m.2 (first_is_met m.0 m.1 r m.3))

pub passed_met_none : (vs : List Verdict) → first_of vs ≡ accepted → NoneMet vs
unfolding first_of
passed_met_none [] e = tt
passed_met_none (Ok _ ∷ vs) e = (refl, passed_met_none vs e)
passed_met_none (Err r ∷ vs) e = absurd (refused_not r e)

pub met_none_passed : (vs : List Verdict) → NoneMet vs → first_of vs ≡ accepted
unfolding first_of
met_none_passed [] n = refl
met_none_passed (v ∷ vs) n = rw n.0 (met_none_passed vs n.1)

-- "no other input is refused". Rules out a refusal that no row gives.
pub accepted_where_none_is_met : (vs : List Verdict) → (first_of vs ≡ accepted) ↔ NoneMet vs
accepted_where_none_is_met vs = (passed_met_none vs, met_none_passed vs)

-- ---- rows one behind the other

pub first_more : (a b : List Verdict) → first_of (a ++ b) ≡ and_then (first_of a) (first_of b)
unfolding first_of and_then
first_more [] b = refl
first_more (Ok _ ∷ a) b = first_more a b
first_more (Err r ∷ a) b = refl

pub first_next : (v : Verdict) (vs : List Verdict) → first_of (v ∷ vs) ≡ and_then v (first_of vs)
unfolding first_of and_then
first_next (Ok _) vs = refl
first_next (Err r) vs = refl

-- ---- checks one behind the other, each with its own rows: the first check that refuses answers by the first row that
-- is met

abbrev pub flat : List (List Verdict) → List Verdict
flat [] = []
flat (vs ∷ rs) = vs ++ flat rs

-- each check is the first of its rows
abbrev pub EachFirst : List Verdict → List (List Verdict) → Type 0
EachFirst [] [] = Unit {0}
EachFirst [] (vs ∷ rs) = ⊥
EachFirst (v ∷ cs) [] = ⊥
EachFirst (v ∷ cs) (vs ∷ rs) = (v ≡ first_of vs) × EachFirst cs rs

pub first_flat : (cs : List Verdict) (rs : List (List Verdict)) → EachFirst cs rs → first_of cs ≡ first_of (flat rs)
first_flat [] [] h = refl
first_flat [] (vs ∷ rs) h = absurd h
first_flat (v ∷ cs) [] h = absurd h
first_flat (v ∷ cs) (vs ∷ rs) h = first_next v cs ∙ ap₂ and_then h.0 (first_flat cs rs h.1) ∙ sym (first_more vs (flat rs))

-- a check of one row
pub first_one : (v : Verdict) → v ≡ first_of (v ∷ [])
unfolding first_of
first_one (Ok _) = refl
first_one (Err r) = refl

pub first_two : (a b : Verdict) → first_of (a ∷ b ∷ []) ≡ and_then a b
unfolding first_of and_then
first_two (Ok _) (Ok _) = refl
first_two (Ok _) (Err r) = refl
first_two (Err r) b = refl

pub first_nothing : first_of [] ≡ accepted
unfolding first_of
first_nothing = refl

pub first_row_lem : (test : Bool) (r : Rule) (p : Part) (at : ℕ) (vs : List Verdict)
    → first_of (row test r p at ∷ vs) ≡ pick test (Err (refusal r p at)) (first_of vs)
unfolding first_of
first_row_lem true r p at vs = refl
first_row_lem false r p at vs = refl

-- rows as tests with their answers
unfoldable pub each : Rows Verdict → List Verdict
each [] = []
each (r ∷ rs) = pick r.0 r.1 accepted ∷ each rs

-- each of them answers a refusal
abbrev pub Refuses : Rows Verdict → Type 0
Refuses [] = Unit {0}
Refuses (r ∷ rs) = ((q : Refusal) × (r.1 ≡ Err q)) × Refuses rs

pub first_each : (rs : Rows Verdict) → Refuses rs → first rs accepted ≡ first_of (each rs)
unfolding first_of each
first_each [] h = refl
first_each ((true, v) ∷ rs) h = rw h.0.1
first_each ((false, v) ∷ rs) h = first_each rs h.1

-- ---- rows of one place: tests with the rules that they break

abbrev pub rows_at : Part → ℕ → Rows Rule → List Verdict
rows_at p at [] = []
rows_at p at (r ∷ rs) = row r.0 r.1 p at ∷ rows_at p at rs

-- the first rule that is broken, in whatever answer: the same rows at a place, and then what comes behind them
pub rule_first : (rs : Rows Rule) (p : Part) (at : ℕ) (v : Verdict) → ruled rs (λ r. Err (refusal r p at)) v ≡ and_then (first_of (rows_at p at rs)) v
unfolding first_of and_then
rule_first [] p at v = refl
rule_first ((true, r) ∷ rs) p at v = refl
rule_first ((false, r) ∷ rs) p at v = rule_first rs p at v

-- ---- an answer: the first row met, or else a value

module _ {A : Type 0} (bad : Refusal → A) where
  pub then_asked : (a b : Verdict) (x : A) → asked bad (and_then a b) x ≡ asked bad a (asked bad b x)
  unfolding and_then
  then_asked (Ok _) b x = refl
  then_asked (Err r) b x = refl

  pub asked_more : (a b : List Verdict) (x : A) → asked bad (first_of (a ++ b)) x ≡ asked bad (first_of a) (asked bad (first_of b) x)
  asked_more a b x = ap (λ (v : Verdict). asked bad v x) (first_more a b) ∙ then_asked (first_of a) (first_of b) x

  pub asked_row : (test : Bool) (r : Rule) (p : Part) (at : ℕ) (vs : List Verdict) (x : A)
      → asked bad (first_of (row test r p at ∷ vs)) x ≡ pick test (bad (refusal r p at)) (asked bad (first_of vs) x)
  unfolding first_of
  asked_row true r p at vs x = refl
  asked_row false r p at vs x = refl

  pub asked_none : (x : A) → asked bad (first_of []) x ≡ x
  unfolding first_of
  asked_none x = refl
