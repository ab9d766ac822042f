-- Theorems on what specs/Locations defines. They stand here, as a wrong definition there is to be refused and not to be unread.
-- Assumes nothing.
use Rattle.std.specs.Prelude.{◌≡◌, refl, List, [], ◌∷◌, ◌↔◌, ℕ, Result, Ok, Err}
use Rattle.std.proofs.Common.{sym, ap, ◌∙◌, arith}
use Rattle.location.specs.declared.Coordinates.{Coordinates}
use Rattle.location.specs.Location.{coordinate_of, alone, together, on_coordinate, one_of, three_of, located, location_of}
use Rattle.location.specs.Values.{Value, Parted, parted, one_split}
use Rattle.demands_rows.specs.Locations.{Says, Says.one, Says.three}
use Rattle.refusal.specs.declared.Refusal.{Refusal}
use Rattle.location.specs.declared.Coordinate.{Coordinate}

said : (vs : List Value) (c : Coordinates) → Says vs c → located vs ≡ Ok c
unfolding located one_of three_of
said vs c (one a) = rw a
said vs c (three a b d) = rw (a, b, d)

never_refused : {r : Refusal} {c : Coordinates} → Err r ≡ Ok c → ⊥
never_refused e = let z : ◌≡◌ {A = ℕ} 0 1 = cc in omega arith

same_place : (a b : Coordinates) → ◌≡◌ {A = Result Coordinates Refusal} (Ok a) (Ok b) → a ≡ b
same_place a b e = cc

says_one : (u : Value) (a : Result Coordinate Refusal) (c : Coordinates) → coordinate_of u.1 ≡ a
    → on_coordinate u.0 a (λ x. Ok (alone x)) ≡ Ok c → Says (u ∷ []) c
says_one u (Ok x) c e h = rw (sym (same_place _ c h)) (one e)
says_one u (Err r) c e h = absurd (never_refused h)

says_three : (u v w : Value) (a b d : Result Coordinate Refusal) (c : Coordinates)
    → coordinate_of u.1 ≡ a → coordinate_of v.1 ≡ b → coordinate_of w.1 ≡ d
    → on_coordinate u.0 a (λ x. on_coordinate v.0 b (λ y. on_coordinate w.0 d (λ z. Ok (together x y z)))) ≡ Ok c
    → Says (u ∷ v ∷ w ∷ []) c
says_three u v w (Ok x) (Ok y) (Ok z) c e f g h = rw (sym (same_place _ c h)) (three e f g)
says_three u v w (Ok x) (Ok y) (Err r) c e f g h = absurd (never_refused h)
says_three u v w (Ok x) (Err r) d c e f g h = absurd (never_refused h)
says_three u v w (Err r) b d c e f g h = absurd (never_refused h)

says : (vs : List Value) (c : Coordinates) → located vs ≡ Ok c → Says vs c
unfolding located one_of three_of
says [] c h = absurd (never_refused h)
says (u ∷ []) c h = says_one u (coordinate_of u.1) c refl h
says (u ∷ v ∷ []) c h = absurd (never_refused h)
says (u ∷ v ∷ w ∷ []) c h = says_three u v w (coordinate_of u.1) (coordinate_of v.1) (coordinate_of w.1) c refl refl refl h
says (u ∷ v ∷ w ∷ x ∷ vs) c h = absurd (never_refused h)

-- a text is a location exactly where its values say one. Rules out a reader that takes two values, or makes one up.
pub location_exactly_when_said : (t : List ℕ) (c : Coordinates) → (location_of t ≡ Ok c) ↔ ((vs : List Value) × Parted 0 t vs × Says vs c)
unfolding location_of
location_exactly_when_said t c = (
  λ h. (let own = parted t in (_, own, says _ c h)),
  λ s. ap located (one_split 0 t s.0 s.1) ∙ said s.0 c s.2,
)
