-- Theorems on what specs/LocationMarks defines. They stand here, as a wrong definition there is to be refused and not to be unread.
-- Assumes nothing.
use Rattle.std.specs.Prelude.{◌≡◌, refl, Bool, true, false, ◌||◌, List, [], ◌∷◌, ◌++◌, ℕ, ◌+◌, length, Float, Result, Ok, Err}
use Rattle.std.proofs.Common.{sym, ◌∙◌, arith}
use Rattle.location.specs.declared.Coordinate.{Coordinate}
use Rattle.location.specs.declared.Coordinates.{Coordinates}
use Rattle.chars.specs.Chars.{blank}
use Rattle.front_bytes.specs.Run.{All, all_append, all_among, all_weaker}
use Rattle.decimal.specs.Number.{number_in}
use Rattle.decimal.specs.Agreed.{is_number}
use Rattle.decimal.specs.Marks.{mark, written_marks}
use Rattle.double.specs.Double.{on_number, double_of}
use Rattle.location.specs.Values.{Value, values_of, Parted, Parted.blanks, Parted.value, parted}
use Rattle.location.specs.Location.{decimals_of, counted, coordinate_of, on_coordinate, one_of, three_of, located, location_of}
use Rattle.location.specs.LocationMarks.{Marked, spot}
use Rattle.refusal.specs.declared.Refusal.{Refusal}
use Rattle.decimal_parts.specs.declared.Decimal.{Decimal}

double_marks : (t : List ℕ) (x : Float) → double_of t ≡ Ok x → All mark t
unfolding double_of on_number
double_marks t x e = go (number_in t) refl e
  where
    go : (a : Result Decimal Refusal) → number_in t ≡ a → on_number a ≡ Ok x → All mark t
    go (Ok n) f g = let w = (is_number t n).0 f in written_marks w.0 t w.1
    go (Err r) f g = let z : ◌≡◌ {A = ℕ} 0 1 = cc in absurd (omega arith)

coordinate_marks : (t : List ℕ) (x : Coordinate) → coordinate_of t ≡ Ok x → All mark t
unfolding coordinate_of
coordinate_marks t x e = go (double_of t) refl e
  where
    go : (a : Result Float Refusal) → double_of t ≡ a → counted (decimals_of (number_in t)) a ≡ Ok x → All mark t
    go (Ok y) f g = double_marks t y f
    go (Err r) f g = let z : ◌≡◌ {A = ℕ} 0 1 = cc in absurd (omega arith)

-- a value whose double went on
went_on : (at : ℕ) (t : List ℕ) (k : Coordinate → Result Coordinates Refusal) (l : Coordinates) → on_coordinate at (coordinate_of t) k ≡ Ok l
    → All mark t × ((x : Coordinate) × (k x ≡ Ok l))
went_on at t k l e = go (coordinate_of t) refl e
  where
    go : (a : Result Coordinate Refusal) → coordinate_of t ≡ a → on_coordinate at a k ≡ Ok l → All mark t × ((x : Coordinate) × (k x ≡ Ok l))
    go (Ok x) f g = (coordinate_marks t x f, (x, g))
    go (Err r) f g = let z : ◌≡◌ {A = ℕ} 0 1 = cc in absurd (omega arith)

located_marks : (vs : List Value) (l : Coordinates) → located vs ≡ Ok l → Marked vs
unfolding located one_of three_of
located_marks [] l e = tt
located_marks (u ∷ []) l e = ((went_on u.0 u.1 _ l e).0, tt)
located_marks (u ∷ v ∷ []) l e = let z : ◌≡◌ {A = ℕ} 0 1 = cc in absurd (omega arith)
located_marks (u ∷ v ∷ w ∷ []) l e =
    let a = went_on u.0 u.1 _ l e in
    let b = went_on v.0 v.1 _ l a.1.1 in
    let c = went_on w.0 w.1 _ l b.1.1 in
    (a.0, (b.0, (c.0, tt)))
located_marks (u ∷ v ∷ w ∷ x ∷ vs) l e = let z : ◌≡◌ {A = ℕ} 0 1 = cc in absurd (omega arith)

or_left : (a b : Bool) → a ≡ true → a || b ≡ true
or_left a b e = rw e

or_right : (a b : Bool) → b ≡ true → a || b ≡ true
or_right true b e = refl
or_right false b e = e

mark_spots : (xs : List ℕ) → All mark xs → All spot xs
mark_spots = all_weaker mark spot (λ b e. or_left (mark b) (blank b) e)

blank_spots : (xs : List ℕ) → All blank xs → All spot xs
blank_spots = all_weaker blank spot (λ b e. or_right (mark b) (blank b) e)

parted_spots : (at : ℕ) (t : List ℕ) (vs : List Value) → Parted at t vs → Marked vs → All spot t
parted_spots at t [] (blanks {g = g} h) m = blank_spots g h
parted_spots at t (x ∷ vs) given m = go at x t given m.0 (λ b r more. parted_spots b r vs more m.1)
  where
    go : (at : ℕ) (x : Value) (t : List ℕ) → Parted at t (x ∷ vs) → All mark x.1 → ((b : ℕ) (r : List ℕ) → Parted b r vs → All spot r) → All spot t
    go at x t (value g v r bg sv st rest) m again =
        all_append spot g (v ++ r) (blank_spots g bg) (all_append spot v r (mark_spots v m) (again (at + length g + length v) r rest))

pub other_byte_location : (b : ℕ) → spot b ≡ false → (before after : List ℕ) (l : Coordinates) → location_of (before ++ b ∷ after) ≡ Ok l → ⊥
unfolding location_of
other_byte_location b e before after l h =
    let t = before ++ b ∷ after in
    let z : ◌≡◌ {A = Bool} true false = sym (all_among spot b before after (parted_spots 0 t (values_of t) (parted t) (located_marks (values_of t) l h))) ∙ e in
    let n : ◌≡◌ {A = ℕ} 0 1 = cc in
    omega arith

pub comma_location : (before after : List ℕ) (l : Coordinates) → location_of (before ++ 44 ∷ after) ≡ Ok l → ⊥
comma_location = other_byte_location 44 refl
