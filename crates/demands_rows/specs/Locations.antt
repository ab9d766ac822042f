-- Demand 2, locations without any order of reading: "x alone or x, y and z as doubles, parted by spaces or tabs;
-- separators at either end are dropped. The answer keeps how many there were; absent y and z are 0" (document 01,
-- "Numbers in values"). `Parted` (location/Values) says which values a text has: blanks and values in turn, the values
-- not empty, without a blank, and ended by a blank or the text's end, each with its place. Each value keeps the count
-- of its decimals (document 02 §4).
-- Assumes nothing.
use Rattle.std.specs.Prelude.{◌≡◌, refl, not, ◌||◌, List, [], ◌∷◌, ◌↔◌, ℕ, length, eqb, Result, Ok, Err, Float}
use Rattle.std.proofs.Common.{sym, ap, ap₂, ◌∙◌, arith}
use Rattle.refusal.specs.Rows.{first}
use Rattle.decimal_parts.specs.declared.Decimal.{Decimal}
use Rattle.decimal.specs.Number.{number_in}
use Rattle.location.specs.declared.Coordinate.{Coordinate}
use Rattle.location.specs.declared.Coordinates.{Coordinates}
use Rattle.double.specs.Double.{on_number, double_of}
use Rattle.location.specs.Location.{absent, value_count, decimals_of, counted, coordinate_of, location_of}
use Rattle.location.specs.Values.{Value, Parted, parted, one_split}
use Rattle.demands_rows.specs.QuestionRows.{in_turn, one_or_three, location_refused_first}
use Rattle.refusal.specs.declared.Refusal.{Refusal}

-- every text has its values, and no others
pub one_list_of_values : (t : List ℕ) → (vs : List Value) × Parted 0 t vs × ((ws : List Value) → Parted 0 t ws → ws ≡ vs)
one_list_of_values t = let own = parted t in (_, own, λ ws p. sym (one_split 0 t ws p) ∙ one_split 0 t _ own)

-- the answer by those values, refusals included: 23 for neither one nor three, else the first that is no double, at its
-- own start. Rules out a location whose values are parted at another character, or that keeps a blank.
pub location_of_its_values : (t : List ℕ) (vs : List Value) → Parted 0 t vs
    → location_of t ≡ first ((not (eqb (length vs) 1 || eqb (length vs) 3), value_count) ∷ []) (in_turn vs one_or_three)
location_of_its_values t vs p = rw (one_split 0 t vs p) at (location_refused_first t)

-- the double and the count that a coordinate was made of
counted_of : (d : ℕ) (a : Result Float Refusal) (c : Coordinate) → counted d a ≡ Ok c → (a ≡ Ok c.value) × (c.decimals ≡ d)
counted_of d (Ok x) c e =
    let same : ◌≡◌ {A = Coordinate} (record { value = x; decimals = d }) c = cc in
    (ap (λ (k : Coordinate). Ok k.value) same, ap (λ (k : Coordinate). k.decimals) (sym same))
counted_of d (Err r) c e = let z : ◌≡◌ {A = ℕ} 0 1 = cc in absurd (omega arith)

-- Document 02 §4: "Locations then keep this count for each value". Rules out a location that counts the decimals of
-- another value, or of the double.
pub coordinate_exactly : (t : List ℕ) (c : Coordinate)
    → (coordinate_of t ≡ Ok c) ↔ ((n : Decimal) × (number_in t ≡ Ok n) × (double_of t ≡ Ok c.value) × (c.decimals ≡ n.decimals))
unfolding coordinate_of double_of on_number
coordinate_exactly t c = (go (number_in t) refl, λ s. ap₂ counted (ap decimals_of s.1 ∙ sym s.3) s.2)
  where
    go : (a : Result Decimal Refusal) → number_in t ≡ a → counted (decimals_of a) (on_number a) ≡ Ok c
        → (n : Decimal) × (number_in t ≡ Ok n) × (on_number (number_in t) ≡ Ok c.value) × (c.decimals ≡ n.decimals)
    go (Ok n) f g = let p = counted_of n.decimals (on_number (Ok n)) c g in (n, f, ap on_number f ∙ p.0, p.1)
    go (Err r) f g = let z : ◌≡◌ {A = ℕ} 0 1 = cc in absurd (omega arith)

-- these values say this location, field by field: each value with its own count, absent ones 0 with count 0
pub data Says : List Value → Coordinates → Type 0 where
  one : {u : Value} {x : Coordinate} → coordinate_of u.1 ≡ Ok x
      → Says (u ∷ []) (record { x = x.value; y = absent; z = absent; count = 1; x_decimals = x.decimals; y_decimals = 0; z_decimals = 0 })
  three : {u v w : Value} {x y z : Coordinate} → coordinate_of u.1 ≡ Ok x → coordinate_of v.1 ≡ Ok y
      → coordinate_of w.1 ≡ Ok z
      → Says (u ∷ v ∷ w ∷ []) (
      record { x = x.value; y = y.value; z = z.value; count = 3; x_decimals = x.decimals; y_decimals = y.decimals; z_decimals = z.decimals }
      )
