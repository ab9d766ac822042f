-- Locations (document 01, "Numbers in values"): x alone or x, y and z, each a double, and how many there were. 23
-- first, then value by value.
-- Assumes nothing.
use Rattle.std.specs.Prelude.{◌≡◌, Bool, false, List, [], ◌∷◌, ℕ, ◌+◌, ◌-◌, ◌≤◌, ◌<◌, pos, length, take, drop, Float, Result, Ok, Err}
use Rattle.std.proofs.Math.Path.{refl}
use Rattle.std.proofs.Common.{sym, ap, subst, ◌∙◌, arith, length-drop, drop_of_length-le, drop-drop}
use Rattle.std.specs.Float.{fin}
use Rattle.refusal.specs.declared.Rule.TheVariants.{ValueCount, NoNumber}
use Rattle.refusal.specs.declared.Part.TheVariants.{File}
use Rattle.refusal.specs.Table.{refusal}
use Rattle.location.specs.declared.Coordinate.{Coordinate}
use Rattle.location.specs.declared.Coordinates.{Coordinates}
use Rattle.chars.specs.Chars.{blank, solid}
use Rattle.chars.specs.Runs.{run, Stops, run_stops}
use Rattle.front_bytes.specs.Run.{front, behind}
use Rattle.decimal.specs.Number.{number_in}
use Rattle.double.specs.Double.{double_of}
use Rattle.location.specs.Values.{Value, values_from, values_of, blanks_passed, value_first, values_none}
use Rattle.refusal.specs.declared.Refusal.{Refusal}
use Rattle.decimal_parts.specs.declared.Decimal.{Decimal}

abbrev pub value_count : Result Coordinates Refusal
value_count = Err (refusal ValueCount File 0)

-- plus zero, for what is absent
abbrev pub absent : Float
absent = fin false 0 (pos 0)

-- ---- a value: "as doubles", and the count of digits after its point (document 02 §4: "Locations then keep this count
-- for each value")

-- how many digits stood after the point of a number
abbrev pub decimals_of : Result Decimal Refusal → ℕ
decimals_of (Ok n) = n.decimals
decimals_of (Err r) = 0

-- a double beside the count; a refusal is passed up
abbrev pub counted : ℕ → Result Float Refusal → Result Coordinate Refusal
counted d (Ok x) = Ok (record { value = x; decimals = d })
counted d (Err r) = Err r

unfoldable pub coordinate_of : List ℕ → Result Coordinate Refusal
coordinate_of t = counted (decimals_of (number_in t)) (double_of t)

-- ---- a location

-- absent y and z are 0, and so are their counts
abbrev pub alone : Coordinate → Coordinates
alone x = record {
  x = x.value;
  y = absent;
  z = absent;
  count = 1;
  x_decimals = x.decimals;
  y_decimals = 0;
  z_decimals = 0;
}

abbrev pub together : Coordinate → Coordinate → Coordinate → Coordinates
together x y z = record {
  x = x.value;
  y = y.value;
  z = z.value;
  count = 3;
  x_decimals = x.decimals;
  y_decimals = y.decimals;
  z_decimals = z.decimals;
}

-- a double goes on; a refusal is passed up, and its place is the value's start
abbrev pub on_coordinate : ℕ → Result Coordinate Refusal → (Coordinate → Result Coordinates Refusal) → Result Coordinates Refusal
on_coordinate at (Ok x) k = k x
on_coordinate at (Err r) k = Err (refusal r.rule r.part at)

-- a value's answer, where a refusal has the place where the value starts
abbrev pub placed : ℕ → Result Coordinate Refusal → Result Coordinate Refusal
placed at (Ok x) = Ok x
placed at (Err r) = Err (refusal r.rule r.part at)

-- the refusal of an answer that is one, passed up; of a value that is there it is never asked
abbrev pub passed : Result Coordinate Refusal → Result Coordinates Refusal
passed (Ok x) = Err (refusal NoNumber File 0)
passed (Err r) = Err r

unfoldable pub one_of : Value → Result Coordinates Refusal
one_of v = on_coordinate v.0 (coordinate_of v.1) (λ x. Ok (alone x))

unfoldable pub three_of : Value → Value → Value → Result Coordinates Refusal
three_of u v w =
    on_coordinate u.0 (coordinate_of u.1)
    (λ x. on_coordinate v.0 (coordinate_of v.1) (λ y. on_coordinate w.0 (coordinate_of w.1) (λ z. Ok (together x y z))))

unfoldable pub located : List Value → Result Coordinates Refusal
located [] = value_count
located (u ∷ []) = one_of u
located (u ∷ v ∷ []) = value_count
located (u ∷ v ∷ w ∷ []) = three_of u v w
located (u ∷ v ∷ w ∷ x ∷ vs) = value_count

unfoldable pub location_of : List ℕ → Result Coordinates Refusal
location_of t = located (values_of t)

-- ---- what stands behind a value that was read so, and behind one that was refused

module _ (at : ℕ) (k : Coordinate → Result Coordinates Refusal) where
  pub goes_on : (a : Result Coordinate Refusal) {x : Coordinate} → placed at a ≡ Ok x → on_coordinate at a k ≡ k x
  goes_on (Ok y) {x} e = let s : y ≡ x = cc in rw s
  goes_on (Err r) e = cc

  pub ends : (a : Result Coordinate Refusal) {r : Refusal} → placed at a ≡ Err r → on_coordinate at a k ≡ Err r
  ends (Ok y) e = cc
  ends (Err q) e = cc

-- ---- the code's places: from place i on, past the bytes of a kind

abbrev pub over : (ℕ → Bool) → List ℕ → ℕ → ℕ
over p t i = i + run p (drop i t)

value_at : (p : ℕ) (w : List ℕ) → 0 < length w → Stops blank w → values_from p w ≡ (p, front solid w) ∷ values_from (p + run solid w) (behind solid w)
value_at p [] h s = absurd (omega arith)
value_at p (b ∷ bs) h s = value_first p b bs s

module _ (t : List ℕ) where
  to_next : (i p : ℕ) → p ≡ over blank t i → values_from i (drop i t) ≡ values_from p (drop p t)
  to_next i p e = blanks_passed i (drop i t) ∙ rw (drop-drop (run blank (drop i t)) i t, e)

  none_left : (i p : ℕ) → p ≡ over blank t i → length t ≤ p → values_from i (drop i t) ≡ []
  none_left i p e h = to_next i p e ∙ ap (λ (r : List ℕ). values_from p r) (drop_of_length-le t h) ∙ values_none p

  one_more : (i p q : ℕ) → p ≡ over blank t i → q ≡ over solid t p → p < length t
      → values_from i (drop i t) ≡ (p, take (q - p) (drop p t)) ∷ values_from q (drop q t)
  one_more i p q e f h =
      let n = run solid (drop p t) in
      let k : q - p ≡ n = omega arith in
      let l : 0 < length (drop p t) = simp length-drop (omega arith) in
      let d : behind blank (drop i t) ≡ drop p t = drop-drop (run blank (drop i t)) i t ∙ ap (λ (j : ℕ). drop j t) (sym e) in
      let s : Stops blank (drop p t) = subst (λ (r : List ℕ). Stops blank r) d (run_stops blank (drop i t)) in
      to_next i p e ∙ value_at p (drop p t) l s ∙ rw (k, f, drop-drop n p t)

-- ---- a law for each answer, with what the code found and tested

module _ (t : List ℕ) {a : ℕ} (at_a : a ≡ over blank t 0) where
  pub no_value : length t ≤ a → value_count ≡ location_of t
  unfolding location_of located
  no_value h = rw (none_left t 0 a at_a h)

  module _ {b c : ℕ} (at_b : b ≡ over solid t a) (at_c : c ≡ over blank t b) (one : a < length t) where
    pub one_value : length t ≤ c → one_of (a, take (b - a) (drop a t)) ≡ location_of t
    unfolding location_of located
    one_value h = rw (one_more t 0 a b at_a at_b one, none_left t b c at_c h)

    module _ {d e : ℕ} (at-d : d ≡ over solid t c) (at-e : e ≡ over blank t d) (two : c < length t) where
      pub two_values : length t ≤ e → value_count ≡ location_of t
      unfolding location_of located
      two_values h = rw (one_more t 0 a b at_a at_b one, one_more t b c d at_c at-d two, none_left t d e at-e h)

      module _ {f g : ℕ} (at_f : f ≡ over solid t e) (at_g : g ≡ over blank t f) (three : e < length t) where
        pub three_values : length t ≤ g → three_of (a, take (b - a) (drop a t)) (c, take (d - c) (drop c t)) (e, take (f - e) (drop e t)) ≡ location_of t
        unfolding location_of located
        three_values h = rw (one_more t 0 a b at_a at_b one, one_more t b c d at_c at-d two, one_more t d e f at-e at_f three, none_left t f g at_g h)

        pub more_values : g < length t → value_count ≡ location_of t
        unfolding location_of located
        more_values h =
            rw (one_more t 0 a b at_a at_b one, one_more t b c d at_c at-d two, one_more t d e f at-e at_f three, one_more t f g (over solid t g) at_g refl h)
