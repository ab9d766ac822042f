-- Numbers in values, as the number question answers them (document 01, "Numbers in values"): the text is read from the
-- left in the longest runs, and the answer is the first row that is met. decimal_parts/Grammar says what a number is
-- without any order of reading, and `Agreed` that the two agree.
-- Assumes nothing.
use Rattle.std.specs.Prelude.{◌≡◌, Bool, true, false, not, ◌&&◌, List, [], ◌∷◌, ℕ, ◌≤◌, ◌<◌, length, take, drop, ltb, eqb, Result, Err}
use Rattle.std.proofs.Common.{lt-ltb, le-ltb, eq-eqb, ne_eqb}
use Rattle.refusal.specs.Rows.{Rows, first}
use Rattle.refusal.specs.Table.{refusal}
use Rattle.refusal.specs.declared.Rule.TheVariants.{NoNumber}
use Rattle.refusal.specs.declared.Part.TheVariants.{File}
use Rattle.chars.specs.Runs.{run}
use Rattle.front_bytes.specs.Run.{front, behind}
use Rattle.front_bytes.specs.OneByte.{has, past}
use Rattle.chars.specs.Chars.{digit}
use Rattle.decimal_parts.specs.Grammar.{Parts}
use Rattle.decimal_parts.specs.Answer.{judged, parts_are}
use Rattle.refusal.specs.declared.Refusal.{Refusal}
use Rattle.decimal_parts.specs.declared.Decimal.{Decimal}

-- a lone number's refusals have place 0, as with `too_long`
abbrev pub no_number : Result Decimal Refusal
no_number = Err (refusal NoNumber File 0)

-- behind the digits stands x: nothing, or E, a minus or nothing, digits (at y), and no more
abbrev pub tail_rows : List ℕ → Rows (Result Decimal Refusal)
tail_rows x =
    let y = past 45 (past 69 x) in
    (ltb 0 (length x) && not (has 69 x), no_number)
    ∷ (has 69 x && eqb (run digit y) 0, no_number)
    ∷ (ltb 0 (length (behind digit y)), no_number)
    ∷ []

abbrev pub tail_parts : Bool → List ℕ → List ℕ → List ℕ → Parts
tail_parts m w d x = parts_are m w d (has 45 (past 69 x)) (front digit (past 45 (past 69 x)))

unfoldable pub tail_of : Bool → List ℕ → List ℕ → List ℕ → Result Decimal Refusal
tail_of m w d x = first (tail_rows x) (judged (tail_parts m w d x))

-- a minus or nothing, one or more digits (at s), and where a point follows (at u), one or more digits behind it (at v)
abbrev pub shape_rows : List ℕ → Rows (Result Decimal Refusal)
shape_rows t =
    let s = past 45 t in
    let u = behind digit s in
    let v = past 46 u in
    (eqb (run digit s) 0, no_number) ∷ (has 46 u && eqb (run digit v) 0, no_number) ∷ tail_rows (behind digit v)

unfoldable pub parts_of : List ℕ → Parts
parts_of t =
    let s = past 45 t in
    let v = past 46 (behind digit s) in
    tail_parts (has 45 t) (front digit s) (front digit v) (behind digit v)

unfoldable pub number_in : List ℕ → Result Decimal Refusal
number_in t = first (shape_rows t) (judged (parts_of t))

-- ---- a law for each answer, with what the code found and tested

module _ (m : Bool) (w d x : List ℕ) {e : Bool} (is-e : e ≡ has 69 x) where
  pub no_e : ltb 0 (length x) && not e ≡ true → no_number ≡ tail_of m w d x
  unfolding tail_of
  no_e h = rw (← is-e, h)

  module _ {z y : List ℕ} {n : ℕ} (at-z : z ≡ past 69 x) (at_y : y ≡ past 45 z) (is-n : n ≡ run digit y) (ok : ltb 0 (length x) && not e ≡ false) where
    pub no_exponent : e && eqb n 0 ≡ true → no_number ≡ tail_of m w d x
    unfolding tail_of
    no_exponent h = rw (← is-e, ok, ← at-z, ← at_y, ← is-n, h)

    module _ {r : List ℕ} (at-r : r ≡ drop n y) (some : e && eqb n 0 ≡ false) where
      pub more_behind : 0 < length r → no_number ≡ tail_of m w d x
      unfolding tail_of
      more_behind h = rw (← is-e, ok, ← at-z, ← at_y, ← is-n, some, ← at-r, lt-ltb 0 (length r) h)

      pub tail_judged : length r ≤ 0 → {down : Bool} {es : List ℕ} → down ≡ has 45 z → es ≡ take n y → judged (parts_are m w d down es) ≡ tail_of m w d x
      unfolding tail_of
      tail_judged h is_down at-es = rw (← is-e, ok, ← at-z, ← at_y, ← is-n, some, ← at-r, le-ltb 0 (length r) h, ← is_down, ← at-es)

module _ (t : List ℕ) {s : List ℕ} {n : ℕ} (at-s : s ≡ past 45 t) (is-n : n ≡ run digit s) where
  pub no_digit : n ≡ 0 → no_number ≡ number_in t
  unfolding number_in
  no_digit h = rw (← at-s, ← is-n, eq-eqb n 0 h)

  module _ {u v : List ℕ} {b : Bool} {m : ℕ} (some : n ≡ 0 → ⊥) (at-u : u ≡ drop n s) (is_b : b ≡ has 46 u) (at-v : v ≡ past 46 u)
      (is_m : m ≡ run digit v) where
    pub no_decimal : b && eqb m 0 ≡ true → no_number ≡ number_in t
    unfolding number_in
    no_decimal h = rw (← at-s, ← is-n, ne_eqb n 0 some, ← at-u, ← is_b, ← at-v, ← is_m, h)

    pub to_tail : b && eqb m 0 ≡ false → {minus : Bool} {w d x : List ℕ} → minus ≡ has 45 t → w ≡ take n s → d ≡ take m v → x ≡ drop m v
        → tail_of minus w d x ≡ number_in t
    unfolding number_in parts_of tail_of
    to_tail h is-minus at-w at-d at_x =
        rw (← is-minus, ← at-s, ← is-n, ne_eqb n 0 some, ← at-u, ← is_b, ← at-v, ← is_m, h, ← at-w, ← at-d, ← at_x)
