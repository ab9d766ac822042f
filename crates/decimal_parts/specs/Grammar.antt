-- The grammar of numbers in values (document 01, "Numbers in values"), as a relation between a text and its parts, with
-- no order of reading: "A minus or nothing; one or more digits; optionally a point with one or more digits; optionally
-- E, a minus or nothing, one or more digits."
-- Assumes nothing.
use Rattle.std.specs.Prelude.{◌≡◌, Bool, true, false, List, [], ◌∷◌, ◌++◌, ℕ, ◌+◌, ◌-◌, ◌*◌, ◌^◌, ◌≤◌, ◌<◌, length}
use Rattle.refusal.specs.Rows.{pick}
use Rattle.front_bytes.specs.Run.{All}
use Rattle.chars.specs.Chars.{digit}

-- what a text's parts are: a minus, the digits before the point and behind it (none: no point), a minus behind E, and
-- the digits there (none: no E)
pub record Parts : Type 0 where
  pub minus : Bool
  pub whole : List ℕ
  pub decimals : List ℕ
  pub down : Bool
  pub exponent : List ℕ

-- a minus or nothing
pub data Sign : Bool → List ℕ → Type 0 where
  dash : Sign true (45 ∷ [])
  nothing : Sign false []

-- one or more digits
pub record Digits (ds : List ℕ) : Type 0 where
  pub some : 0 < length ds
  pub each : All digit ds

-- optionally a point with one or more digits
pub data Fraction : List ℕ → List ℕ → Type 0 where
  no_point : Fraction [] []
  point : {ds : List ℕ} → Digits ds → Fraction ds (46 ∷ ds)

-- optionally E, a minus or nothing, one or more digits
pub data Power : Bool → List ℕ → List ℕ → Type 0 where
  no_power : Power false [] []
  power : {down : Bool} {s ds : List ℕ} → Sign down s → Digits ds → Power down ds (69 ∷ (s ++ ds))

-- the text t is written from the parts p
pub record Writes (p : Parts) (t : List ℕ) : Type 0 where
  pub s : List ℕ
  pub f : List ℕ
  pub e : List ℕ
  pub sign : Sign p.minus s
  pub whole : Digits p.whole
  pub fraction : Fraction p.decimals f
  pub power : Power p.down p.exponent e
  pub text : t ≡ s ++ (p.whole ++ (f ++ e))

-- "At most 18 digits before E, leading zeros counted, and at most 2 after it"
pub record Short (p : Parts) : Type 0 where
  pub before : length p.whole + length p.decimals ≤ 18
  pub after : length p.exponent ≤ 2

-- ---- the decimal value that the parts write, without its sign: a fraction, `over p` / `under p`

-- digits by their places: the last counts ones
unfoldable pub placed : List ℕ → ℕ
placed [] = 0
placed (d ∷ ds) = (d - 48) * 10 ^ length ds + placed ds

unfoldable pub over : Parts → ℕ
over p = (placed p.whole * 10 ^ length p.decimals + placed p.decimals) * 10 ^ pick p.down 0 (placed p.exponent)

unfoldable pub under : Parts → ℕ
under p = 10 ^ length p.decimals * 10 ^ pick p.down (placed p.exponent) 0
