-- What an answer means: the coefficient is the digits as written, read by their places, and coefficient times ten to
-- the power is the decimal value that the parts write.
-- Assumes nothing.
use Rattle.std.specs.Prelude.{◌≡◌, refl, Bool, true, false, ◌&&◌, List, [], ◌∷◌, ◌++◌, ℕ, zero, suc, ◌+◌, ◌-◌, ◌*◌, ◌^◌, ◌<◌, ℤ, pos, negsuc, neg_ℤ, length, ltb, leb, Ok}
use Rattle.std.proofs.Common.{sym, subst, ◌∙◌, zero-add, zero-mul, add-mul, mul_assoc, add_assoc, mul-pos, arith, length-append, pow-add, leb-true, leb-false}
use Rattle.std.proofs.Math.Nat.{one-le-pow, pow-succ'}
use Rattle.refusal.specs.Rows.{pick}
use Rattle.decimal_parts.specs.declared.Decimal.{Decimal}
use Rattle.front_bytes.specs.Run.{All}
use Rattle.chars.specs.Chars.{digit}
use Rattle.decimal_parts.specs.Grammar.{Parts, Fraction, Fraction.no_point, Fraction.point, Power, Power.no_power}
use Rattle.decimal_parts.specs.Grammar.{Power.power, Writes, placed, over, under}
use Rattle.decimal_parts.specs.Answer.{decimal_of}
use Rattle.decimal.specs.Number.{number_in}
use Rattle.digits.specs.Value.{worth, worth_digit, value}
use Rattle.decimal.specs.Agreed.{is_number}
use Rattle.decimal_power.specs.Power.{power_of, power_down, power_less, power_more}

-- ---- the value of an answer, without its sign: a fraction, `numerator n` / `denominator n`

abbrev pub raise : ℤ → ℕ
raise (pos k) = k
raise (negsuc k) = 0

abbrev pub lower : ℤ → ℕ
lower (pos k) = 0
lower (negsuc k) = suc k

unfoldable pub numerator : Decimal → ℕ
numerator n = n.coefficient * 10 ^ raise n.power

unfoldable pub denominator : Decimal → ℕ
denominator n = 10 ^ lower n.power

pub denominator_pos : (n : Decimal) → 0 < denominator n
unfolding denominator
denominator_pos n = one-le-pow (lower n.power) 10 (omega arith)

pub under_pos : (p : Parts) → 0 < under p
unfolding under
under_pos p = mul-pos (one-le-pow (length p.decimals) 10 (omega arith)) (one-le-pow (pick p.down (placed p.exponent) 0) 10 (omega arith))

pub record Means (n : Decimal) (p : Parts) : Type 0 where
  -- "coefficient as written"
  pub coefficient : n.coefficient ≡ placed (p.whole ++ p.decimals)
  -- coefficient times ten to the power is the value written: the two fractions are equal
  pub value : numerator n * under p ≡ over p * denominator n
  -- "zero has sign plus"
  pub sign : n.minus ≡ p.minus && ltb 0 n.coefficient
  -- "how many digits stood after the point" (document 02 §4)
  pub decimals : n.decimals ≡ length p.decimals

-- ---- digits, one by one, are digits by their places

shift : (v d b r : ℕ) → (v * 10 + d) * b + r ≡ v * (10 * b) + (d * b + r)
shift v d b r = rw (add-mul (v * 10) d b, mul_assoc v 10 b) (add_assoc (v * (10 * b)) (d * b) r)

pub value_placed : (v : ℕ) (ds : List ℕ) → All digit ds → value v ds ≡ v * 10 ^ length ds + placed ds
unfolding value placed
value_placed v [] h = omega arith
value_placed v (d ∷ ds) h =
    value_placed (v * 10 + worth d) ds h.1
    ∙ rw ((worth_digit d h.0).0, pow-succ' 10 (length ds)) (shift v (d - 48) (10 ^ length ds) (placed ds))

pub placed_is : (ds : List ℕ) → All digit ds → value 0 ds ≡ placed ds
placed_is ds h = value_placed 0 ds h ∙ rw (zero-mul (10 ^ length ds)) (zero-add (placed ds))

pub placed_append : (xs ys : List ℕ) → placed (xs ++ ys) ≡ placed xs * 10 ^ length ys + placed ys
unfolding placed
placed_append [] ys = rw (zero-mul (10 ^ length ys)) (sym (zero-add (placed ys)))
placed_append (x ∷ xs) ys =
    rw (
      length-append xs ys,
      pow-add 10 (length xs) (length ys),
      placed_append xs ys,
      add-mul ((x - 48) * 10 ^ length xs) (placed xs) (10 ^ length ys),
      mul_assoc (x - 48) (10 ^ length xs) (10 ^ length ys),
    )
    (sym (add_assoc ((x - 48) * (10 ^ length xs * 10 ^ length ys)) (placed xs * 10 ^ length ys) (placed ys)))

-- ---- the power: what it raises and the decimals, and what is written and it lowers, come to the same

raise_neg : (n : ℕ) → raise (neg_ℤ (pos n)) ≡ 0
raise_neg zero = refl
raise_neg (suc n) = refl

lower_neg : (n : ℕ) → lower (neg_ℤ (pos n)) ≡ n
lower_neg zero = refl
lower_neg (suc n) = refl

tens : (down : Bool) (e m : ℕ) → raise (power_of down e m) + (m + pick down e 0) ≡ pick down 0 e + lower (power_of down e m)
tens true e m = rw (← power_down e m) (omega (arith, raise_neg (e + m), lower_neg (e + m)))
tens false e m = go (leb m e) refl
  where
    go : (q : Bool) → leb m e ≡ q → raise (power_of false e m) + (m + 0) ≡ e + lower (power_of false e m)
    go true h = let l = leb-true m e h in rw (← power_less e m l) (omega arith)
    go false h = let l = leb-false m e h in rw (← power_more e m l) (omega (arith, raise_neg (m - e), lower_neg (m - e)))

balanced : (c i j k l m : ℕ) → i + (j + k) ≡ l + m → c * 10 ^ i * (10 ^ j * 10 ^ k) ≡ c * 10 ^ l * 10 ^ m
balanced c i j k l m e =
    rw (← pow-add 10 j k, mul_assoc c (10 ^ i) (10 ^ (j + k)), ← pow-add 10 i (j + k), mul_assoc c (10 ^ l) (10 ^ m), ← pow-add 10 l m, e)

-- ---- so an answer means what its parts write

fraction_digits : {ds f : List ℕ} → Fraction ds f → All digit ds
fraction_digits no_point = tt
fraction_digits (point k) = k.each

power_digits : {down : Bool} {ds e : List ℕ} → Power down ds e → All digit ds
power_digits no_power = tt
power_digits (power s k) = k.each

pub means : (p : Parts) (t : List ℕ) → Writes p t → Means (decimal_of p) p
unfolding decimal_of numerator denominator over under
means p t h =
    let c : value (value 0 p.whole) p.decimals ≡ placed p.whole * 10 ^ length p.decimals + placed p.decimals =
    rw (placed_is p.whole h.whole.each) (value_placed (placed p.whole) p.decimals (fraction_digits h.fraction)) in
    let e : value 0 p.exponent ≡ placed p.exponent = placed_is p.exponent (power_digits h.power) in
    record {
      coefficient = c ∙ sym (placed_append p.whole p.decimals);
      value = rw (c, e)
          (balanced (placed p.whole * 10 ^ length p.decimals + placed p.decimals)
          (raise (power_of p.down (placed p.exponent) (length p.decimals)))
          (length p.decimals) (pick p.down (placed p.exponent) 0) (pick p.down 0 (placed p.exponent))
          (lower (power_of p.down (placed p.exponent) (length p.decimals))) (tens p.down (placed p.exponent) (length p.decimals)));
      sign = refl;
      decimals = refl;
    }

-- an answer that is a number means the value of its text, whose parts are unique (`parts_unique`)
pub number_means : (t : List ℕ) (n : Decimal) → number_in t ≡ Ok n → (p : Parts) × Writes p t × Means n p
number_means t n e =
    let w = (is_number t n).0 e in
    (w.0, w.1, subst (λ (m : Decimal). Means m w.0) (sym w.3) (means w.0 t w.1))
