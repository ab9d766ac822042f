-- Counts in values: "a number by document 01, 1 to 32,767, without point or E" (document 02, §7 of CHANNEL_NUMBER, §6 of
-- STACK). `count_in` is how the code finds it, `Counts` the rule in the document's words; they are proved to be the same.
-- Assumes nothing.
use Rattle.std.specs.Prelude.{◌≡◌, refl, Bool, true, false, not, ◌&&◌, List, [], ◌∷◌, ◌++◌, ℕ, ◌+◌, ◌≤◌, ◌<◌, pos, length, ltb, eqb, Ok}
use Rattle.std.proofs.Common.{sym, ap, ◌∙◌, append-nil, arith}
use borrow.Author.Tests.{le-ltb, lt-ltb, ltb-false, ne_eqb, not-false}
use Rattle.word.specs.Tests.{both}
use Rattle.refusal.specs.Rows.{Rows, first, clear}
use Rattle.chars.specs.Chars.{digit}
use Rattle.chars.specs.Runs.{all, all_weaker}
use Rattle.digits.specs.Value.{value, worth_digit}
use Rattle.decimal_parts.specs.declared.Decimal.{Decimal}
use Rattle.front_bytes.specs.Run.{All}
use Rattle.decimal_parts.specs.Grammar.{Parts, Sign, Sign.dash, Sign.nothing, Fraction, Fraction.no_point, Fraction.point, Power}
use Rattle.decimal_parts.specs.Grammar.{Power.no_power, Power.power, Writes}
use Rattle.decimal_power.specs.Power.{power_of}
use Rattle.decimal_parts.specs.Answer.{decimal_of, judged}
use Rattle.decimal.specs.Number.{number_in}
use Rattle.decimal.specs.Agreed.{written, is_number}

-- "1 to 32,767"
abbrev pub count_most : ℕ
count_most = 32767

-- what is no count: more digits than a number has, a byte that is no digit, a value over the most. An empty text is
-- worth 0, and so is no count
abbrev pub count_rows : List ℕ → Rows ℕ
count_rows v = (ltb 18 (length v), 0) ∷ (not (all digit v), 0) ∷ (ltb count_most (value 0 v), 0) ∷ []

-- the count that a text is, and 0 where it is none
unfoldable pub count_in : List ℕ → ℕ
count_in v = first (count_rows v) (value 0 v)

-- ---- the same in the document's words

-- the whole number n, as the number question answers it
abbrev pub wholly : ℕ → Decimal
wholly n = record { minus = false; coefficient = n; power = pos 0; decimals = 0 }

-- no point and no E
abbrev pub pointless : ℕ → Bool
pointless b = not (eqb b 46) && not (eqb b 69)

pub record Counts (v : List ℕ) (n : ℕ) : Type 0 where
  pub number : number_in v ≡ Ok (wholly n)
  pub without : all pointless v ≡ true
  pub least : 1 ≤ n
  pub most : n ≤ count_most

-- ---- a law for each answer, with what the code found and tested

module _ (v : List ℕ) where
  pub count_long : 18 < length v → 0 ≡ count_in v
  unfolding count_in
  count_long h = rw (lt-ltb 18 (length v) h)

  module _ (few : length v ≤ 18) where
    pub count_other : all digit v ≡ false → 0 ≡ count_in v
    unfolding count_in
    count_other h = rw (le-ltb 18 (length v) few, h)

    module _ (digits : all digit v ≡ true) where
      pub count_over : count_most < value 0 v → 0 ≡ count_in v
      unfolding count_in
      count_over h = rw (le-ltb 18 (length v) few, digits, lt-ltb count_most (value 0 v) h)

      pub count_is : value 0 v ≤ count_most → value 0 v ≡ count_in v
      unfolding count_in
      count_is h = rw (le-ltb 18 (length v) few, digits, le-ltb count_most (value 0 v) h)

-- ---- the two views agree

-- the tests of one view are the facts of the other
each_digit : (v : List ℕ) → all digit v ≡ true → All digit v
unfolding all
each_digit [] h = tt
each_digit (b ∷ bs) h = let a = both (digit b) (all digit bs) h in (a.0, each_digit bs a.1)

digit_pointless : (b : ℕ) → digit b ≡ true → pointless b ≡ true
digit_pointless b h =
    let d = worth_digit b h in
    rw (ne_eqb b 46 (λ (e : b ≡ 46). omega (arith, d.1)), ne_eqb b 69 (λ (e : b ≡ 69). omega (arith, d.2)))

-- a text of digits is written from its digits alone
abbrev alone : List ℕ → Parts
alone v = record { minus = false; whole = v; decimals = []; down = false; exponent = [] }

writes_alone : (v : List ℕ) → 0 < length v → all digit v ≡ true → Writes (alone v) v
writes_alone v some ds =
    record {
      s = [];
      f = [];
      e = [];
      sign = nothing;
      whole = record { some = some; each = each_digit v ds };
      fraction = no_point;
      power = no_power;
      text = sym (append-nil v);
    }

some_value : (v : List ℕ) (n : ℕ) → 0 < n → value 0 v ≡ n → 0 < length v
unfolding value
some_value [] n h e = absurd (omega arith)
some_value (b ∷ bs) n h e = omega arith

pub counted : (v : List ℕ) (n : ℕ) → 0 < n → count_in v ≡ n → Counts v n
unfolding count_in judged decimal_of power_of value
counted v n h e =
    let c = clear (λ (k : ℕ). ltb 0 k) n (lt-ltb 0 n h) (count_rows v) (value 0 v) refl e in
    let few = ltb-false 18 (length v) c.0.0 in
    let ds = not-false (all digit v) c.0.1.0 in
    let most = ltb-false count_most (value 0 v) c.0.1.1.0 in
    let is = c.1 in
    let none : length v + 0 ≡ length v = omega arith in
    record {
      number = written (alone v) v (writes_alone v (some_value v n h is) ds) ∙ rw (none, le-ltb 18 (length v) few, is);
      without = all_weaker digit pointless digit_pointless v ds;
      least = h;
      most = omega arith;
    }
