-- The two accounts of a number agree: the answer is a number exactly where the grammar writes the text within its
-- digits, 20 exactly where it does not write it, 21 exactly where it does with too many digits; and the parts are
-- unique.
-- Assumes nothing.
use Rattle.std.specs.Prelude.{◌≡◌, Bool, true, false, not, ◌&&◌, List, [], ◌∷◌, ◌++◌, ◌⊎◌, ◌↔◌, ℕ, suc, ◌+◌, length, ltb, eqb, Result, Ok}
use Rattle.std.proofs.Math.Path.{refl, ap}
use Rattle.std.proofs.Common.{sym, subst, ◌∙◌, append-nil, inl, inr, ⊎_elim, arith, ltb-true, ltb-false, eqb-true, lt-ltb, ne_eqb}
use Rattle.std.proofs.lemmas.Bool.{eqb-false, not-false}
use Rattle.word.specs.Tests.{and_false}
use Rattle.refusal.specs.Table.{refusal}
use Rattle.refusal.specs.declared.Rule.TheVariants.{NoNumber, Digits as Digits_rule}
use Rattle.refusal.specs.declared.Part.TheVariants.{File}
use Rattle.refusal.specs.Rows.{Rows, pick, first, Clear, through}
use Rattle.decimal_parts.specs.declared.Decimal.{Decimal}
use Rattle.chars.specs.Runs.{run, Stops, run_stops}
use Rattle.front_bytes.specs.Run.{front, behind, run_none, parts, front_all, front_length, run_length, front_is}
use Rattle.front_bytes.specs.Run.{behind_is, run_all, behind_all, front_of_all}
use Rattle.chars.specs.Chars.{digit}
use Rattle.decimal_parts.specs.Grammar.{Parts, Sign, Sign.dash, Sign.nothing, Digits, Fraction, Fraction.no_point}
use Rattle.decimal_parts.specs.Grammar.{Fraction.point, Power, Power.no_power, Power.power, Writes, Short}
use Rattle.front_bytes.specs.OneByte.{has, past, has_same, past_same, past_has, past_not}
use Rattle.decimal_parts.specs.Answer.{decimal_of, too_long}
use Rattle.decimal.specs.Number.{no_number}
use Rattle.decimal_parts.specs.Answer.{judged}
use Rattle.decimal.specs.Number.{tail_rows, shape_rows, parts_of, number_in}
use Rattle.refusal.specs.declared.Refusal.{Refusal}

-- ---- from the parts to the text: what is read is what was written

no_digit : (b d : ℕ) → digit b ≡ false → digit d ≡ true → eqb d b ≡ false
no_digit b d h k = ne_eqb d b (λ (e : d ≡ b). let z : ◌≡◌ {A = Bool} true false = sym k ∙ ap digit e ∙ h in let n : ◌≡◌ {A = ℕ} 0 1 = cc in omega arith)

has_digits : (b : ℕ) → digit b ≡ false → (ds r : List ℕ) → Digits ds → has b (ds ++ r) ≡ false
unfolding has
has_digits b h [] r k = absurd (omega (arith, k.some))
has_digits b h (d ∷ ds) r k = no_digit b d h k.each.0

sign_read : {m : Bool} {s : List ℕ} → Sign m s → (r : List ℕ) → has 45 r ≡ false → (has 45 (s ++ r) ≡ m) × (past 45 (s ++ r) ≡ r)
unfolding has past
sign_read dash r h = (refl, refl)
sign_read nothing r h = (h, rw h)

tail_stops : {down : Bool} {es e : List ℕ} → Power down es e → Stops digit e
tail_stops no_power = tt
tail_stops (power s d) = refl

tail_point : {down : Bool} {es e : List ℕ} → Power down es e → has 46 e ≡ false
unfolding has
tail_point no_power = refl
tail_point (power s d) = refl

rest_stops : {ds f : List ℕ} {down : Bool} {es e : List ℕ} → Fraction ds f → Power down es e → Stops digit (f ++ e)
rest_stops no_point p = tail_stops p
rest_stops (point d) p = refl

some_digits : (ds r : List ℕ) → Digits ds → Stops digit r → eqb (run digit (ds ++ r)) 0 ≡ false
some_digits ds r k s = ne_eqb (run digit (ds ++ r)) 0 (let l = run_length digit ds r k.each s in omega (arith, k.some))

fraction_read : {ds f : List ℕ} {down : Bool} {es e : List ℕ} → Fraction ds f → Power down es e
    → (has 46 (f ++ e) && eqb (run digit (past 46 (f ++ e))) 0 ≡ false) × (front digit (past 46 (f ++ e)) ≡ ds) × (behind digit (past 46 (f ++ e)) ≡ e)
fraction_read {e = e} no_point p =
    rw (past_not 46 e (tail_point p), tail_point p) (refl, front_is digit [] e tt (tail_stops p), behind_is digit [] e tt (tail_stops p))
fraction_read {ds} {e = e} (point k) p =
    rw (past_same 46 (ds ++ e), has_same 46 (ds ++ e))
    (some_digits ds e k (tail_stops p), front_is digit ds e k.each (tail_stops p), behind_is digit ds e k.each (tail_stops p))

no_tail : Clear (tail_rows []) × (has 45 (past 69 []) ≡ false) × (front digit (past 45 (past 69 [])) ≡ [])
unfolding has past run
no_tail = ((refl, (refl, (refl, tt))), refl, refl)

power_read : {down : Bool} {es e : List ℕ} → Power down es e
    → Clear (tail_rows e) × (has 45 (past 69 e) ≡ down) × (front digit (past 45 (past 69 e)) ≡ es)
power_read no_power = no_tail
power_read (power {s = s} {ds = ds} m k) =
    let r = sign_read m ds (rw (append-nil ds) at (has_digits 45 refl ds [] k)) in
    let n = run_all digit ds k.each in
    rw (past_same 69 (s ++ ds), r.1, has_same 69 (s ++ ds), behind_all digit ds k.each)
    ((and_false (ltb 0 (suc (length (s ++ ds)))), (ne_eqb (run digit ds) 0 (omega (arith, k.some)), (refl, tt))), r.0, front_of_all digit ds k.each)

-- the whole text as it is read, over its places
shape_clear : (t s u v x : List ℕ) → past 45 t ≡ s → behind digit s ≡ u → past 46 u ≡ v → behind digit v ≡ x
    → eqb (run digit s) 0 ≡ false → has 46 u && eqb (run digit v) 0 ≡ false → Clear (tail_rows x) → Clear (shape_rows t)
shape_clear t s u v x hs hu hv hx a b c = rw (hs, hu, hv, hx) (a, (b, c))

parts_are_lem : (t s u v x : List ℕ) → past 45 t ≡ s → behind digit s ≡ u → past 46 u ≡ v → behind digit v ≡ x
    → (p : Parts) → has 45 t ≡ p.minus → front digit s ≡ p.whole → front digit v ≡ p.decimals → has 45 (past 69 x) ≡ p.down
    → front digit (past 45 (past 69 x)) ≡ p.exponent → parts_of t ≡ p
unfolding parts_of
parts_are_lem t s u v x hs hu hv hx p m w d n e = rw (hs, hu, hv, hx, m, w, d, n, e)

module _ (p : Parts) (t : List ℕ) (h : Writes p t) where
  rest : List ℕ
  rest = h.f ++ h.e

  from_sign : (has 45 (h.s ++ (p.whole ++ rest)) ≡ p.minus) × (past 45 (h.s ++ (p.whole ++ rest)) ≡ p.whole ++ rest)
  from_sign = sign_read h.sign (p.whole ++ rest) (has_digits 45 refl p.whole rest h.whole)

  pub read_clear : Clear (shape_rows t)
  unfolding rest
  read_clear =
      let r = fraction_read h.fraction h.power in
      shape_clear t (p.whole ++ rest) rest (past 46 rest) h.e (rw h.text from_sign.1)
      (behind_is digit p.whole rest h.whole.each (rest_stops h.fraction h.power)) refl r.2
      (some_digits p.whole rest h.whole (rest_stops h.fraction h.power)) r.0 (power_read h.power).0

  -- what is read of a text that the parts write are the parts: so they are unique
  pub read_parts : parts_of t ≡ p
  unfolding rest
  read_parts =
      let r = fraction_read h.fraction h.power in
      let q = power_read h.power in
      parts_are_lem t (p.whole ++ rest) rest (past 46 rest) h.e (rw h.text from_sign.1)
      (behind_is digit p.whole rest h.whole.each (rest_stops h.fraction h.power)) refl r.2
      p (rw h.text from_sign.0) (front_is digit p.whole rest h.whole.each (rest_stops h.fraction h.power)) r.1 q.1 q.2

  pub written : number_in t ≡ judged p
  unfolding number_in
  written = through (shape_rows t) (judged (parts_of t)) read_clear ∙ ap judged read_parts

pub parts_unique : (p q : Parts) (t : List ℕ) → Writes p t → Writes q t → p ≡ q
parts_unique p q t h k = sym (read_parts p t h) ∙ read_parts q t k

-- ---- from the text to the parts: where no row is met, the grammar writes the text from what was read

sign_write : (t : List ℕ) → (s : List ℕ) × Sign (has 45 t) s × (t ≡ s ++ past 45 t)
unfolding has past
sign_write [] = ([], nothing, refl)
sign_write (x ∷ xs) = go (eqb x 45) refl
  where
    go : (q : Bool) → eqb x 45 ≡ q → (s : List ℕ) × Sign q s × (x ∷ xs ≡ s ++ pick q xs (x ∷ xs))
    go true e = (45 ∷ [], dash, ap (λ (b : ℕ). b ∷ xs) (eqb-true x 45 e))
    go false e = ([], nothing, refl)

digits_write : (t : List ℕ) → eqb (run digit t) 0 ≡ false → Digits (front digit t)
digits_write t h = record {
  some = let l = front_length digit t in let n = eqb-false (run digit t) 0 h in omega arith;
  each = front_all digit t;
}

fraction_write : (u : List ℕ) → Stops digit u → has 46 u && eqb (run digit (past 46 u)) 0 ≡ false
    → (f : List ℕ) × Fraction (front digit (past 46 u)) f × (u ≡ f ++ behind digit (past 46 u))
unfolding has past
fraction_write [] s h = rw (run_none digit [] tt) ([], no_point, refl)
fraction_write (x ∷ xs) s h = go (eqb x 46) refl h
  where
    go : (q : Bool) → eqb x 46 ≡ q → q && eqb (run digit (pick q xs (x ∷ xs))) 0 ≡ false
        → (f : List ℕ) × Fraction (front digit (pick q xs (x ∷ xs))) f × (x ∷ xs ≡ f ++ behind digit (pick q xs (x ∷ xs)))
    go true e k =
        let t = ap (λ (b : ℕ). b ∷ xs) (eqb-true x 46 e) ∙ ap (λ (r : List ℕ). 46 ∷ r) (sym (parts digit xs)) in
        (46 ∷ front digit xs, point (digits_write xs k), t)
    go false e k =
        let z = run_none digit (x ∷ xs) s in
        rw z ([], no_point, refl)

nothing_left : (r : List ℕ) → ltb 0 (length r) ≡ false → r ≡ []
nothing_left [] h = refl
nothing_left (x ∷ xs) h = let l = ltb-false 0 (suc (length xs)) h in absurd (omega arith)

power_made : (xs y : List ℕ) → past 45 xs ≡ y → eqb (run digit y) 0 ≡ false → behind digit y ≡ [] → Power (has 45 xs) (front digit y) (69 ∷ xs)
power_made xs y hy h r =
    let a = sign_write xs in
    let d : front digit y ≡ past 45 xs =
    sym (append-nil (front digit y)) ∙ ap (λ (z : List ℕ). front digit y ++ z) (sym r) ∙ parts digit y ∙ sym hy in
    let e : a.0 ++ front digit y ≡ xs = ap (λ (z : List ℕ). a.0 ++ z) d ∙ sym a.2 in
    subst (λ (z : List ℕ). Power (has 45 xs) (front digit y) (69 ∷ z)) e (power a.1 (digits_write y h))

starts_e : (a b : Bool) → a ≡ true → a && not b ≡ false → b ≡ true
starts_e true b e h = not-false b h
starts_e false b e h = let z : ◌≡◌ {A = ℕ} 0 1 = cc in absurd (omega arith)

has_is : (b x : ℕ) (xs : List ℕ) → has b (x ∷ xs) ≡ true → x ≡ b
unfolding has
has_is b x xs h = eqb-true x b h

power_write : (x : List ℕ) → Clear (tail_rows x) → Power (has 45 (past 69 x)) (front digit (past 45 (past 69 x))) x
power_write [] h = rw (no_tail.1, no_tail.2) no_power
power_write (x ∷ xs) h =
    let e : has 69 (x ∷ xs) ≡ true = starts_e (ltb 0 (suc (length xs))) (has 69 (x ∷ xs)) (lt-ltb 0 (suc (length xs)) (omega arith)) h.0 in
    let p : past 69 (x ∷ xs) ≡ xs = past_has 69 (x ∷ xs) e in
    let q : x ≡ 69 = has_is 69 x xs e in
    let k : eqb (run digit (past 45 xs)) 0 ≡ false = rw (e, p) at h.1.0 in
    let r : ltb 0 (length (behind digit (past 45 xs))) ≡ false = rw p at h.1.1.0 in
    rw (p, q) (power_made xs (past 45 xs) refl k (nothing_left (behind digit (past 45 xs)) r))

shape_write : (t : List ℕ) → Clear (shape_rows t) → Writes (parts_of t) t
unfolding parts_of
shape_write t h =
    let s = past 45 t in
    let u = behind digit s in
    let v = past 46 u in
    let a = sign_write t in
    let b = fraction_write u (run_stops digit s) h.1.0 in
    record {
      s = a.0;
      f = b.0;
      e = behind digit v;
      sign = a.1;
      whole = digits_write s h.0;
      fraction = b.1;
      power = power_write (behind digit v) h.1.1;
      text = a.2 ∙ ap (λ (r : List ℕ). a.0 ++ r) (sym (parts digit s) ∙ ap (λ (r : List ℕ). front digit s ++ r) b.2);
    }

-- ---- the three answers

-- rows of one answer: it is given, or no row's test holds
abbrev Same : Result Decimal Refusal → Rows (Result Decimal Refusal) → Type 0
Same a [] = Unit {0}
Same a (r ∷ rs) = (r.1 ≡ a) × Same a rs

one_answer : (a : Result Decimal Refusal) (rs : Rows (Result Decimal Refusal)) (y : Result Decimal Refusal) → Same a rs → (first rs y ≡ a) ⊎ Clear rs
one_answer a [] y s = inr tt
one_answer a ((true, b) ∷ rs) y s = inl s.0
one_answer a ((false, b) ∷ rs) y s = ⊎_elim (λ e. inl e) (λ c. inr (refl, c)) (one_answer a rs y s.1)

shape_or_none : (t : List ℕ) → (number_in t ≡ no_number) ⊎ Clear (shape_rows t)
unfolding number_in
shape_or_none t = one_answer no_number (shape_rows t) (judged (parts_of t)) (refl, (refl, (refl, (refl, (refl, tt)))))

short_or_long : (p : Parts) → (Short p × (judged p ≡ Ok (decimal_of p))) ⊎ ((Short p → ⊥) × (judged p ≡ too_long))
unfolding judged
short_or_long p = go (ltb 18 (length p.whole + length p.decimals)) (ltb 2 (length p.exponent)) refl refl
  where
    go : (a b : Bool) → ltb 18 (length p.whole + length p.decimals) ≡ a → ltb 2 (length p.exponent) ≡ b
        → (Short p × (pick a too_long (pick b too_long (Ok (decimal_of p))) ≡ Ok (decimal_of p)))
        ⊎ ((Short p → ⊥) × (pick a too_long (pick b too_long (Ok (decimal_of p))) ≡ too_long))
    go true b e f = inr (λ (s : Short p). let l = ltb-true 18 (length p.whole + length p.decimals) e in omega (arith, s.before), refl)
    go false true e f = inr (λ (s : Short p). let l = ltb-true 2 (length p.exponent) f in omega (arith, s.after), refl)
    go false false e f = inl (
      record {
        before = ltb-false 18 (length p.whole + length p.decimals) e;
        after = ltb-false 2 (length p.exponent) f;
      },
      refl,
    )

-- 20 and 21 are apart
rules_apart : no_number ≡ too_long → ⊥
rules_apart e =
    let r : refusal NoNumber File 0 ≡ refusal Digits_rule File 0 = cc in
    let z : NoNumber ≡ Digits_rule = ap (λ (q : Refusal). q.rule) r in
    cc

unclear : (p : Parts) → judged p ≡ no_number → ⊥
unclear p e = ⊎_elim (λ s. cc (s.1, e)) (λ l. rules_apart (sym e ∙ l.1)) (short_or_long p)

-- there is no other answer
pub answers : (t : List ℕ) → ((n : Decimal) × (number_in t ≡ Ok n)) ⊎ ((number_in t ≡ no_number) ⊎ (number_in t ≡ too_long))
answers t = ⊎_elim (λ e. inr (inl e)) (λ c. (
    let h = written (parts_of t) t (shape_write t c) in
    ⊎_elim (λ s. inl (decimal_of (parts_of t), h ∙ s.1)) (λ l. inr (inr (h ∙ l.1))) (short_or_long (parts_of t)))) (shape_or_none t)

-- 20 exactly where the grammar does not write the text
pub no_number_lem : (t : List ℕ) → (number_in t ≡ no_number) ↔ ((p : Parts) → Writes p t → ⊥)
no_number_lem t = (λ e p h. unclear p (sym (written p t h) ∙ e), λ h. ⊎_elim (λ e. e) (λ c. absurd (h (parts_of t) (shape_write t c))) (shape_or_none t))

-- 21 exactly where it does, with too many digits
pub too_long_lem : (t : List ℕ) → (number_in t ≡ too_long) ↔ ((p : Parts) × Writes p t × (Short p → ⊥))
too_long_lem t = (
  λ e. ⊎_elim (λ f. absurd (rules_apart (sym f ∙ e))) (λ c. (
      let h = shape_write t c in
      ⊎_elim
      (λ s. cc (e, written (parts_of t) t h, s.1))
      (λ l. (parts_of t, h, l.0)) (short_or_long (parts_of t)))) (shape_or_none t),
  λ w. ⊎_elim (λ s. absurd (w.2 s.0)) (λ l. written w.0 t w.1 ∙ l.1) (short_or_long w.0),
)

-- a number exactly where it does within its digits; and then it is the parts' number
pub is_number : (t : List ℕ) (n : Decimal) → (number_in t ≡ Ok n) ↔ ((p : Parts) × Writes p t × Short p × (n ≡ decimal_of p))
is_number t n = (
  λ e. ⊎_elim (λ f. cc (e, f)) (λ c. (
      let h = shape_write t c in
      ⊎_elim
      (λ s. (parts_of t, h, s.0, same_number (sym e ∙ (written (parts_of t) t h ∙ s.1))))
      (λ l. cc (e, written (parts_of t) t h, l.1))
      (short_or_long (parts_of t)))) (shape_or_none t),
  λ w. ⊎_elim (λ s. written w.0 t w.1 ∙ s.1 ∙ ap Ok (sym w.3)) (λ l. absurd (l.0 w.2)) (short_or_long w.0),
)
  where
    same_number : {m k : Decimal} → ◌≡◌ {A = Result Decimal Refusal} (Ok m) (Ok k) → m ≡ k
    same_number e = cc
