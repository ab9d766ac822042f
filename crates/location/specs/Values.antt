-- The values of a text, parted by spaces or tabs, with the place where each starts; separators at either end are
-- dropped (document 01, "Numbers in values", locations).
-- Assumes nothing.
use Rattle.std.specs.Prelude.{◌≡◌, refl, Bool, true, false, not, List, [], ◌∷◌, ◌++◌, ℕ, zero, suc, ◌+◌, ◌-◌, ◌≤◌, ◌<◌, length, take, drop}
use Rattle.std.proofs.Common.{sym, ap, ap₂, subst, subst₂, ◌∙◌, append-nil, add-zero, arith, length-drop, take_at, drop_at}
use Rattle.std.proofs.lemmas.Bool.{not-true}
use Rattle.refusal.specs.Rows.{pick}
use Rattle.chars.specs.Chars.{blank, solid}
use Rattle.chars.specs.Runs.{run, Stops, run_stops}
use Rattle.front_bytes.specs.Run.{front, behind, All, run_yes, parts, front_length, front_all, run_length, behind_all}

-- a value: where it starts, and its bytes
abbrev pub Value : Type 0
Value = ℕ × List ℕ

-- bytes without a blank before the values that follow them: a value that starts at the place, unless there are none
abbrev pub joined : ℕ → List ℕ → List Value → List Value
joined at [] vs = vs
joined at (b ∷ bs) vs = (at, b ∷ bs) ∷ vs

-- a text from a place on: the bytes up to its first blank, and the values behind them
unfoldable pub cut : ℕ → List ℕ → List ℕ × List Value
cut at [] = ([], [])
cut at (b ∷ bs) =
    let r = cut (at + 1) bs in
    pick (blank b) ([], joined (at + 1) r.0 r.1) (b ∷ r.0, r.1)

unfoldable pub values_from : ℕ → List ℕ → List Value
values_from at t = joined at (cut at t).0 (cut at t).1

abbrev pub values_of : List ℕ → List Value
values_of t = values_from 0 t

-- ---- the same by runs: blanks are passed over, and what is no blank up to the next is a value

blank_next : (at b : ℕ) (bs : List ℕ) → blank b ≡ true → values_from at (b ∷ bs) ≡ values_from (at + 1) bs
unfolding values_from cut
blank_next at b bs e = rw e

pub blanks_passed : (at : ℕ) (t : List ℕ) → values_from at t ≡ values_from (at + run blank t) (behind blank t)
unfolding run
blanks_passed at [] = rw (add-zero at)
blanks_passed at (b ∷ bs) = go (blank b) refl (blanks_passed (at + 1) bs)
  where
    go : (q : Bool) → blank b ≡ q → values_from (at + 1) bs ≡ values_from (at + 1 + run blank bs) (behind blank bs)
        → values_from at (b ∷ bs) ≡ values_from (at + pick q (suc (run blank bs)) 0) (drop (pick q (suc (run blank bs)) 0) (b ∷ bs))
    go true e h = let s : at + suc (run blank bs) ≡ at + 1 + run blank bs = omega arith in rw s (blank_next at b bs e ∙ h)
    go false e h = rw (add-zero at)

cut_is : (at : ℕ) (t : List ℕ) → cut at t ≡ (front solid t, values_from (at + run solid t) (behind solid t))
unfolding cut run values_from
cut_is at [] = refl
cut_is at (b ∷ bs) = go (blank b) refl (cut_is (at + 1) bs)
  where
    go : (q : Bool) → blank b ≡ q → cut (at + 1) bs ≡ (front solid bs, values_from (at + 1 + run solid bs) (behind solid bs))
        → ◌≡◌ {A = List ℕ × List Value} (pick q ([], joined (at + 1) (cut (at + 1) bs).0 (cut (at + 1) bs).1) (b ∷ (cut (at + 1) bs).0, (cut (at + 1) bs).1)) (
          take (pick (not q) (suc (run solid bs)) 0) (b ∷ bs),
          values_from (at + pick (not q) (suc (run solid bs)) 0) (drop (pick (not q) (suc (run solid bs)) 0) (b ∷ bs)),
        )
    go true e h = rw (add-zero at) (ap (λ (vs : List Value). ([], vs)) (sym (blank_next at b bs e)))
    go false e h = let s : at + suc (run solid bs) ≡ at + 1 + run solid bs = omega arith in rw (s, h)

joined_some : (at n b : ℕ) (bs : List ℕ) (vs : List Value) → 0 < n → joined at (take n (b ∷ bs)) vs ≡ (at, take n (b ∷ bs)) ∷ vs
joined_some at zero b bs vs h = absurd (omega arith)
joined_some at (suc n) b bs vs h = refl

pub value_first : (at b : ℕ) (bs : List ℕ) → blank b ≡ false
    → values_from at (b ∷ bs) ≡ (at, front solid (b ∷ bs)) ∷ values_from (at + run solid (b ∷ bs)) (behind solid (b ∷ bs))
unfolding values_from
value_first at b bs e =
    let n = run_yes solid b bs (rw e) in
    rw (cut_is at (b ∷ bs)) (joined_some at (run solid (b ∷ bs)) b bs _ (omega arith))

-- ---- the split is the paper's: a text is blanks and values in turn, the values not empty, without a blank, and
-- ended by a blank or the text's end

pub record Solid (v : List ℕ) : Type 0 where
  pub some : 0 < length v
  pub each : All solid v

pub data Parted : ℕ → List ℕ → List Value → Type 0 where
  blanks : {at : ℕ} {g : List ℕ} → All blank g → Parted at g []
  value : {at : ℕ} {vs : List Value} (g v r : List ℕ) → All blank g → Solid v → Stops solid r → Parted (at + length g + length v) r vs
      → Parted at (g ++ (v ++ r)) ((at + length g, v) ∷ vs)

pub values_none : (at : ℕ) → values_from at [] ≡ []
unfolding values_from cut
values_none at = refl

split_blanks : (at : ℕ) (t : List ℕ) → behind blank t ≡ [] → Parted at t (values_from at t)
split_blanks at t e =
    let u : front blank t ≡ t = sym (append-nil (front blank t)) ∙ ap (λ (r : List ℕ). front blank t ++ r) (sym e) ∙ parts blank t in
    let z : values_from at t ≡ [] = blanks_passed at t ∙ ap (λ (r : List ℕ). values_from (at + run blank t) r) e ∙ values_none (at + run blank t) in
    rw z (blanks (rw u at (front_all blank t)))

-- every text has such a split, the definition's; n bounds its length, and r is what is left behind the blanks at its
-- front
split : (n at : ℕ) (t r : List ℕ) → behind blank t ≡ r → length t ≤ n → Parted at t (values_from at t)
split zero at t [] e h = split_blanks at t e
split zero at t (b ∷ bs) e h = let l = ap length e in let m = length-drop (run blank t) t in absurd (omega arith)
split (suc n) at t [] e h = split_blanks at t e
split (suc n) at t (b ∷ bs) e h =
    let g = front blank t in
    let w = b ∷ bs in
    let v = front solid w in
    let r = behind solid w in
    let stop : blank b ≡ false = subst (λ (x : List ℕ). Stops blank x) e (run_stops blank t) in
    let lg : length g ≡ run blank t = front_length blank t in
    let lv : length v ≡ run solid w = front_length solid w in
    let ly : run solid w ≡ suc (run solid bs) = run_yes solid b bs (rw stop) in
    let lr : length r ≡ length w - run solid w = length-drop (run solid w) w in
    let lt : length w ≡ length t - run blank t = ap length (sym e) ∙ length-drop (run blank t) t in
    let text : g ++ (v ++ r) ≡ t = ap (λ (x : List ℕ). g ++ x) (parts solid w ∙ sym e) ∙ parts blank t in
    let z : values_from at t ≡ (at + run blank t, v) ∷ values_from (at + run blank t + run solid w) r =
    blanks_passed at t ∙ ap (λ (x : List ℕ). values_from (at + run blank t) x) e ∙ value_first (at + run blank t) b bs stop in
    let p : at + length g + length v ≡ at + run blank t + run solid w = omega arith in
    let q : (at + length g, v) ∷ values_from (at + length g + length v) r ≡ values_from at t =
    ap₂ (λ (i j : ℕ). (i, v) ∷ values_from j r) (ap (λ (k : ℕ). at + k) lg) p ∙ sym z in
    subst₂ (λ (x : List ℕ) (vs : List Value). Parted at x vs) text q
    (value g v r (front_all blank t) (record { some = omega arith; each = front_all solid w }) (run_stops solid w)
    (split n (at + length g + length v) r (behind blank r) refl (omega arith)))

pub parted : (t : List ℕ) → Parted 0 t (values_of t)
parted t = split (length t) 0 t (behind blank t) refl (omega arith)

-- and no other
first_solid : (v r : List ℕ) → Solid v → Stops blank (v ++ r)
first_solid [] r s = absurd (omega (arith, s.some))
first_solid (x ∷ xs) r s = not-true (blank x) s.each.0

values_solid : (at : ℕ) (v r : List ℕ) → Solid v → Stops solid r → values_from at (v ++ r) ≡ (at, v) ∷ values_from (at + length v) r
values_solid at [] r s h = absurd (omega (arith, s.some))
values_solid at (x ∷ xs) r s h =
    value_first at x (xs ++ r) (not-true (blank x) s.each.0)
    ∙ rw (run_length solid (x ∷ xs) r s.each h, take_at (x ∷ xs) r (suc (length xs)) refl, drop_at (x ∷ xs) r (suc (length xs)) refl)

pub one_split : (at : ℕ) (t : List ℕ) (vs : List Value) → Parted at t vs → values_from at t ≡ vs
one_split at t [] (blanks {g = g} h) =
    blanks_passed at g ∙ ap (λ (r : List ℕ). values_from (at + run blank g) r) (behind_all blank g h) ∙ values_none (at + run blank g)
one_split at t (x ∷ vs) given = go at x t given (λ b r more. one_split b r vs more)
  where
    go : (at : ℕ) (x : Value) (t : List ℕ) → Parted at t (x ∷ vs) → ((b : ℕ) (r : List ℕ) → Parted b r vs → values_from b r ≡ vs) → values_from at t ≡ x ∷ vs
    go at x t (value g v r bg sv st rest) again =
        blanks_passed at (g ++ (v ++ r))
        ∙ rw (run_length blank g (v ++ r) bg (first_solid v r sv), drop_at g (v ++ r) (length g) refl)
        (values_solid (at + length g) v r sv st ∙ ap (λ (us : List Value). (at + length g, v) ∷ us) (again (at + length g + length v) r rest))
