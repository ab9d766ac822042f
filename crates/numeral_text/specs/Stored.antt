-- What each step of the writer stores, and how long a text is. Assumes nothing.
use Rattle.std.specs.Prelude.{◌≡◌, refl, Bool, true, false, List, [], ◌∷◌, ◌++◌, ℕ, zero, suc, ◌+◌, ◌≤◌, ◌<◌, length, set, ◌-◌, ◌/◌, ◌^◌}
use Rattle.std.proofs.Common.{sym, ap, ◌∙◌, div-one, arith, length-set, length-append}
use Rattle.word.specs.Put.{put}
use Rattle.word.specs.Wrote.{Room, Wrote, joined, room_back}
use Rattle.digits.specs.Digits.{digits, digits_some}
use Rattle.decimal_parts.specs.Grammar.{Parts}
use Rattle.digits.specs.LastDigits.{last_digits, before_turn}
use Rattle.numeral_text.specs.NumeralText.{unless_zero, sign_text, point_text, power_text, spelling}

-- ---- the sign

pub sign_room : (xs : List ℕ) (at : ℕ) (m : Bool) → m ≡ true → Room xs at (sign_text m) → at < length xs
unfolding sign_text
sign_room xs at m e r = let q : Room xs at (45 ∷ []) = rw e at r in omega arith

pub sign_there : (xs : List ℕ) (at : ℕ) (m : Bool) → m ≡ true → Wrote xs at (sign_text m) (at + 1) (set xs at 45)
unfolding put sign_text
sign_there xs at m e = rw e (refl, refl)

pub sign_none : (xs : List ℕ) (at : ℕ) (m : Bool) → m ≡ false → Wrote xs at (sign_text m) at xs
unfolding put sign_text
sign_none xs at m e = rw e (omega arith, refl)

-- ---- what stands before the last k digits: a division by ten, and the last

pub before_start : (c k : ℕ) → c / 10 ^ (k - 0) ≡ c / 10 ^ k
before_start c k = let s : k - 0 ≡ k = omega arith in ap (λ (n : ℕ). c / 10 ^ n) s

pub before_again : (c k left i : ℕ) → i < k → left / 10 ^ (k - i) ≡ c / 10 ^ k → left / 10 / 10 ^ (k - (i + 1)) ≡ c / 10 ^ k
before_again c k left i h e =
    let s : k - i ≡ suc (k - (i + 1)) = omega arith in
    before_turn left (k - (i + 1)) ∙ ap (λ (n : ℕ). left / 10 ^ n) (sym s) ∙ e

pub before_over : (c k left i : ℕ) → i ≤ k → k ≤ i → left / 10 ^ (k - i) ≡ c / 10 ^ k → left ≡ c / 10 ^ k
before_over c k left i h l e =
    let s : k - i ≡ 0 = omega arith in
    sym (div-one left) ∙ ap (λ (n : ℕ). left / 10 ^ n) (sym s) ∙ e

-- ---- the point with its digits, and E with its power

pub point_none : (xs : List ℕ) (at c k : ℕ) → k < 1 → Wrote xs at (point_text (last_digits k c)) at xs
unfolding put point_text last_digits
point_none xs at c zero h = (omega arith, refl)
point_none xs at c (suc k) h = absurd (omega arith)

pub point_shape : (c k : ℕ) → 1 ≤ k → point_text (last_digits k c) ≡ 46 ∷ last_digits k c
unfolding point_text last_digits
point_shape c zero h = absurd (omega arith)
point_shape c (suc k) h = refl

pub point_room : (xs : List ℕ) (at c k : ℕ) → 1 ≤ k → Room xs at (point_text (last_digits k c))
    → (at < length xs) × Room (set xs at 46) (at + 1) (last_digits k c)
point_room xs at c k h r =
    let q : Room xs at (46 ∷ last_digits k c) = rw (point_shape c k h) at r in
    let l = length-set xs at 46 in
    (omega arith, omega arith)

pub point_there : (xs : List ℕ) (at c k r : ℕ) (ys : List ℕ) → 1 ≤ k → Wrote (set xs at 46) (at + 1) (last_digits k c) r ys
    → Wrote xs at (point_text (last_digits k c)) r ys
unfolding put
point_there xs at c k r ys h (e, w) = rw (point_shape c k h) (omega arith, w)

pub power_none : (xs : List ℕ) (at far : ℕ) (down : Bool) → far < 1 → Wrote xs at (power_text down (unless_zero far)) at xs
unfolding put power_text
power_none xs at zero down h = (omega arith, refl)
power_none xs at (suc k) down h = absurd (omega arith)

power_some : (ds : List ℕ) (down : Bool) → 0 < length ds → power_text down ds ≡ 69 ∷ (sign_text down ++ ds)
unfolding power_text
power_some [] down h = absurd (omega arith)
power_some (d ∷ ds) down h = refl

pub not_zero : (far : ℕ) → 1 ≤ far → unless_zero far ≡ digits far
not_zero zero h = absurd (omega arith)
not_zero (suc k) h = refl

pub power_shape : (far : ℕ) (down : Bool) → 1 ≤ far → power_text down (unless_zero far) ≡ 69 ∷ (sign_text down ++ digits far)
power_shape far down h = rw (not_zero far h) (power_some (digits far) down (digits_some far))

pub power_room : (xs : List ℕ) (at far : ℕ) (down : Bool) → 1 ≤ far → Room xs at (power_text down (unless_zero far))
    → (at < length xs) × Room (set xs at 69) (at + 1) (sign_text down)
    × ((r : ℕ) (ys : List ℕ) → Wrote (set xs at 69) (at + 1) (sign_text down) r ys → Room ys r (digits far))
power_room xs at far down h r =
    let q : Room xs at (69 ∷ (sign_text down ++ digits far)) = rw (power_shape far down h) at r in
    let l = length-set xs at 69 in
    let k = length-append (sign_text down) (digits far) in
    let s : Room (set xs at 69) (at + 1) (sign_text down ++ digits far) = omega arith in
    (omega arith, omega arith, λ r ys w. room_back (set xs at 69) (at + 1) (sign_text down) (digits far) r ys s w)

pub power_there : (xs : List ℕ) (at far : ℕ) (down : Bool) → 1 ≤ far → (r : ℕ) (ys : List ℕ) (s : ℕ) (zs : List ℕ)
    → Wrote (set xs at 69) (at + 1) (sign_text down) r ys → Wrote ys r (digits far) s zs → Wrote xs at (power_text down (unless_zero far)) s zs
unfolding put
power_there xs at far down h r ys s zs w v =
    let j = joined (set xs at 69) (at + 1) (sign_text down) (digits far) r ys s zs w v in
    rw (power_shape far down h) (omega (arith, j.0), j.1)

-- ---- the whole text, and its length

pub text_length : (p : Parts)
    → length (spelling p) ≡ length (sign_text p.minus) + (length p.whole + (length (point_text p.decimals) + length (power_text p.down p.exponent)))
unfolding spelling
text_length p = simp length-append
