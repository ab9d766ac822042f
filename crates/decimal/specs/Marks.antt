-- What never is a number: a text with any byte but digits, a point, a minus and E. The comma, the plus and the space
-- are such bytes.
-- Assumes nothing.
use Rattle.std.specs.Prelude.{◌≡◌, refl, Bool, true, false, ◌||◌, List, ◌∷◌, ◌++◌, ℕ, eqb}
use Rattle.std.proofs.Common.{sym, ◌∙◌, arith}
use Rattle.front_bytes.specs.Run.{All, all_append, all_among, all_weaker}
use Rattle.chars.specs.Chars.{digit}
use Rattle.decimal_parts.specs.Grammar.{Parts, Sign, Sign.dash, Sign.nothing, Fraction, Fraction.no_point}
use Rattle.decimal_parts.specs.Grammar.{Fraction.point, Power, Power.no_power, Power.power, Writes}
use Rattle.decimal.specs.Number.{no_number, number_in}
use Rattle.decimal.specs.Agreed.{no_number_lem}

-- a digit, a point, a minus or E
abbrev pub mark : ℕ → Bool
mark b = digit b || eqb b 46 || eqb b 45 || eqb b 69

digit_marks : (ds : List ℕ) → All digit ds → All mark ds
digit_marks = all_weaker digit mark (λ b e. rw e)

sign_marks : {m : Bool} {s : List ℕ} → Sign m s → All mark s
sign_marks dash = (refl, tt)
sign_marks nothing = tt

fraction_marks : {ds f : List ℕ} → Fraction ds f → All mark f
fraction_marks no_point = tt
fraction_marks (point {ds = ds} k) = (refl, digit_marks ds k.each)

power_marks : {m : Bool} {es e : List ℕ} → Power m es e → All mark e
power_marks no_power = tt
power_marks (power {s = s} {ds = ds} m k) = (refl, all_append mark s ds (sign_marks m) (digit_marks ds k.each))

pub written_marks : (p : Parts) (t : List ℕ) → Writes p t → All mark t
written_marks p t h =
    rw h.text
    (all_append mark h.s (p.whole ++ (h.f ++ h.e)) (sign_marks h.sign)
    (all_append mark p.whole (h.f ++ h.e) (digit_marks p.whole h.whole.each)
    (all_append mark h.f h.e (fraction_marks h.fraction) (power_marks h.power))))

-- any other byte, anywhere in the text
pub other_byte : (b : ℕ) → mark b ≡ false → (before after : List ℕ) → number_in (before ++ b ∷ after) ≡ no_number
other_byte b e before after =
    (no_number_lem (before ++ b ∷ after)).1 (λ p h. (
    let z : ◌≡◌ {A = Bool} true false = sym (all_among mark b before after (written_marks p (before ++ b ∷ after) h)) ∙ e in
    let n : ◌≡◌ {A = ℕ} 0 1 = cc in
    omega arith))

pub comma : (before after : List ℕ) → number_in (before ++ 44 ∷ after) ≡ no_number
comma = other_byte 44 refl

pub plus : (before after : List ℕ) → number_in (before ++ 43 ∷ after) ≡ no_number
plus = other_byte 43 refl

pub space : (before after : List ℕ) → number_in (before ++ 32 ∷ after) ≡ no_number
space = other_byte 32 refl
