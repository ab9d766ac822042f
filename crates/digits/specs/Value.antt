-- What digits mean: each counts ten times what stands behind it (document 01, "Numbers in values").
-- Assumes nothing.
use Rattle.std.specs.Prelude.{◌≡◌, refl, Bool, true, false, List, [], ◌∷◌, ℕ, suc, ◌+◌, ◌-◌, ◌*◌, ◌^◌, ◌≤◌, ◌<◌, length, get_or, drop, leb}
use Rattle.std.proofs.Common.{sym, ap, ◌∙◌, le_trans, le_of_eq, one-mul, mul-le-mul_right, mul-le-mul_left, mul_assoc, add-one, arith, drop_of_length-le, pow-add, drop-cons, le-leb, leb-true}
use Rattle.std.proofs.Math.Nat.{pow-le-pow_right, pow-succ', one-le-pow}
use Rattle.word.specs.Tests.{both}
use Rattle.refusal.specs.Rows.{pick}
use Rattle.chars.specs.Chars.{digit}

-- what a digit is worth; a byte that is none is worth nothing
unfoldable pub worth : ℕ → ℕ
worth b = pick (digit b) (b - 48) 0

-- v with the digits of a text behind it
unfoldable pub value : ℕ → List ℕ → ℕ
value v [] = v
value v (b ∷ bs) = value (v * 10 + worth b) bs

-- ---- laws of the loop over digits: a turn, the end, and that 18 digits fit 64 bits

pub value_more : (v : ℕ) (s : List ℕ) (i : ℕ) → i < length s → value (v * 10 + worth (get_or s i 0)) (drop (i + 1) s) ≡ value v (drop i s)
unfolding value
value_more v s i h = rw (add-one i, drop-cons s i 0 h)

pub value_over : (v : ℕ) (s : List ℕ) (i : ℕ) → length s ≤ i → value v (drop i s) ≡ v
unfolding value
value_over v s i h = rw (drop_of_length-le s h)

pub worth_digit : (b : ℕ) → digit b ≡ true → (worth b ≡ b - 48) × (48 ≤ b) × (b ≤ 57)
unfolding worth
worth_digit b e = let k = both (leb 48 b) (leb b 57) e in (rw e, leb-true 48 b k.0, leb-true b 57 k.1)

-- the character of a number below ten is worth it
pub worth_of : (d : ℕ) → d < 10 → worth (48 + d) ≡ d
unfolding worth
worth_of d h = rw (le-leb 48 (48 + d) (omega arith), le-leb (48 + d) 57 (omega arith)) (omega arith)

pub worth_other : (b : ℕ) → digit b ≡ false → worth b ≡ 0
unfolding worth
worth_other b e = rw e

pub worth_lt : (b : ℕ) → worth b < 10
worth_lt b = go (digit b) refl
  where
    go : (q : Bool) → digit b ≡ q → worth b < 10
    go true e = let d = worth_digit b e in omega arith
    go false e = let d = worth_other b e in omega arith

-- v with n digits more behind it has at most 18
abbrev pub Room : ℕ → ℕ → Type 0
Room v n = (v + 1) * 10 ^ n ≤ 1000000000000000000

grown : (v b n : ℕ) → (v * 10 + worth b + 1) * 10 ^ n ≤ (v + 1) * 10 ^ suc n
grown v b n =
    let l : v * 10 + worth b + 1 ≤ (v + 1) * 10 = omega (arith, worth_lt b) in
    le_trans (mul-le-mul_right (10 ^ n) l) (le_of_eq (mul_assoc (v + 1) 10 (10 ^ n) ∙ ap (λ (x : ℕ). (v + 1) * x) (sym (pow-succ' 10 n))))

pub room_more : (v b n i : ℕ) → i < n → Room v (n - i) → Room (v * 10 + worth b) (n - (i + 1))
room_more v b n i h r = let e : n - i ≡ suc (n - (i + 1)) = omega arith in le_trans (grown v b (n - (i + 1))) (rw e at r)

pub room_lt : (v n : ℕ) → Room v n → v < 1000000000000000000
room_lt v n r = le_trans (le_trans (omega arith) (mul-le-mul_left (v + 1) (one-le-pow n 10 (omega arith)))) r

pub value_le : (v : ℕ) (s : List ℕ) → value v s + 1 ≤ (v + 1) * 10 ^ length s
unfolding value
value_le v [] = omega arith
value_le v (b ∷ bs) = le_trans (value_le (v * 10 + worth b) bs) (grown v b (length bs))

pub room_none : (n : ℕ) → n ≤ 18 → Room 0 n
room_none n h = le_trans (le_of_eq (one-mul (10 ^ n))) (pow-le-pow_right {n = 10} (omega arith) h)

pub room_behind : (s : List ℕ) (k : ℕ) → length s + k ≤ 18 → Room (value 0 s) k
room_behind s k h =
    le_trans (mul-le-mul_right (10 ^ k) (le_trans (value_le 0 s) (le_of_eq (one-mul (10 ^ length s)))))
    (le_trans (le_of_eq (sym (pow-add 10 (length s) k))) (pow-le-pow_right {n = 10} (omega arith) {i = length s + k} {j = 18} h))

pub two_digits : (s : List ℕ) → length s ≤ 2 → value 0 s < 100
two_digits s h =
    let v = value_le 0 s in
    let m = one-mul (10 ^ length s) in
    let t = pow-le-pow_right {n = 10} (omega arith) {i = length s} {j = 2} h in
    omega arith
