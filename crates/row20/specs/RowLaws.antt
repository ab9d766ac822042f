-- The laws of writing a row: a loop that writes one piece behind the other, and the groups, two at a time.
-- Assumes nothing.
use Rattle.std.specs.Prelude.{◌≡◌, refl, Bool, List, [], ◌∷◌, ◌++◌, ℕ, suc, ◌+◌, ◌*◌, ◌/◌, ◌%◌, ◌≤◌, ◌<◌, ℤ, pos, length, drop}
use Rattle.std.proofs.Common.{sym, ap, ap₂, ◌∙◌, append_assoc, append-nil, mul-add, mul-one, arith, length-append, drop_of_length-le, drop-cons}
use Rattle.word.specs.Put.{put, put_none, put_append, length_put}
use Rattle.word.specs.Word.{bytes_of}
use Rattle.group20.specs.Group20.{words_of, group_bytes, group_of}
use Rattle.group20.specs.GroupLaws.{Words, front_of, put_two, length_group, length_group_of}
use Rattle.row20.specs.Row20.{groups}

-- ---- a loop that writes one piece of w bytes behind the other

-- `left i` is what is left to write from turn i on
pub record Writing (left : ℕ → List ℕ) (w : ℕ) (old : List ℕ) (i : ℕ) (part : List ℕ) : Type 0 where
  pub long : length part ≡ length old
  pub rest : put part (w * i) (left i) ≡ put old 0 (left 0)

pub write_start : (left : ℕ → List ℕ) (w : ℕ) (old : List ℕ) → Writing left w old 0 old
write_start left w old = let e : w * 0 ≡ 0 = omega arith in record { long = refl; rest = rw e }

pub write_turn : {left : ℕ → List ℕ} {w : ℕ} {old : List ℕ} {i : ℕ} {part new : List ℕ} (bs : List ℕ)
    → Writing left w old i part → left i ≡ bs ++ left (i + 1) → length bs ≡ w → new ≡ put part (w * i) bs → Writing left w old (i + 1) new
write_turn {left} {w} {old} {i} {part} {new} bs r e l q =
    let m : w * (i + 1) ≡ w * i + length bs = mul-add w i 1 ∙ ap₂ ◌+◌ refl (mul-one w ∙ sym l) in
    let s : put (put part (w * i) bs) (w * i + length bs) (left (i + 1)) ≡ put part (w * i) (left i) =
    sym (ap (put part (w * i)) e ∙ put_append bs (left (i + 1)) part (w * i)) in
    record {
      long = ap length q ∙ length_put part (w * i) bs ∙ r.long;
      rest = ap₂ (λ (p : List ℕ) (k : ℕ). put p k (left (i + 1))) q m ∙ s ∙ r.rest;
    }

-- nothing is left
pub write_over : {left : ℕ → List ℕ} {w : ℕ} {old : List ℕ} {i : ℕ} {part : List ℕ} → Writing left w old i part → left i ≡ [] → part ≡ put old 0 (left 0)
write_over {left} {w} {old} {i} {part} r e = sym (put_none part (w * i)) ∙ ap (put part (w * i)) (sym e) ∙ r.rest

-- ---- the groups of a row

pub length_groups : (high : Bool) (row : List ℤ) → length (groups high row) ≡ 10 * (length row / 4)
unfolding groups
length_groups high [] = refl
length_groups high (a ∷ []) = refl
length_groups high (a ∷ b ∷ []) = refl
length_groups high (a ∷ b ∷ c ∷ []) = refl
length_groups high (a ∷ b ∷ c ∷ d ∷ row) =
    omega (arith, length-append (group_bytes high a b c d) (groups high row), length_group high a b c d, length_groups high row)

pub groups_turn : (high : Bool) (xs : List ℤ) (g : ℕ) → 4 * g + 4 ≤ length xs
    → groups high (drop (4 * g) xs)
    ≡ group_of high xs g ++ groups high (drop (4 * (g + 1)) xs)
unfolding groups group_of
groups_turn high xs g h =
    let n : 4 * (g + 1) ≡ suc (suc (suc (suc (4 * g)))) = omega arith in
    let n1 : 4 * g + 1 ≡ suc (4 * g) = omega arith in
    let n2 : 4 * g + 2 ≡ suc (suc (4 * g)) = omega arith in
    let n3 : 4 * g + 3 ≡ suc (suc (suc (4 * g))) = omega arith in
    let a = drop-cons xs (4 * g) (pos 0) (omega arith) in
    let b = drop-cons xs (suc (4 * g)) (pos 0) (omega arith) in
    let c = drop-cons xs (suc (suc (4 * g))) (pos 0) (omega arith) in
    let d = drop-cons xs (suc (suc (suc (4 * g)))) (pos 0) (omega arith) in
    rw (n, n1, n2, n3, a, b, c, d)

pub groups_over : (high : Bool) (xs : List ℤ) (g : ℕ) → length xs ≤ 4 * g → groups high (drop (4 * g) xs) ≡ []
unfolding groups
groups_over high xs g h = rw (drop_of_length-le xs {i = 4 * g} h)

-- ---- two groups at a time

-- what is left to write behind k pairs of groups
unfoldable pub pairs_from : Bool → List ℤ → ℕ → List ℕ
pairs_from high row k = groups high (drop (8 * k) row)

pub pairs_all : (high : Bool) (row : List ℤ) → pairs_from high row 0 ≡ groups high row
unfolding pairs_from
pairs_all high row = refl

-- by groups, of which each pair has two
pairs_groups : (high : Bool) (row : List ℤ) (k : ℕ) → pairs_from high row k ≡ groups high (drop (4 * (2 * k)) row)
unfolding pairs_from
pairs_groups high row k = let a : 8 * k ≡ 4 * (2 * k) = omega arith in ap (λ (n : ℕ). groups high (drop n row)) a

pairs_turn : (high : Bool) (row : List ℤ) (k : ℕ) → 8 * k + 8 ≤ length row
    → pairs_from high row k ≡ (group_of high row (2 * k) ++ group_of high row (2 * k + 1)) ++ pairs_from high row (k + 1)
pairs_turn high row k h =
    let b : 2 * k + 1 + 1 ≡ 2 * (k + 1) = omega arith in
    pairs_groups high row k ∙ groups_turn high row (2 * k) (omega arith)
    ∙ ap (λ (bs : List ℕ). group_of high row (2 * k) ++ bs) (groups_turn high row (2 * k + 1) (omega arith)
    ∙ ap (λ (g : ℕ). group_of high row (2 * k + 1) ++ groups high (drop (4 * g) row)) b
    ∙ ap (λ (bs : List ℕ). group_of high row (2 * k + 1) ++ bs) (sym (pairs_groups high row (k + 1))))
    ∙ sym (append_assoc (group_of high row (2 * k)) (group_of high row (2 * k + 1)) (pairs_from high row (k + 1)))

length_two : (high : Bool) (row : List ℤ) (g h : ℕ) → length (group_of high row g ++ group_of high row h) ≡ 20
length_two high row g h = length-append (group_of high row g) (group_of high row h) ∙ ap₂ ◌+◌ (length_group_of high row g) (length_group_of high row h)

-- a pair more is written: the front of its first group, and the rest of the two behind it
pub pair_turn : (high : Bool) {row : List ℤ} {old part front new : List ℕ} {k w a b c d w' a' b' c' d' : ℕ}
    → Writing (pairs_from high row) 20 old k part → 8 * k + 8 ≤ length row → Words row (2 * k) w a b c d → Words row (2 * k + 1) w' a' b' c' d'
    → front ≡ put part (20 * k) (front_of high w a b c) → new ≡ put front (20 * k + 8) (bytes_of 2 high d ++ words_of high w' a' b' c' d')
    → Writing (pairs_from high row) 20 old (k + 1) new
pair_turn high {row} {part = part} {k = k} r h p q e f =
    write_turn (group_of high row (2 * k) ++ group_of high row (2 * k + 1)) r (pairs_turn high row k h) (length_two high row (2 * k) (2 * k + 1))
    (f ∙ rw e (put_two high part (20 * k) p q))

-- one group behind them, or none
pub one_left : (n k : ℕ) → 8 * k < n → n % 4 ≡ 0 → 4 * (2 * k) + 4 ≤ n
one_left n k h m = omega arith

pub pairs_one : (high : Bool) (row : List ℤ) (k : ℕ) → 8 * k < length row → length row < 8 * k + 8 → length row % 4 ≡ 0
    → pairs_from high row k ≡ group_of high row (2 * k)
pairs_one high row k h l m =
    pairs_groups high row k ∙ groups_turn high row (2 * k) (one_left (length row) k h m)
    ∙ ap (λ (bs : List ℕ). group_of high row (2 * k) ++ bs) (groups_over high row (2 * k + 1) (omega arith))
    ∙ append-nil (group_of high row (2 * k))

pub pairs_none : (high : Bool) (row : List ℤ) (k : ℕ) → length row ≤ 8 * k → pairs_from high row k ≡ []
pairs_none high row k h = pairs_groups high row k ∙ groups_over high row (2 * k) (omega arith)
