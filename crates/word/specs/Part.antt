-- A part of a list: what `&f[a..e]` is of the slice f. Its laws hold for elements of any type. And a part of a lent
-- slice, with its place in memory.
-- Assumes nothing.
use Rattle.std.specs.Prelude.{◌≡◌, List, [], ◌∷◌, ◌++◌, ℕ, zero, suc, ◌+◌, ◌-◌, ◌≤◌, ◌<◌, length, get_or, take, drop}
use Rattle.std.proofs.Common.{sym, ◌∙◌, add-one, arith, length-drop, length-take-le, take_all, take-take, take-add, take_at, drop_at, drop-cons, drop-drop, get_or-take, get_or-drop}
use Rattle.std.specs.Borrow.{Bor}
use Rattle.std.proofs.Math.Seq.{take-nil}

module _ {A : Type 0} where
  -- the elements of f from place a up to place e
  abbrev pub part : ℕ → ℕ → List A → List A
  part a e f = take (e - a) (drop a f)

  -- dropping some of what was taken, and taking some of what was dropped
  pub drop_take : (n m : ℕ) (l : List A) → drop n (take m l) ≡ take (m - n) (drop n l)
  drop_take zero m l = let e : m - 0 ≡ m = omega arith in rw e
  drop_take (suc n) zero l = let e : 0 - suc n ≡ 0 = omega arith in rw e
  drop_take (suc n) (suc m) [] = rw take-nil
  drop_take (suc n) (suc m) (x ∷ l) = let e : suc m - suc n ≡ m - n = omega arith in rw e (drop_take n m l)

  pub length_part : (a e : ℕ) (f : List A) → e ≤ length f → length (part a e f) ≡ e - a
  length_part a e f h = length-take-le (e - a) (drop a f) (simp length-drop (omega arith))

  pub part_front : (n : ℕ) (f : List A) → part 0 n f ≡ take n f
  part_front n f = let z : n - 0 ≡ n = omega arith in rw z

  pub part_rest : (a : ℕ) (f : List A) → part a (length f) f ≡ drop a f
  part_rest a f = take_all (length f - a) (drop a f) (simp length-drop (omega arith))

  pub part_none : (a e : ℕ) (f : List A) → e ≤ a → part a e f ≡ []
  part_none a e f h = let z : e - a ≡ 0 = omega arith in rw z

  -- a part lies in the first n elements if it ends there: an image is all that a question sees
  pub part_take : (n a e : ℕ) (f : List A) → e ≤ n → part a e (take n f) ≡ part a e f
  part_take n a e f h = rw (drop_take a n f) (take-take (e - a) (n - a) (drop a f) (omega arith))

  -- what is left of a part, and a part of a part
  pub part_drop : (i a e : ℕ) (f : List A) → drop i (part a e f) ≡ part (a + i) e f
  part_drop i a e f =
      let s : e - a - i ≡ e - (a + i) = omega arith in
      drop_take i (e - a) (drop a f) ∙ rw (s, drop-drop)

  pub part_part : (i j a e : ℕ) (f : List A) → a + j ≤ e → part i j (part a e f) ≡ part (a + i) (a + j) f
  part_part i j a e f h =
      let s : a + j - (a + i) ≡ j - i = omega arith in
      rw (part_drop i a e f, s) (take-take (j - i) (e - (a + i)) (drop (a + i) f) (omega arith))

  -- two parts that touch
  pub part_split : (a b e : ℕ) (f : List A) → a ≤ b → b ≤ e → part a e f ≡ part a b f ++ part b e f
  part_split a b e f h k =
      let s : e - a ≡ b - a + (e - b) = omega arith in
      let t : a + (b - a) ≡ b = omega arith in
      rw (s, take-add, drop-drop, t)

  pub part_first : (d : A) (a e : ℕ) (f : List A) → a < e → e ≤ length f → part a e f ≡ get_or f a d ∷ part (a + 1) e f
  part_first d a e f h k =
      let l : a < length f = omega arith in
      let s : e - a ≡ suc (e - (a + 1)) = omega arith in
      rw (s, drop-cons f a d l, add-one a)

  pub get_d_part : (d : A) (i a e : ℕ) (f : List A) → a + i < e → get_or (part a e f) i d ≡ get_or f (a + i) d
  get_d_part d i a e f h = get_or-take (e - a) (drop a f) i d (omega arith) ∙ get_or-drop a f i d

  -- what stands between a front and a back
  pub part_among : (p q r : List A) (a e : ℕ) → length p ≡ a → length q + a ≡ e → part a e (p ++ (q ++ r)) ≡ q
  part_among p q r a e h k = rw (drop_at p (q ++ r) a h) (take_at q r (e - a) (omega arith))

-- ---- a part of a lent slice

-- r is the part of b from p.0 up to p.1: b's own bytes, where they stand in the caller's memory, and not a copy of
-- them
pub record PartOf (b : Bor (List ℕ)) (p : ℕ × ℕ) (r : Bor (List ℕ)) : Type 0 where
  pub bytes : r.now ≡ part p.0 p.1 b.now
  pub block : r.ref_ptr.0 ≡ b.ref_ptr.0
  pub place : r.ref_ptr.1 ≡ b.ref_ptr.1 + p.0

-- r is what b ends with: as many bytes as it has
abbrev pub RestOf : Bor (List ℕ) → Bor (List ℕ) → Type 0
RestOf b r = PartOf b (length b.now - length r.now, length b.now) r

-- what `&b[n..]` is, and b itself
pub rest_from : {b r : Bor (List ℕ)} (n : ℕ) → n ≤ length b.now → r.now ≡ drop n b.now → r.ref_ptr.0 ≡ b.ref_ptr.0 → r.ref_ptr.1 ≡ b.ref_ptr.1 + n → RestOf b r
rest_from {b} {r} n h e k p =
    let l : length r.now ≡ length b.now - n = rw e (length-drop n b.now) in
    let a : length b.now - length r.now ≡ n = omega (arith, l) in
    rw a (record { bytes = e ∙ sym (part_rest n b.now); block = k; place = p })
