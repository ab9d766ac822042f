-- What a write does to a buffer: elements stored one behind the other from a place on. A store past the end does
-- nothing, as `set` does, so that nearly every law asks nothing. The laws hold for elements of any type.
-- Assumes nothing.
use Rattle.std.specs.Prelude.{◌≡◌}
use Rattle.std.proofs.Math.Path.{refl, ap}
use Rattle.std.proofs.Common.{sym, ◌∙◌, lt_of_not-le, take_all, length-take-le, take_at, drop-drop}
use mathlib.Core.List.{List, [], ◌∷◌, ◌++◌, append-nil, append_assoc}
use Prim.Native.Nat.{ℕ, zero, suc, ◌+◌, ◌-◌, ◌≤◌, ◌<◌}
use Rattle.std.proofs.Math.Decide.{dec_le}
use Rattle.std.proofs.Math.Numerals.{add-one}
use native.Mathlib.Omega.{arith}
use lib.ListN.{length, get_or, take, drop, set, replicate, length-set, length-drop, take-append-drop, drop_of_length-le}
use Rattle.std.proofs.Math.Seq.{take-set-le, drop-set-lt, drop-cons, set_out, take-nil, drop-nil}
use Rattle.word.specs.Part.{part, drop_take}

module _ {A : Type 0} where
  -- xs with bs stored from place at on
  unfoldable pub put : List A → ℕ → List A → List A
  put xs at [] = xs
  put xs at (b ∷ bs) = put (set xs at b) (at + 1) bs

  pub put_none : (xs : List A) (at : ℕ) → put xs at [] ≡ xs
  unfolding put
  put_none xs at = refl

  pub length_put : (xs : List A) (at : ℕ) (bs : List A) → length (put xs at bs) ≡ length xs
  unfolding put
  length_put xs at [] = refl
  length_put xs at (b ∷ bs) = length_put (set xs at b) (at + 1) bs ∙ length-set xs at b

  -- one piece behind the other. Read from left to right it splits a layout into the stores that a writer makes
  pub put_append : (cs bs xs : List A) (at : ℕ) → put xs at (cs ++ bs) ≡ put (put xs at cs) (at + length cs) bs
  unfolding put
  put_append [] bs xs at = let e : at + 0 ≡ at = omega arith in rw e
  put_append (c ∷ cs) bs xs at = let e : at + suc (length cs) ≡ at + 1 + length cs = omega arith in rw e (put_append cs bs (set xs at c) (at + 1))

  -- before, behind and past the end nothing changes
  pub take_put_before : (n : ℕ) (bs xs : List A) (at : ℕ) → n ≤ at → take n (put xs at bs) ≡ take n xs
  unfolding put
  take_put_before n [] xs at h = refl
  take_put_before n (b ∷ bs) xs at h = take_put_before n bs (set xs at b) (at + 1) (omega arith) ∙ take-set-le n xs at b h

  pub drop_put_after : (n : ℕ) (bs xs : List A) (at : ℕ) → at + length bs ≤ n → drop n (put xs at bs) ≡ drop n xs
  unfolding put
  drop_put_after n [] xs at h = refl
  drop_put_after n (b ∷ bs) xs at h = drop_put_after n bs (set xs at b) (at + 1) (omega arith) ∙ drop-set-lt n xs at b (omega arith)

  pub put_past : (bs xs : List A) (at : ℕ) → length xs ≤ at → put xs at bs ≡ xs
  unfolding put
  put_past [] xs at h = refl
  put_past (b ∷ bs) xs at h = rw (set_out xs at b h) (put_past bs xs (at + 1) (omega arith))

  -- a front is written as the whole is
  take_set : (n : ℕ) (xs : List A) (i : ℕ) (b : A) → take n (set xs i b) ≡ set (take n xs) i b
  take_set zero xs i b = refl
  take_set (suc n) [] i b = refl
  take_set (suc n) (x ∷ xs) zero b = refl
  take_set (suc n) (x ∷ xs) (suc i) b = ap (λ (r : List A). x ∷ r) (take_set n xs i b)

  pub take_put : (n : ℕ) (bs xs : List A) (at : ℕ) → take n (put xs at bs) ≡ put (take n xs) at bs
  unfolding put
  take_put n [] xs at = refl
  take_put n (b ∷ bs) xs at = take_put n bs (set xs at b) (at + 1) ∙ ap (λ (r : List A). put r (at + 1) bs) (take_set n xs at b)

  -- behind a front
  put_cons : (x : A) (bs xs : List A) (at : ℕ) → put (x ∷ xs) (suc at) bs ≡ x ∷ put xs at bs
  unfolding put
  put_cons x [] xs at = refl
  put_cons x (b ∷ bs) xs at = let e : suc at + 1 ≡ suc (at + 1) = omega arith in rw e (put_cons x bs (set xs at b) (at + 1))

  pub put_behind : (p bs xs : List A) (at : ℕ) → put (p ++ xs) (length p + at) bs ≡ p ++ put xs at bs
  put_behind [] bs xs at = let e : 0 + at ≡ at = omega arith in rw e
  put_behind (x ∷ p) bs xs at =
      let e : suc (length p) + at ≡ suc (length p + at) = omega arith in
      ap (λ (k : ℕ). put (x ∷ (p ++ xs)) k bs) e ∙ put_cons x bs (p ++ xs) (length p + at) ∙ ap (λ (r : List A). x ∷ r) (put_behind p bs xs at)

  -- over as many, at the start and among others
  pub put_over : (cs bs xs : List A) → length cs ≡ length bs → put (cs ++ xs) 0 bs ≡ bs ++ xs
  unfolding put
  put_over [] [] xs e = refl
  put_over [] (b ∷ bs) xs e = absurd (omega arith)
  put_over (c ∷ cs) [] xs e = absurd (omega arith)
  put_over (c ∷ cs) (b ∷ bs) xs e = put_cons b bs (cs ++ xs) 0 ∙ ap (λ (r : List A). b ∷ r) (put_over cs bs xs (omega arith))

  pub put_among : (p cs bs xs : List A) (at : ℕ) → length p ≡ at → length cs ≡ length bs → put (p ++ (cs ++ xs)) at bs ≡ p ++ (bs ++ xs)
  put_among p cs bs xs at e f =
      let g : at ≡ length p + 0 = omega arith in
      ap (λ (k : ℕ). put (p ++ (cs ++ xs)) k bs) g ∙ put_behind p bs (cs ++ xs) 0 ∙ ap (λ (r : List A). p ++ r) (put_over cs bs xs f)

  -- where there is room: what stood before, what was stored, what stood behind
  pub put_split : (bs xs : List A) (at : ℕ) → at + length bs ≤ length xs → put xs at bs ≡ take at xs ++ (bs ++ drop (at + length bs) xs)
  put_split bs xs at h =
      let l : length (take at xs) ≡ at = length-take-le at xs (omega arith) in
      let m : length (take (length bs) (drop at xs)) ≡ length bs = length-take-le (length bs) (drop at xs) (simp length-drop (omega arith)) in
      let s : xs ≡ take at xs ++ (take (length bs) (drop at xs) ++ drop (at + length bs) xs) =
      sym (rw (← drop-drop (length bs) at xs, take-append-drop, take-append-drop)) in
      ap (λ (r : List A). put r at bs) s ∙ put_among (take at xs) (take (length bs) (drop at xs)) bs (drop (at + length bs) xs) at l m

  -- up to the end of what was stored
  pub take_put_end : (bs xs : List A) (at : ℕ) → at + length bs ≤ length xs → take (at + length bs) (put xs at bs) ≡ take at xs ++ bs
  take_put_end bs xs at h =
      let l : length (take at xs) ≡ at = length-take-le at xs (omega arith) in
      rw (put_split bs xs at h, ← append_assoc) (take_at (take at xs ++ bs) (drop (at + length bs) xs) (at + length bs)
      (simp lib.ListN.length-append (omega arith)))

  -- a part before, behind, and the part that was stored
  pub part_put_before : (a e : ℕ) (bs xs : List A) (at : ℕ) → e ≤ at → part a e (put xs at bs) ≡ part a e xs
  part_put_before a e bs xs at h = sym (drop_back e (put xs at bs)) ∙ ap (λ (r : List A). drop a r) (take_put_before e bs xs at h) ∙ drop_back e xs
    where
      drop_back : (n : ℕ) (l : List A) → drop a (take n l) ≡ part a n l
      drop_back n l = drop_take a n l

  pub part_put_after : (a e : ℕ) (bs xs : List A) (at : ℕ) → at + length bs ≤ a → part a e (put xs at bs) ≡ part a e xs
  part_put_after a e bs xs at h = ap (λ (r : List A). take (e - a) r) (drop_put_after a bs xs at h)

  pub part_put : (bs xs : List A) (at e : ℕ) → e ≡ at + length bs → e ≤ length xs → part at e (put xs at bs) ≡ bs
  part_put bs xs at e k h =
      let l : length (take at xs) ≡ at = length-take-le at xs (omega arith) in
      rw (put_split bs xs at (omega arith)) (Rattle.word.specs.Part.part_among (take at xs) bs (drop (at + length bs) xs) at e l (omega arith))

  -- a part from `from` on that is lent and comes back: what its writer stored from 0 on is stored from `from` on
  pub put_lent : (xs bs : List A) (from : ℕ)
      → take from xs ++ (put (take (length xs - from) (drop from xs)) 0 bs ++ drop (length xs - from) (drop from xs)) ≡ put xs from bs
  put_lent xs bs from = elim (dec_le from (length xs)) [ yes h ↦ lent_in h | no h ↦ lent_out (lt_of_not-le h) ]
    where
      lent_in : from ≤ length xs
          → take from xs ++ (put (take (length xs - from) (drop from xs)) 0 bs ++ drop (length xs - from) (drop from xs)) ≡ put xs from bs
      lent_in h =
          let n : length xs - from ≡ length (drop from xs) = sym (length-drop from xs) in
          let t : take (length xs - from) (drop from xs) ≡ drop from xs = take_all (length xs - from) (drop from xs) (omega arith) in
          let d : drop (length xs - from) (drop from xs) ≡ [] = drop_of_length-le (drop from xs) {i = length xs - from} (omega arith) in
          let l : length (take from xs) + 0 ≡ from = omega (arith, length-take-le from xs h) in
          let b = put_behind (take from xs) bs (drop from xs) 0 in
          simp (t, d, append-nil) (sym (simp (take-append-drop, l) at b))

      lent_out : length xs < from
          → take from xs ++ (put (take (length xs - from) (drop from xs)) 0 bs ++ drop (length xs - from) (drop from xs)) ≡ put xs from bs
      lent_out h =
          let d : drop from xs ≡ [] = drop_of_length-le xs {i = from} (omega arith) in
          let t : take from xs ≡ xs = take_all from xs (omega arith) in
          simp (d, t, take-nil, drop-nil, put_past bs [] 0 (omega arith), append-nil) (sym (put_past bs xs from (omega arith)))

  -- the same as a caller has it: what came back is known by an equation
  pub lent_back : (xs bs zs : List A) (from : ℕ) → zs ≡ put (take (length xs - from) (drop from xs)) 0 bs
      → take from xs ++ (zs ++ drop (length xs - from) (drop from xs)) ≡ put xs from bs
  lent_back xs bs zs from e = rw e (put_lent xs bs from)

  -- a turn of a loop that stores src from at on: what is left to store after it, stored, is what was left before it,
  -- stored
  pub copy_turn : (d : A) (src buf : List A) (at i : ℕ) → i < length src
      → put (set buf (at + i) (get_or src i d)) (at + (i + 1)) (drop (i + 1) src) ≡ put buf (at + i) (drop i src)
  unfolding put
  copy_turn d src buf at i h =
      let e : at + (i + 1) ≡ at + i + 1 = omega arith in
      rw (e, drop-cons src i d, ← add-one i)

  -- a turn of a loop that stores n times the same
  pub fill_turn : (b : A) (buf : List A) (at n : ℕ) → put (set buf at b) (at + 1) (replicate n b) ≡ put buf at (replicate (n + 1) b)
  unfolding put
  fill_turn b buf at n = rw (add-one n)
