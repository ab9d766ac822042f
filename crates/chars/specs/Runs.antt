-- Bytes at the front of a list that pass a test, and lists that are the same.
-- Assumes nothing.
use Rattle.std.specs.Prelude.{◌≡◌, Bool, ◌&&◌, get_or, take, drop, eqb, cond}
use Rattle.std.proofs.Math.Path.{refl}
use Rattle.std.proofs.Common.{sym, ap, ap₂, ◌∙◌, add-one, drop_of_length-le, take-append-drop, drop-cons, drop-drop, length-take-le, eqb-true, eq-eqb}
use Rattle.std.proofs.Math.Bool.{true, false}
use mathlib.Core.List.{List, [], ◌∷◌, ◌++◌}
use Prim.Native.Nat.{ℕ, suc, ◌+◌, ◌-◌, ◌≤◌, ◌<◌}
use native.Mathlib.Omega.{arith}
use Rattle.std.proofs.Math.ListN.{length}
use Rattle.word.specs.Tests.{both}
use Rattle.refusal.specs.Rows.{pick}
use Rattle.std.specs.List.{prefix_len, list_all, fold, zip}

-- what is left of a list that is walked by an index, one element at a time
pub more : (s : List ℕ) (i : ℕ) → i < length s → drop i s ≡ get_or s i 0 ∷ drop (i + 1) s
more s i h = rw (add-one, drop-cons s i 0)

pub none : (s : List ℕ) (i : ℕ) → length s ≤ i → drop i s ≡ []
none s i h = drop_of_length-le s h

-- every byte passes
unfoldable pub all : (ℕ → Bool) → List ℕ → Bool
all p [] = true
all p (b ∷ bs) = p b && all p bs

-- how many bytes at the front pass
unfoldable pub run : (ℕ → Bool) → List ℕ → ℕ
run p [] = 0
run p (b ∷ bs) = pick (p b) (suc (run p bs)) 0

-- the first byte, if there is one, does not pass
abbrev pub Stops : (ℕ → Bool) → List ℕ → Type 0
Stops p [] = Unit {0}
Stops p (b ∷ bs) = p b ≡ false

-- two lists are the same
unfoldable pub same : List ℕ → List ℕ → Bool
same [] [] = true
same [] (y ∷ ys) = false
same (x ∷ xs) [] = false
same (x ∷ xs) (y ∷ ys) = eqb x y && same xs ys

module _ (p : ℕ → Bool) where
  pub all_append : (xs ys : List ℕ) → all p xs ≡ true → all p ys ≡ true → all p (xs ++ ys) ≡ true
  unfolding all
  all_append [] ys h k = k
  all_append (x ∷ xs) ys h k =
      let a = both (p x) (all p xs) h in
      rw a.0 (all_append xs ys a.1 k)

  pub run_le : (s : List ℕ) → run p s ≤ length s
  unfolding run
  run_le [] = omega arith
  run_le (b ∷ bs) = go (p b) (run_le bs)
    where
      go : (w : Bool) → run p bs ≤ length bs → pick w (suc (run p bs)) 0 ≤ suc (length bs)
      go true h = omega arith
      go false h = omega arith

  pub run_all : (s : List ℕ) → all p (take (run p s) s) ≡ true
  unfolding run all
  run_all [] = refl
  run_all (b ∷ bs) = go (p b) refl (run_all bs)
    where
      go : (w : Bool) → p b ≡ w → all p (take (run p bs) bs) ≡ true → all p (take (pick w (suc (run p bs)) 0) (b ∷ bs)) ≡ true
      go true e h = rw e h
      go false e h = refl

  pub run_stops : (s : List ℕ) → Stops p (drop (run p s) s)
  unfolding run
  run_stops [] = tt
  run_stops (b ∷ bs) = go (p b) refl (run_stops bs)
    where
      go : (w : Bool) → p b ≡ w → Stops p (drop (run p bs) bs) → Stops p (drop (pick w (suc (run p bs)) 0) (b ∷ bs))
      go true e h = h
      go false e h = e

  -- a front that passes, and behind it a byte that does not
  pub run_append : (xs ys : List ℕ) → all p xs ≡ true → Stops p ys → run p (xs ++ ys) ≡ length xs
  unfolding run all
  run_append [] [] h s = refl
  run_append [] (y ∷ ys) h s = rw s
  run_append (x ∷ xs) ys h s =
      let a = both (p x) (all p xs) h in
      rw a.0 (ap suc (run_append xs ys a.1 s))

  -- a front that is all of them is counted whole
  pub run_over : (xs ys : List ℕ) → all p xs ≡ true → run p (xs ++ ys) ≡ length xs + run p ys
  unfolding run all
  run_over [] ys h = omega arith
  run_over (x ∷ xs) ys h =
      let a = both (p x) (all p xs) h in
      rw a.0 (ap suc (run_over xs ys a.1) ∙ omega arith)

  -- what the byte at a place tells of the run from there, and of all from there
  pub run_more : (s : List ℕ) (i : ℕ) → i < length s → p (get_or s i 0) ≡ true → i + run p (drop i s) ≡ i + 1 + run p (drop (i + 1) s)
  unfolding run
  run_more s i h e = rw (more s i h, e) (omega arith)

  pub run_end : (s : List ℕ) (i : ℕ) → i < length s → p (get_or s i 0) ≡ false → i ≡ i + run p (drop i s)
  unfolding run
  run_end s i h e = rw (more s i h, e) (omega arith)

  pub run_none : (s : List ℕ) (i : ℕ) → length s ≤ i → i ≡ i + run p (drop i s)
  unfolding run
  run_none s i h = rw (none s i h) (omega arith)

  -- and where w is what was found before
  pub all_turn : (s : List ℕ) (i : ℕ) (w : Bool) → i < length s → ((w && p (get_or s i 0)) && all p (drop (i + 1) s)) ≡ (w && all p (drop i s))
  unfolding all
  all_turn s i true h = rw (more s i h)
  all_turn s i false h = refl

  pub all_through : (s : List ℕ) (i : ℕ) (w : Bool) → length s ≤ i → w ≡ (w && all p (drop i s))
  unfolding all
  all_through s i true h = rw (none s i h)
  all_through s i false h = refl

  pub all_more : (s : List ℕ) (i : ℕ) → i < length s → p (get_or s i 0) ≡ true → all p (drop (i + 1) s) ≡ all p (drop i s)
  unfolding all
  all_more s i h e = rw (more s i h, e)

  pub all_end : (s : List ℕ) (i : ℕ) → i < length s → p (get_or s i 0) ≡ false → false ≡ all p (drop i s)
  unfolding all
  all_end s i h e = rw (more s i h, e)

  pub all_over : (s : List ℕ) (i : ℕ) → length s ≤ i → true ≡ all p (drop i s)
  unfolding all
  all_over s i h = rw (none s i h)

-- a test that is weaker
pub all_weaker : (p q : ℕ → Bool) → ((b : ℕ) → p b ≡ true → q b ≡ true) → (s : List ℕ) → all p s ≡ true → all q s ≡ true
unfolding all
all_weaker p q w [] h = refl
all_weaker p q w (b ∷ bs) h =
    let a = both (p b) (all p bs) h in
    rw (w b a.0) (all_weaker p q w bs a.1)

-- a run of some of them is passed over whole
pub run_part : (p q : ℕ → Bool) → ((b : ℕ) → q b ≡ true → p b ≡ true) → (s : List ℕ) (i n : ℕ) → n ≡ run q (drop i s)
    → i + n + run p (drop (i + n) s) ≡ i + run p (drop i s)
run_part p q w s i n e =
    let l : List ℕ = drop i s in
    let a : all p (take n l) ≡ true = all_weaker q p w (take n l) (rw e (run_all q l)) in
    let k : length (take n l) ≡ n = length-take-le n l (rw e (run_le q l)) in
    let o : run p l ≡ length (take n l) + run p (drop n l) = ap (run p) (sym (take-append-drop n l)) ∙ run_over p (take n l) (drop n l) a in
    let d : drop n l ≡ drop (i + n) s = drop-drop n i s in
    let r : run p (drop n l) ≡ run p (drop (i + n) s) = ap (run p) d in
    omega arith

-- ---- the same list

pub same_eq : (xs ys : List ℕ) → same xs ys ≡ true → xs ≡ ys
unfolding same
same_eq [] [] h = refl
same_eq [] (y ∷ ys) h = let z : ◌≡◌ {A = ℕ} 0 1 = cc in absurd (omega arith)
same_eq (x ∷ xs) [] h = let z : ◌≡◌ {A = ℕ} 0 1 = cc in absurd (omega arith)
same_eq (x ∷ xs) (y ∷ ys) h =
    let k = both (eqb x y) (same xs ys) h in
    ap₂ (λ (z : ℕ) (zs : List ℕ). z ∷ zs) (eqb-true x y k.0) (same_eq xs ys k.1)

pub same_refl : (xs : List ℕ) → same xs xs ≡ true
unfolding same
same_refl [] = refl
same_refl (x ∷ xs) = rw (eq-eqb x x refl) (same_refl xs)

pub same_not : (xs ys : List ℕ) → same xs ys ≡ false → xs ≡ ys → ⊥
same_not xs ys h e = let k : same xs ys ≡ true = rw e (same_refl ys) in let z : ◌≡◌ {A = ℕ} 0 1 = cc in omega arith

-- what one byte of both tells, and what the rest does
module _ (p k : List ℕ) (i : ℕ) where
  pub same_short : i < length p → length k ≤ i → false ≡ same (drop i p) (drop i k)
  unfolding same
  same_short h g = rw (more p i h, none k i g)

  pub same_apart : i < length p → i < length k → eqb (get_or p i 0) (get_or k i 0) ≡ false → false ≡ same (drop i p) (drop i k)
  unfolding same
  same_apart h g l = rw (more p i h, more k i g, l)

  pub same_next : i < length p → i < length k → eqb (get_or p i 0) (get_or k i 0) ≡ true → same (drop (i + 1) p) (drop (i + 1) k) ≡ same (drop i p) (drop i k)
  unfolding same
  same_next h g l = rw (more p i h, more k i g, l)

  pub same_longer : length p ≤ i → i < length k → false ≡ same (drop i p) (drop i k)
  unfolding same
  same_longer h g = rw (none p i h, more k i g)

  pub same_ended : length p ≤ i → length k ≤ i → true ≡ same (drop i p) (drop i k)
  unfolding same
  same_ended h g = rw (none p i h, none k i g)

-- ---- the same in the library's words

pub run_prefix : (p : ℕ → Bool) (s : List ℕ) → prefix_len p s ≡ run p s
unfolding run
run_prefix p [] = refl
run_prefix p (b ∷ bs) = go (p b) (run_prefix p bs)
  where
    go : (w : Bool) → prefix_len p bs ≡ run p bs → cond w (1 + prefix_len p bs) 0 ≡ pick w (suc (run p bs)) 0
    go true e = omega arith
    go false e = refl

pub all_list : (p : ℕ → Bool) (s : List ℕ) → list_all p s ≡ all p s
unfolding all
all_list p [] = refl
all_list p (b ∷ bs) = rw (all_list p bs)

pub all_fold : (p : ℕ → Bool) (w : Bool) (s : List ℕ) → fold (λ (ok : Bool) (b : ℕ). ok && p b) w s ≡ (w && all p s)
unfolding all
all_fold p true [] = refl
all_fold p false [] = refl
all_fold p true (b ∷ bs) = all_fold p (p b) bs
all_fold p false (b ∷ bs) = all_fold p false bs

pub same_pairs : (xs ys : List ℕ) → length xs ≡ length ys → list_all (λ (q : ℕ × ℕ). eqb q.0 q.1) (zip xs ys) ≡ same xs ys
unfolding same
same_pairs [] [] h = refl
same_pairs [] (y ∷ ys) h = absurd (omega arith)
same_pairs (x ∷ xs) [] h = absurd (omega arith)
same_pairs (x ∷ xs) (y ∷ ys) h = rw (same_pairs xs ys (omega arith))

-- texts that are not as long are not the same
pub same_long : (xs ys : List ℕ) → (length xs ≡ length ys → ⊥) → false ≡ same xs ys
same_long xs ys h = go (same xs ys) refl
  where
    go : (w : Bool) → same xs ys ≡ w → false ≡ w
    go true e = absurd (h (ap length (same_eq xs ys e)))
    go false e = refl
