-- Writing one piece behind the other: what was stored and where the next piece begins.
-- Assumes nothing.
use Rattle.std.specs.Prelude.{◌≡◌, refl, List, [], ◌++◌, ℕ, ◌+◌, ◌≤◌, length}
use Rattle.std.proofs.Common.{sym, ap, ◌∙◌, arith, length-append}
use Rattle.word.specs.Put.{put, length_put, put_append, put_none}

-- there is room for bs from at on
abbrev pub Room : List ℕ → ℕ → List ℕ → Type 0
Room xs at bs = at + length bs ≤ length xs

-- bs was stored in xs from at on, which made it ys; the next piece begins at r
abbrev pub Wrote : List ℕ → ℕ → List ℕ → ℕ → List ℕ → Type 0
Wrote xs at bs r ys = (r ≡ at + length bs) × (ys ≡ put xs at bs)

module _ (xs : List ℕ) (at : ℕ) (bs cs : List ℕ) where
  -- two pieces
  pub joined : (r : ℕ) (ys : List ℕ) (s : ℕ) (zs : List ℕ) → Wrote xs at bs r ys → Wrote ys r cs s zs → Wrote xs at (bs ++ cs) s zs
  joined r ys s zs (e, w) (d, v) =
      (simp length-append (omega arith), v ∙ rw (w, e) (sym (put_append bs cs xs at)))

  pub room_front : Room xs at (bs ++ cs) → Room xs at bs
  room_front h = let l = length-append bs cs in omega arith

  pub room_back : (r : ℕ) (ys : List ℕ) → Room xs at (bs ++ cs) → Wrote xs at bs r ys → Room ys r cs
  room_back r ys h (e, w) =
      let l = length-append bs cs in
      let k : length ys ≡ length xs = ap length w ∙ length_put xs at bs in
      omega arith

-- ---- a walk: the rest, stored from here on, is the whole, stored from its start on
abbrev pub Left : List ℕ → ℕ → List ℕ → ℕ → List ℕ → List ℕ → Type 0
Left xs at whole to rest ys = (to + length rest ≡ at + length whole) × (put ys to rest ≡ put xs at whole) × (length ys ≡ length xs)

module _ (xs : List ℕ) (at : ℕ) (whole : List ℕ) where
  pub left_start : Left xs at whole at whole xs
  left_start = (refl, refl, refl)

  module _ (to : ℕ) (rest ys : List ℕ) (l : Left xs at whole to rest ys) where
    module _ (bs cs : List ℕ) (e : rest ≡ bs ++ cs) where
      pub left_room : Room xs at whole → Room ys to bs
      left_room h = let k : length rest ≡ length bs + length cs = ap length e ∙ length-append bs cs in omega (arith, l.0, l.2)

      pub left_turn : (r : ℕ) (zs : List ℕ) → Wrote ys to bs r zs → Left xs at whole r cs zs
      left_turn r zs (d, w) =
          let k : length rest ≡ length bs + length cs = ap length e ∙ length-append bs cs in
          let n : length zs ≡ length ys = ap length w ∙ length_put ys to bs in
          (omega (arith, l.0), rw (w, d) (sym (put_append bs cs ys to) ∙ sym (ap (λ (q : List ℕ). put ys to q) e) ∙ l.1), n ∙ l.2)

    -- nothing is left, or one last piece
    pub left_over : rest ≡ [] → Wrote xs at whole to ys
    left_over e =
        let k : length rest ≡ 0 = ap length e in
        (omega (arith, l.0), sym (put_none ys to) ∙ sym (ap (λ (q : List ℕ). put ys to q) e) ∙ l.1)

    pub left_last_room : (bs : List ℕ) → rest ≡ bs → Room xs at whole → Room ys to bs
    left_last_room bs e h = let k : length rest ≡ length bs = ap length e in omega (arith, l.0, l.2)

    pub left_last : (bs : List ℕ) → rest ≡ bs → (r : ℕ) (zs : List ℕ) → Wrote ys to bs r zs → Wrote xs at whole r zs
    left_last bs e r zs (d, w) =
        let k : length rest ≡ length bs = ap length e in
        (omega (arith, l.0), w ∙ sym (ap (λ (q : List ℕ). put ys to q) e) ∙ l.1)

-- a whole of two pieces
module _ (xs : List ℕ) (at : ℕ) (whole bs cs : List ℕ) (e : whole ≡ bs ++ cs) where
  pub first_room : Room xs at whole → Room xs at bs
  first_room h = room_front xs at bs cs (rw e at h)

  pub second_room : (r : ℕ) (ys : List ℕ) → Room xs at whole → Wrote xs at bs r ys → Room ys r cs
  second_room r ys h w = room_back xs at bs cs r ys (rw e at h) w

  pub both_wrote : (r : ℕ) (ys : List ℕ) (s : ℕ) (zs : List ℕ) → Wrote xs at bs r ys → Wrote ys r cs s zs → Wrote xs at whole s zs
  both_wrote r ys s zs w v = rw e (joined xs at bs cs r ys s zs w v)
