-- The laws of writing: two's complement, how long the bytes are, and a row of samples written one behind the other.
-- Assumes nothing.
use Rattle.std.specs.Prelude.{◌≡◌, Bool, true, false, List, [], ◌∷◌, ◌++◌, reverse, ℕ, suc, ◌+◌, ◌-◌, ◌*◌, ◌/◌, ◌%◌, ◌≤◌, ◌<◌, ℤ, pos, negsuc, length, get_or, drop, replicate}
use Rattle.std.proofs.Common.{ap, mul-suc, add-one, arith, length-append, drop_of_length-le, drop-cons}
use Rattle.std.proofs.lemmas.List.{length-replicate}
use Rattle.std.proofs.Math.Pow.{field, mod-mod-pow}
use Rattle.word.specs.Put.{put, put_append}
use Rattle.word.specs.Round.{round4}
use Rattle.word.specs.Word.{low_bytes, bytes_of}
use Rattle.row20.specs.RowLaws.{Writing, write_turn, write_over}
use Rattle.encode.specs.Write.{flat, residue, filled_up}

-- ---- two's complement

-- a residue at a smaller power is the low part of that at a larger one
pub residue_low : (z : ℤ) → residue 65536 z ≡ residue 4294967296 z % 65536
unfolding residue
residue_low (pos n) = omega arith
residue_low (negsuc n) = omega arith

-- a number's bytes are those of its low part
low4 : (n : ℕ) → low_bytes 4 (n % 4294967296) ≡ low_bytes 4 n
unfolding low_bytes
low4 n =
    let a : n % 4294967296 % 256 ≡ n % 256 = mod-mod-pow n 24 8 in
    let b : n % 4294967296 / 256 ≡ n / 256 % 16777216 = field n 24 8 in
    let c : n / 256 % 16777216 % 256 ≡ n / 256 % 256 = mod-mod-pow (n / 256) 16 8 in
    let d : n / 256 % 16777216 / 256 ≡ n / 256 / 256 % 65536 = field (n / 256) 16 8 in
    let e : n / 256 / 256 % 65536 % 256 ≡ n / 256 / 256 % 256 = mod-mod-pow (n / 256 / 256) 8 8 in
    let f : n / 256 / 256 % 65536 / 256 ≡ n / 256 / 256 / 256 % 256 = field (n / 256 / 256) 8 8 in
    let g : n / 256 / 256 / 256 % 256 % 256 ≡ n / 256 / 256 / 256 % 256 = omega arith in
    rw (a, b, c, d, e, f, g)

pub bytes_low4 : (high : Bool) (n : ℕ) → bytes_of 4 high (n % 4294967296) ≡ bytes_of 4 high n
unfolding bytes_of
bytes_low4 true n = ap reverse (low4 n)
bytes_low4 false n = low4 n

-- ---- lengths

pub length_flat : {A : Type 0} (f : A → List ℕ) (w : ℕ) → ((x : A) → length (f x) ≡ w) → (xs : List A) → length (flat f xs) ≡ w * length xs
unfolding flat
length_flat f w h [] = omega arith
length_flat f w h (x ∷ xs) =
    let m : w * suc (length xs) ≡ w * length xs + w = mul-suc w (length xs) in
    omega (arith, length-append (f x) (flat f xs), h x, length_flat f w h xs)

pub length_filled_up : (bs : List ℕ) → length (filled_up bs) ≡ round4 (length bs)
unfolding filled_up
length_filled_up bs = omega (arith, length-append bs (replicate (round4 (length bs) - length bs) 0), length-replicate {A = ℕ} (round4 (length bs) - length bs) 0)

-- ---- a row of samples

-- zeros follow up to a multiple of 4
pub zeros_end : {part : List ℕ} (old bs : List ℕ) (end to : ℕ) → part ≡ put old 0 bs → length bs ≡ end → to ≡ round4 end
    → put part end (replicate (to - end) 0) ≡ put old 0 (filled_up bs)
unfolding filled_up
zeros_end old bs end to p l t =
    let z : 0 + length bs ≡ length bs = omega arith in
    rw (t, ← l, put_append bs (replicate (round4 (length bs) - length bs) 0) old 0, z, ← p)

pub write_end : {left : ℕ → List ℕ} {w : ℕ} {old : List ℕ} {i : ℕ} {part : List ℕ} (end to : ℕ)
    → Writing left w old i part → left i ≡ [] → length (left 0) ≡ end → to ≡ round4 end
    → put part end (replicate (to - end) 0) ≡ put old 0 (filled_up (left 0))
write_end {left} {w} {old} end to r e l t = zeros_end old (left 0) end to (write_over r e) l t

-- what is left of a row, sample by sample
pub flat_turn : {A : Type 0} (f : A → List ℕ) (d : A) (xs : List A) (i : ℕ) → i < length xs → flat f (drop i xs) ≡ f (get_or xs i d) ++ flat f (drop (i + 1) xs)
unfolding flat
flat_turn f d xs i h = rw (add-one i, drop-cons xs i d h)

pub flat_over : {A : Type 0} (f : A → List ℕ) (xs : List A) (i : ℕ) → length xs ≤ i → flat f (drop i xs) ≡ []
unfolding flat
flat_over f xs i h = rw (drop_of_length-le xs {i = i} h)

-- a row of samples of w bytes each: one more is written; all are, and zeros follow
pub row_turn : {A : Type 0} (f : A → List ℕ) {w : ℕ} {old part new : List ℕ} {i : ℕ} (d : A) (xs : List A) → ((x : A) → length (f x) ≡ w)
    → Writing (λ k. flat f (drop k xs)) w old i part → i < length xs → new ≡ put part (w * i) (f (get_or xs i d))
    → Writing (λ k. flat f (drop k xs)) w old (i + 1) new
row_turn f {i = i} d xs l r h q = write_turn (f (get_or xs i d)) r (flat_turn f d xs i h) (l (get_or xs i d)) q

pub row_end : {A : Type 0} (f : A → List ℕ) {w : ℕ} {old part : List ℕ} {i : ℕ} (xs : List A) (to : ℕ) → ((x : A) → length (f x) ≡ w)
    → Writing (λ k. flat f (drop k xs)) w old i part → length xs ≤ i → to ≡ round4 (w * length xs)
    → put part (w * length xs) (replicate (to - w * length xs) 0) ≡ put old 0 (filled_up (flat f xs))
row_end f {w} {i = i} xs to l r h t = write_end (w * length xs) to r (flat_over f xs i h) (length_flat f w l xs) t
