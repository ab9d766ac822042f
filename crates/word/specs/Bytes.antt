-- A list whose elements are bytes, as every slice of `u8` is.
-- Assumes nothing.
use mathlib.Core.List.{List, [], ◌∷◌, ◌++◌, reverse, reverse-cons}
use Rattle.std.specs.Prelude.{ℕ, zero, suc, ◌+◌, ◌-◌, ◌<◌, get_or, take, drop}
use Rattle.word.specs.Part.{part}

abbrev pub Bytes : List ℕ → Type 0
Bytes [] = Unit {0}
Bytes (b ∷ bs) = (b < 256) × Bytes bs

pub each_bytes : (xs : List ℕ) → ((i : ℕ) → get_or xs i 0 < 256) → Bytes xs
each_bytes [] h = tt
each_bytes (x ∷ xs) h = (h 0, each_bytes xs (λ i. h (suc i)))

pub bytes_append : (xs ys : List ℕ) → Bytes xs → Bytes ys → Bytes (xs ++ ys)
bytes_append [] ys h k = k
bytes_append (x ∷ xs) ys h k = (h.0, bytes_append xs ys h.1 k)

pub bytes_take : (n : ℕ) (xs : List ℕ) → Bytes xs → Bytes (take n xs)
bytes_take zero xs h = tt
bytes_take (suc n) [] h = tt
bytes_take (suc n) (x ∷ xs) h = (h.0, bytes_take n xs h.1)

pub bytes_drop : (n : ℕ) (xs : List ℕ) → Bytes xs → Bytes (drop n xs)
bytes_drop zero xs h = h
bytes_drop (suc n) [] h = tt
bytes_drop (suc n) (x ∷ xs) h = bytes_drop n xs h.1

pub bytes_part : (a e : ℕ) (xs : List ℕ) → Bytes xs → Bytes (part a e xs)
bytes_part a e xs h = bytes_take (e - a) (drop a xs) (bytes_drop a xs h)

pub bytes_reverse : (xs : List ℕ) → Bytes xs → Bytes (reverse xs)
bytes_reverse [] h = tt
bytes_reverse (x ∷ xs) h = rw (reverse-cons x xs) (bytes_append (reverse xs) (x ∷ []) (bytes_reverse xs h.1) (h.0, tt))
