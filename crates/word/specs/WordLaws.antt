-- The laws of whole numbers, each over every width and both orders.
-- Assumes nothing.
use Rattle.std.specs.Prelude.{◌≡◌, refl, Bool, true, false, List, [], ◌∷◌, ◌++◌, reverse, ℕ, zero, suc, ◌+◌, ◌-◌, ◌*◌, ◌/◌, ◌%◌, ◌^◌, ◌≤◌, ◌<◌, length, get_or, take, drop}
use Rattle.std.proofs.Common.{sym, ap, ap₂, ◌∙◌, mul_assoc, lt_of_lt_of_le, pow-suc, suc-add, arith, length-drop, length-take, length-take-le, take-take, take-add, take_at, drop_at, drop-drop, drop-cons}
use Rattle.std.proofs.lemmas.List.{reverse-append, reverse-reverse, length-reverse}
use Rattle.std.proofs.Math.Nat.{pow-le-pow_right}
use Rattle.word.specs.Part.{part, drop_take}
use Rattle.word.specs.Bytes.{Bytes, bytes_take, bytes_drop, bytes_reverse}
use Rattle.word.specs.Put.{put, put_append, part_put, part_put_after}
use Rattle.word.specs.Word.{low_first, value_of, word_at, low_bytes, bytes_of, joined}

-- ---- low byte first: everything else follows from these

low_small : (bs : List ℕ) → Bytes bs → low_first bs < 256 ^ length bs
unfolding low_first
low_small [] h = omega arith
low_small (b ∷ bs) h = omega (arith, h.0, low_small bs h.1, pow-suc 256 (length bs))

length_low : (w n : ℕ) → length (low_bytes w n) ≡ w
unfolding low_bytes
length_low zero n = refl
length_low (suc w) n = ap suc (length_low w (n / 256))

low_are_bytes : (w n : ℕ) → Bytes (low_bytes w n)
unfolding low_bytes
low_are_bytes zero n = tt
low_are_bytes (suc w) n = (omega arith, low_are_bytes w (n / 256))

low_back : (w n : ℕ) → n < 256 ^ w → low_first (low_bytes w n) ≡ n
unfolding low_first low_bytes
low_back zero n h = omega arith
low_back (suc w) n h = let i = low_back w (n / 256) (omega arith) in omega arith

bytes_back : (bs : List ℕ) → Bytes bs → low_bytes (length bs) (low_first bs) ≡ bs
unfolding low_first low_bytes
bytes_back [] h = refl
bytes_back (b ∷ bs) h =
    let l : b < 256 = h.0 in
    let m : (b + 256 * low_first bs) % 256 ≡ b = omega arith in
    let d : (b + 256 * low_first bs) / 256 ≡ low_first bs = omega arith in
    rw (m, d, bytes_back bs h.1)

low_joined : (xs ys : List ℕ) → low_first (xs ++ ys) ≡ low_first ys * 256 ^ length xs + low_first xs
unfolding low_first
low_joined [] ys = omega arith
low_joined (x ∷ xs) ys =
    let i = low_joined xs ys in
    let m = mul_assoc (low_first ys) (256 ^ length xs) 256 in
    let p : low_first ys * 256 ^ suc (length xs) ≡ low_first ys * (256 ^ length xs * 256) = ap (λ (k : ℕ). low_first ys * k) (pow-suc 256 (length xs)) in
    omega arith

bytes_low_joined : (m n a b : ℕ) → b < 256 ^ m → low_bytes (m + n) (a * 256 ^ m + b) ≡ low_bytes m b ++ low_bytes n a
unfolding low_bytes
bytes_low_joined zero n a b h =
    let s : 0 + n ≡ n = omega arith in
    let t : a * 1 + b ≡ a = omega arith in
    rw (s, t)
bytes_low_joined (suc m) n a b h =
    let k : a * 256 ^ suc m ≡ a * 256 ^ m * 256 = ap (λ (p : ℕ). a * p) (pow-suc 256 m) ∙ sym (mul_assoc a (256 ^ m) 256) in
    let r : (a * 256 ^ suc m + b) % 256 ≡ b % 256 = omega arith in
    let q : (a * 256 ^ suc m + b) / 256 ≡ a * 256 ^ m + b / 256 = omega arith in
    let i = bytes_low_joined m n a (b / 256) (omega (arith, pow-suc 256 m)) in
    ap (λ (k : ℕ). low_bytes k (a * 256 ^ suc m + b)) (suc-add m n) ∙ ap₂ (λ (x : ℕ) (xs : List ℕ). x ∷ xs) r (ap (low_bytes (m + n)) q ∙ i)

-- ---- a number and its bytes

pub length_bytes_of : (w : ℕ) (o : Bool) (n : ℕ) → length (bytes_of w o n) ≡ w
unfolding bytes_of
length_bytes_of w true n = length-reverse (low_bytes w n) ∙ length_low w n
length_bytes_of w false n = length_low w n

pub bytes_of_bytes : (w : ℕ) (o : Bool) (n : ℕ) → Bytes (bytes_of w o n)
unfolding bytes_of
bytes_of_bytes w true n = bytes_reverse (low_bytes w n) (low_are_bytes w n)
bytes_of_bytes w false n = low_are_bytes w n

-- a number that fits is read back from its bytes
pub value_bytes_of : (w : ℕ) (o : Bool) (n : ℕ) → n < 256 ^ w → value_of o (bytes_of w o n) ≡ n
unfolding value_of bytes_of
value_bytes_of w true n h = ap low_first (reverse-reverse (low_bytes w n)) ∙ low_back w n h
value_bytes_of w false n h = low_back w n h

-- bytes are written back from their number: no other bytes of that many say the same number
pub bytes_of_value : (o : Bool) (bs : List ℕ) → Bytes bs → bytes_of (length bs) o (value_of o bs) ≡ bs
unfolding value_of bytes_of
bytes_of_value true bs h =
    ap (λ (k : ℕ). reverse (low_bytes k (low_first (reverse bs)))) (sym (length-reverse bs))
    ∙ ap reverse (bytes_back (reverse bs) (bytes_reverse bs h))
    ∙ reverse-reverse bs
bytes_of_value false bs h = bytes_back bs h

pub value_small : (o : Bool) (bs : List ℕ) → Bytes bs → value_of o bs < 256 ^ length bs
unfolding value_of
value_small true bs h = rw (length-reverse bs) at (low_small (reverse bs) (bytes_reverse bs h))
value_small false bs h = low_small bs h

-- a number of twice the width is two of the width, one behind the other
pub value_joined : (w : ℕ) (o : Bool) (xs ys : List ℕ) → length xs ≡ w → length ys ≡ w
    → value_of o (xs ++ ys) ≡ joined (256 ^ w) o (value_of o xs) (value_of o ys)
unfolding value_of
value_joined w true xs ys h k =
    let l : length (reverse ys) ≡ w = length-reverse ys ∙ k in
    ap low_first (reverse-append xs ys) ∙ low_joined (reverse ys) (reverse xs) ∙ rw l
value_joined w false xs ys h k = low_joined xs ys ∙ rw h

pub bytes_of_joined : (w : ℕ) (o : Bool) (a b : ℕ) → a < 256 ^ w → b < 256 ^ w
    → bytes_of (w + w) o (joined (256 ^ w) o a b) ≡ bytes_of w o a ++ bytes_of w o b
unfolding bytes_of
bytes_of_joined w true a b h k = ap reverse (bytes_low_joined w w a b k) ∙ reverse-append (low_bytes w b) (low_bytes w a)
bytes_of_joined w false a b h k = bytes_low_joined w w b a h

-- ---- a word at a place

pub word_small : (w : ℕ) (o : Bool) (f : List ℕ) (at : ℕ) → Bytes f → word_at w o f at < 256 ^ w
unfolding word_at
word_small w o f at h =
    let s = value_small o (take w (drop at f)) (bytes_take w (drop at f) (bytes_drop at f h)) in
    let l : length (take w (drop at f)) ≤ w = simp length-take (omega arith) in
    lt_of_lt_of_le s (pow-le-pow_right (omega arith) l)

-- it lies in the first n bytes if it ends there
pub word_take : (w : ℕ) (o : Bool) (n : ℕ) (f : List ℕ) (at : ℕ) → at + w ≤ n → word_at w o (take n f) at ≡ word_at w o f at
unfolding word_at
word_take w o n f at h = ap (value_of o) (rw (drop_take at n f) (take-take w (n - at) (drop at f) (omega arith)))

pub word_drop : (w : ℕ) (o : Bool) (k : ℕ) (f : List ℕ) (at : ℕ) → word_at w o (drop k f) at ≡ word_at w o f (k + at)
unfolding word_at
word_drop w o k f at = ap (λ (r : List ℕ). value_of o (take w r)) (drop-drop at k f)

pub word_part : (w : ℕ) (o : Bool) (a e : ℕ) (f : List ℕ) (at : ℕ) → a + at + w ≤ e → word_at w o (part a e f) at ≡ word_at w o f (a + at)
word_part w o a e f at h = word_take w o (e - a) (drop a f) at (omega arith) ∙ word_drop w o a f at

-- one byte, and twice as many
pub word_byte : (o : Bool) (f : List ℕ) (at : ℕ) → at < length f → word_at 1 o f at ≡ get_or f at 0
unfolding word_at value_of low_first
word_byte true f at h = rw (drop-cons f at 0 h) (omega arith)
word_byte false f at h = rw (drop-cons f at 0 h) (omega arith)

pub word_joined : (w : ℕ) (o : Bool) (f : List ℕ) (at : ℕ) → at + (w + w) ≤ length f
    → word_at (w + w) o f at ≡ joined (256 ^ w) o (word_at w o f at) (word_at w o f (at + w))
unfolding word_at
word_joined w o f at h =
    let s : take (w + w) (drop at f) ≡ take w (drop at f) ++ take w (drop (at + w) f) =
    take-add w w (drop at f) ∙ ap (λ (r : List ℕ). take w (drop at f) ++ take w r) (drop-drop w at f) in
    let l : length (take w (drop at f)) ≡ w = length-take-le w (drop at f) (simp length-drop (omega arith)) in
    let m : length (take w (drop (at + w) f)) ≡ w = length-take-le w (drop (at + w) f) (simp length-drop (omega arith)) in
    ap (value_of o) s ∙ value_joined w o (take w (drop at f)) (take w (drop (at + w) f)) l m

-- among other bytes, and after a write
pub word_among : (w : ℕ) (o : Bool) (n : ℕ) (p q : List ℕ) (at : ℕ) → length p ≡ at → n < 256 ^ w → word_at w o (p ++ (bytes_of w o n ++ q)) at ≡ n
unfolding word_at
word_among w o n p q at h k =
    ap (λ (r : List ℕ). value_of o (take w r)) (drop_at p (bytes_of w o n ++ q) at h)
    ∙ ap (value_of o) (take_at (bytes_of w o n) q w (length_bytes_of w o n))
    ∙ value_bytes_of w o n k

as_part_lem : (w at : ℕ) (f : List ℕ) → take w (drop at f) ≡ part at (at + w) f
as_part_lem w at f = let s : at + w - at ≡ w = omega arith in rw s

pub word_put : (w : ℕ) (o : Bool) (n : ℕ) (xs : List ℕ) (at : ℕ) → at + w ≤ length xs → n < 256 ^ w → word_at w o (put xs at (bytes_of w o n)) at ≡ n
unfolding word_at
word_put w o n xs at h k =
    ap (value_of o)
    (as_part_lem w at (put xs at (bytes_of w o n)) ∙ part_put (bytes_of w o n) xs at (at + w) (ap (λ (l : ℕ). at + l) (sym (length_bytes_of w o n))) h)
    ∙ value_bytes_of w o n k

pub word_put_after : (w : ℕ) (o : Bool) (bs xs : List ℕ) (at k : ℕ) → at + length bs ≤ k → word_at w o (put xs at bs) k ≡ word_at w o xs k
unfolding word_at
word_put_after w o bs xs at k h =
    ap (value_of o) (as_part_lem w k (put xs at bs) ∙ part_put_after k (k + w) bs xs at h ∙ sym (as_part_lem w k xs))

-- two writes of the width, one behind the other, are one of twice the width
pub put_joined : (w : ℕ) (o : Bool) (a b n : ℕ) (xs : List ℕ) (at : ℕ) → a < 256 ^ w → b < 256 ^ w → n ≡ joined (256 ^ w) o a b
    → put (put xs at (bytes_of w o a)) (at + w) (bytes_of w o b) ≡ put xs at (bytes_of (w + w) o n)
put_joined w o a b n xs at h k e =
    sym (rw (e, bytes_of_joined w o a b h k, put_append) (ap (λ (l : ℕ). put (put xs at (bytes_of w o a)) (at + l) (bytes_of w o b)) (length_bytes_of w o a)))
