-- What code 3 keeps of a sample: its leading bits. "So the value read differs by less than 2 to the exponent, and by
-- nothing up to 32,767" (document 01, "Samples").
-- Assumes nothing.
use Rattle.std.specs.Prelude.{◌≡◌, None, refl, Bool, true, false, cond, List, [], ◌∷◌, ◌++◌, map, ℕ, zero, suc, ◌+◌, ◌-◌, ◌*◌, ◌/◌, ◌%◌, ◌^◌, ◌≤◌, ◌<◌, ℤ, pos, negsuc, neg_ℤ, nat_abs, ◌-ℤ◌, ◌*ℤ◌, length, get_or, ltb}
use Rattle.std.proofs.Common.{sym, ap, ◌∙◌, append_assoc, append-nil, mod-lt, mul_assoc, lt_of_lt_of_le, arith, pow_pos, pow_mono, pow-add, shl_lt, drop_at, lt-ltb, le-ltb, ltb-true, ltb-false, eq-eqb}
use Rattle.std.proofs.Math.IntN.{sub_ℕ, neg_ℤ-neg_ℤ, pos-*ℤ-pos}
use Rattle.std.proofs.lemmas.Nat.{shl-shr}
use Rattle.std.proofs.Math.Pow.{split}
use Rattle.word.specs.Bytes.{Bytes}
use Rattle.word.specs.Word.{word_at, bytes_of}
use Rattle.word.specs.WordLaws.{word_drop, word_small}
use Rattle.sample.specs.Run.{values_from, run_same, run_map, run_of}
use Rattle.sample_bits.specs.SampleBits.{exponent_in, ones, scaled}
use Rattle.decode.specs.Sample.{group_sample, sample_of, integers_there, integers_read}
use Rattle.sample_bits.specs.BitLaws.{minus_times, scaled_plus}
use Rattle.sample_bits.proofs.BitLaws.{scaled_minus}
use Rattle.decode.specs.SampleLaws.{in_group, all_read}
use Rattle.fit.specs.Unfit.{unfit_integers}
use Rattle.float20.specs.Float20.{mantissa_most, smallest, exponent_of, mantissa_of, ones_bits}
use Rattle.float20.specs.Float20Laws.{no_less, exponent_of_lem, exponent_smallest, exponent_small}
use Rattle.group20.specs.Group20.{exponents_of, words_of, group_bytes}
use Rattle.group20.specs.GroupLaws.{fit_magnitude, length_group}
use Rattle.row20.specs.Row20.{groups}
use Rattle.encode.specs.Write.{flat, filled_up, integers_data}
use Rattle.encode.specs.Back.{word_flat, written_there}

-- the value of z's exponent and mantissa
unfoldable pub cut : ℤ → ℤ
cut z = mantissa_of z *ℤ pos (2 ^ exponent_of z)

-- ---- on magnitudes: the low bits go

cut_pos : (n : ℕ) → cut (pos n) ≡ pos (n / 2 ^ exponent_of (pos n) * 2 ^ exponent_of (pos n))
unfolding cut mantissa_of
cut_pos n = pos-*ℤ-pos (n / 2 ^ exponent_of (pos n)) (2 ^ exponent_of (pos n))

cut_neg : (n : ℕ) → cut (negsuc n) ≡ neg_ℤ (pos (suc n / 2 ^ exponent_of (negsuc n) * 2 ^ exponent_of (negsuc n)))
unfolding cut mantissa_of
cut_neg n = minus_times (suc n / 2 ^ exponent_of (negsuc n)) (2 ^ exponent_of (negsuc n))

pub size_neg : (n : ℕ) → nat_abs (neg_ℤ (pos n)) ≡ n
size_neg zero = refl
size_neg (suc n) = refl

-- the distance of two numbers that are not negative, and of two that are not positive
apart : (a b : ℕ) → b ≤ a → nat_abs (sub_ℕ a b) ≡ a - b
apart a b h = rw (le-ltb a b h)

apart_less : (a b : ℕ) → a ≤ b → nat_abs (sub_ℕ a b) ≡ b - a
apart_less a b h = go (ltb a b) refl
  where
    go : (t : Bool) → ltb a b ≡ t → nat_abs (cond t (negsuc (b - suc a)) (pos (a - b))) ≡ b - a
    go true e = let l = ltb-true a b e in omega arith
    go false e = let l = ltb-false a b e in omega arith

apart_pos : (a b : ℕ) → b ≤ a → nat_abs (pos a -ℤ pos b) ≡ a - b
apart_pos a zero h = omega arith
apart_pos a (suc b) h = apart a (suc b) h

apart_neg : (a b : ℕ) → b ≤ suc a → nat_abs (negsuc a -ℤ neg_ℤ (pos b)) ≡ suc a - b
apart_neg a b h = rw (neg_ℤ-neg_ℤ (pos b)) (apart_less b (suc a) h)

lower : (n e : ℕ) → n / 2 ^ e * 2 ^ e ≤ n
lower n e = omega (arith, split n e)

rest_small : (n e : ℕ) → n - n / 2 ^ e * 2 ^ e < 2 ^ e
rest_small n e = omega (arith, split n e, mod-lt n (pow_pos e))

-- ---- the laws

-- "differs by less than 2 to the exponent"
pub cut_near : (z : ℤ) → nat_abs (z -ℤ cut z) < 2 ^ exponent_of z
cut_near (pos n) =
    let e = exponent_of (pos n) in
    rw (cut_pos n, apart_pos n (n / 2 ^ e * 2 ^ e) (lower n e)) (rest_small n e)
cut_near (negsuc n) =
    let e = exponent_of (negsuc n) in
    rw (cut_neg n, apart_neg n (suc n / 2 ^ e * 2 ^ e) (lower (suc n) e)) (rest_small (suc n) e)

-- it lies between 0 and z: nearer to zero, never farther, and never on the other side
pub cut_between : (z : ℤ) → nat_abs (cut z) + nat_abs (z -ℤ cut z) ≡ nat_abs z
cut_between (pos n) =
    let e = exponent_of (pos n) in
    let l = lower n e in
    rw (cut_pos n, apart_pos n (n / 2 ^ e * 2 ^ e) l) (omega arith)
cut_between (negsuc n) =
    let e = exponent_of (negsuc n) in
    let l = lower (suc n) e in
    rw (cut_neg n, apart_neg n (suc n / 2 ^ e * 2 ^ e) l, size_neg (suc n / 2 ^ e * 2 ^ e)) (omega arith)

-- where no low bit is lost, z is kept
kept_pos : (n : ℕ) → n / 2 ^ smallest 15 0 n * 2 ^ smallest 15 0 n ≡ n → cut (pos n) ≡ pos n
unfolding exponent_of
kept_pos n h = cut_pos n ∙ ap pos h

kept_neg : (n : ℕ) → n / 2 ^ smallest 15 0 n * 2 ^ smallest 15 0 n ≡ n → cut (neg_ℤ (pos n)) ≡ neg_ℤ (pos n)
unfolding exponent_of
kept_neg zero h = kept_pos 0 h
kept_neg (suc n) h = cut_neg n ∙ ap (λ (k : ℕ). neg_ℤ (pos k)) h

-- "and by nothing up to 32,767"
small_whole : (n : ℕ) → n ≤ mantissa_most → n / 2 ^ smallest 15 0 n * 2 ^ smallest 15 0 n ≡ n
small_whole n h =
    let r = exponent_of_lem n (omega arith) in
    let z : smallest 15 0 n ≤ 0 = no_less n 0 (smallest 15 0 n) (omega arith) r.0.least in
    let e : smallest 15 0 n ≡ 0 = omega arith in
    rw e (omega arith)

pub cut_exact : (z : ℤ) → nat_abs z ≤ mantissa_most → cut z ≡ z
cut_exact (pos n) h = kept_pos n (small_whole n h)
cut_exact (negsuc n) h = kept_neg (suc n) (small_whole (suc n) h)

-- every value that code 3 can say, it can write: an exponent and a mantissa say a number that fits and is kept
said_whole : (t e : ℕ) → t ≤ mantissa_most → e < 16 → (t * 2 ^ e / 2 ^ smallest 15 0 (t * 2 ^ e) * 2 ^ smallest 15 0 (t * 2 ^ e) ≡ t * 2 ^ e)
    × (t * 2 ^ e < 1073741824)
said_whole t e h k =
    let n = t * 2 ^ e in
    let small : n < 1073741824 = lt_of_lt_of_le (shl_lt {a = t} 15 e (omega arith)) (pow_mono {i = 15 + e} {j = 30} (omega arith)) in
    let r = exponent_of_lem n small in
    let x = smallest 15 0 n in
    let d : n / 2 ^ e ≡ t = shl-shr t e in
    let l : x ≤ e = no_less n e x (omega arith) r.0.least in
    let s : e - x + x ≡ e = omega arith in
    let w : n ≡ t * 2 ^ (e - x) * 2 ^ x = ap (λ (j : ℕ). t * 2 ^ j) (sym s) ∙ ap (λ (p : ℕ). t * p) (pow-add 2 (e - x) x)
    ∙ sym (mul_assoc t (2 ^ (e - x)) (2 ^ x)) in
    (ap (λ (m : ℕ). m / 2 ^ x * 2 ^ x) w ∙ ap (λ (m : ℕ). m * 2 ^ x) (shl-shr (t * 2 ^ (e - x)) x) ∙ sym w, small)

pub said_kept : (e m : ℕ) → e < 16 → m < 65536 → (cut (scaled e m) ≡ scaled e m) × (nat_abs (scaled e m) < 1073741824)
said_kept e m h k = go (ltb m 32768) refl
  where
    go : (t : Bool) → ltb m 32768 ≡ t → (cut (scaled e m) ≡ scaled e m) × (nat_abs (scaled e m) < 1073741824)
    go true q =
        let l : m < 32768 = ltb-true m 32768 q in
        let w = said_whole m e (omega arith) h in
        rw (scaled_plus e m l) (kept_pos (m * 2 ^ e) w.0, w.1)
    go false q =
        let l : 32768 ≤ m = ltb-false m 32768 q in
        let w = said_whole (65535 - m) e (omega arith) h in
        rw (scaled_minus e m l) (kept_neg ((65535 - m) * 2 ^ e) w.0, rw (size_neg ((65535 - m) * 2 ^ e)) w.1)

-- so what is read from any block under code 3 can be written, and reads back as itself
exponent_in_small : (w k : ℕ) → exponent_in w k < 16
unfolding exponent_in
exponent_in_small w k = mod-lt (w / 2 ^ (4 * k)) (omega arith)

pub sample_kept : (high : Bool) (block : List ℕ) (i : ℕ) → Bytes block
    → (cut (sample_of 3 high block i) ≡ sample_of 3 high block i) × (nat_abs (sample_of 3 high block i) < 1073741824)
unfolding sample_of group_sample
sample_kept high block i b =
    said_kept (exponent_in (word_at 2 high block (i / 4 * 10)) (i % 4)) (word_at 2 high block (i / 4 * 10 + 2 * (i % 4 + 1)))
    (exponent_in_small (word_at 2 high block (i / 4 * 10)) (i % 4)) (word_small 2 high block (i / 4 * 10 + 2 * (i % 4 + 1)) b)

-- ---- read after write

ones_back : (m : ℤ) → nat_abs m ≤ mantissa_most → ones (ones_bits m) ≡ m
unfolding ones ones_bits
ones_back (pos n) h = rw (lt-ltb n 32768 (omega arith))
ones_back (negsuc n) h = let e : 65535 - (65535 - suc n) ≡ suc n = omega arith in rw (le-ltb (65535 - suc n) 32768 (omega arith), e)

pub size_mantissa : (z : ℤ) → nat_abs (mantissa_of z) ≡ nat_abs z / 2 ^ exponent_of z
unfolding mantissa_of
size_mantissa (pos n) = refl
size_mantissa (negsuc n) = size_neg (suc n / 2 ^ exponent_of (negsuc n))

-- the exponent and the mantissa that are written for z say what is kept of it
coded_back : (z : ℤ) → nat_abs z < 1073741824 → scaled (exponent_of z) (ones_bits (mantissa_of z)) ≡ cut z
unfolding scaled cut
coded_back z h =
    let f : nat_abs (mantissa_of z) ≤ mantissa_most = rw (size_mantissa z) (exponent_smallest z h).fits in
    rw (ones_back (mantissa_of z) f)

bits_small : (m : ℤ) → nat_abs m ≤ mantissa_most → ones_bits m < 65536
unfolding ones_bits
bits_small (pos n) h = omega arith
bits_small (negsuc n) h = omega arith

mantissa_small : (z : ℤ) → nat_abs z < 1073741824 → ones_bits (mantissa_of z) < 65536
mantissa_small z h = bits_small (mantissa_of z) (rw (size_mantissa z) (exponent_smallest z h).fits)

-- the words of group g of a row
group_words : List ℤ → ℕ → List ℕ
group_words row g =
    exponents_of (get_or row (4 * g) (pos 0)) (get_or row (4 * g + 1) (pos 0)) (get_or row (4 * g + 2) (pos 0)) (get_or row (4 * g + 3) (pos 0))
    ∷ ones_bits (mantissa_of (get_or row (4 * g) (pos 0))) ∷ ones_bits (mantissa_of (get_or row (4 * g + 1) (pos 0)))
    ∷ ones_bits (mantissa_of (get_or row (4 * g + 2) (pos 0))) ∷ ones_bits (mantissa_of (get_or row (4 * g + 3) (pos 0))) ∷ []

-- the samples of a row that are to be written, all below 2^30
Small : List ℤ → Type 0
Small row = (k : ℕ) → k < length row → nat_abs (get_or row k (pos 0)) < 1073741824

exponents_small : (a b c d : ℤ) → nat_abs a < 1073741824 → nat_abs b < 1073741824 → nat_abs c < 1073741824 → nat_abs d < 1073741824 → exponents_of a b c d < 65536
unfolding exponents_of
exponents_small a b c d ha hb hc hd = omega (arith, exponent_small a ha, exponent_small b hb, exponent_small c hc, exponent_small d hd)

words_small : (row : List ℤ) (g j : ℕ) → 4 * g + 4 ≤ length row → Small row → get_or (group_words row g) j 0 < 65536
unfolding group_words Small
words_small row g zero h s =
    exponents_small (get_or row (4 * g) (pos 0)) (get_or row (4 * g + 1) (pos 0)) (get_or row (4 * g + 2) (pos 0)) (get_or row (4 * g + 3) (pos 0))
    (s (4 * g) (omega arith)) (s (4 * g + 1) (omega arith)) (s (4 * g + 2) (omega arith)) (s (4 * g + 3) (omega arith))
words_small row g (suc zero) h s = mantissa_small (get_or row (4 * g) (pos 0)) (s (4 * g) (omega arith))
words_small row g (suc (suc zero)) h s = mantissa_small (get_or row (4 * g + 1) (pos 0)) (s (4 * g + 1) (omega arith))
words_small row g (suc (suc (suc zero))) h s = mantissa_small (get_or row (4 * g + 2) (pos 0)) (s (4 * g + 2) (omega arith))
words_small row g (suc (suc (suc (suc zero)))) h s = mantissa_small (get_or row (4 * g + 3) (pos 0)) (s (4 * g + 3) (omega arith))
words_small row g (suc (suc (suc (suc (suc j))))) h s = omega arith

five : (row : List ℤ) (g j : ℕ) → j < 5 → j < length (group_words row g)
unfolding group_words
five row g j h = h

-- a group is the bytes of its words
group_flat : (high : Bool) (a b c d : ℤ) (row : List ℤ) → group_bytes high a b c d ≡ flat (bytes_of 2 high) (group_words (a ∷ b ∷ c ∷ d ∷ row) 0)
unfolding group_bytes words_of group_words flat
group_flat high a b c d row = simp append-nil

-- a group further on
next_words : (a b c d : ℤ) (row : List ℤ) (g : ℕ) → group_words (a ∷ b ∷ c ∷ d ∷ row) (suc g) ≡ group_words row g
unfolding group_words
next_words a b c d row g =
    let e0 : 4 * suc g ≡ suc (suc (suc (suc (4 * g)))) = omega arith in
    let e1 : 4 * suc g + 1 ≡ suc (suc (suc (suc (4 * g + 1)))) = omega arith in
    let e2 : 4 * suc g + 2 ≡ suc (suc (suc (suc (4 * g + 2)))) = omega arith in
    let e3 : 4 * suc g + 3 ≡ suc (suc (suc (suc (4 * g + 3)))) = omega arith in
    rw (e1, e2, e3, e0)

-- word j of group g of what is written
word_group : (high : Bool) (row : List ℤ) (rest : List ℕ) (g j : ℕ) → 4 * g + 4 ≤ length row → j < 5 → get_or (group_words row g) j 0 < 65536
    → word_at 2 high (groups high row ++ rest) (10 * g + 2 * j) ≡ get_or (group_words row g) j 0
unfolding groups
word_group high [] rest g j h k s = absurd (omega arith)
word_group high (a ∷ []) rest g j h k s = absurd (omega arith)
word_group high (a ∷ b ∷ []) rest g j h k s = absurd (omega arith)
word_group high (a ∷ b ∷ c ∷ []) rest g j h k s = absurd (omega arith)
word_group high (a ∷ b ∷ c ∷ d ∷ row) rest zero j h k s =
    let e : 0 + 2 * j ≡ 2 * j = omega arith in
    rw (append_assoc (group_bytes high a b c d) (groups high row) rest, e)
    (ap (λ (f : List ℕ). word_at 2 high (f ++ (groups high row ++ rest)) (2 * j)) (group_flat high a b c d row)
    ∙ word_flat 2 high (λ n. n) 0 (group_words (a ∷ b ∷ c ∷ d ∷ row) 0) (groups high row ++ rest) j (five (a ∷ b ∷ c ∷ d ∷ row) 0 j k) s)
word_group high (a ∷ b ∷ c ∷ d ∷ row) rest (suc g) j h k s =
    let e : 10 * suc g + 2 * j ≡ 10 + (10 * g + 2 * j) = omega arith in
    let r = groups high row ++ rest in
    rw (append_assoc (group_bytes high a b c d) (groups high row) rest, e, next_words a b c d row g)
    (sym (word_drop 2 high 10 (group_bytes high a b c d ++ r) (10 * g + 2 * j))
    ∙ ap (λ (f : List ℕ). word_at 2 high f (10 * g + 2 * j)) (drop_at (group_bytes high a b c d) r 10 (length_group high a b c d))
    ∙ word_group high row rest g j (omega arith) k (rw (next_words a b c d row g) at s))

-- the exponents come out of their word
exponent_out : (a b c d : ℤ) → nat_abs a < 1073741824 → nat_abs b < 1073741824 → nat_abs c < 1073741824 → nat_abs d < 1073741824
    → ((exponent_in (exponents_of a b c d) 0 ≡ exponent_of a) × (exponent_in (exponents_of a b c d) 1 ≡ exponent_of b))
    × ((exponent_in (exponents_of a b c d) 2 ≡ exponent_of c) × (exponent_in (exponents_of a b c d) 3 ≡ exponent_of d))
unfolding exponent_in exponents_of
exponent_out a b c d ha hb hc hd =
    let la = exponent_small a ha in
    let lb = exponent_small b hb in
    let lc = exponent_small c hc in
    let ld = exponent_small d hd in
    ((omega arith, omega arith), (omega arith, omega arith))

-- four samples, their words, and what is kept of them
words_back : (a b c d : ℤ) (k : ℕ) → nat_abs a < 1073741824 → nat_abs b < 1073741824 → nat_abs c < 1073741824 → nat_abs d < 1073741824 → k < 4
    → scaled (exponent_in (exponents_of a b c d) k) (get_or (ones_bits (mantissa_of a) ∷ ones_bits (mantissa_of b) ∷ ones_bits (mantissa_of c) ∷ ones_bits
    (mantissa_of d) ∷ []) k 0)
    ≡ cut (get_or (a ∷ b ∷ c ∷ d ∷ []) k (pos 0))
words_back a b c d zero ha hb hc hd l = rw (exponent_out a b c d ha hb hc hd).0.0 (coded_back a ha)
words_back a b c d (suc zero) ha hb hc hd l = rw (exponent_out a b c d ha hb hc hd).0.1 (coded_back b hb)
words_back a b c d (suc (suc zero)) ha hb hc hd l = rw (exponent_out a b c d ha hb hc hd).1.0 (coded_back c hc)
words_back a b c d (suc (suc (suc zero))) ha hb hc hd l = rw (exponent_out a b c d ha hb hc hd).1.1 (coded_back d hd)
words_back a b c d (suc (suc (suc (suc k)))) ha hb hc hd l = absurd (omega arith)

-- sample k of group g of a row
of_group : (row : List ℤ) (g k : ℕ) → k < 4
    → get_or (get_or row (4 * g) (pos 0) ∷ get_or row (4 * g + 1) (pos 0) ∷ get_or row (4 * g + 2) (pos 0) ∷ get_or row (4 * g + 3) (pos 0) ∷ []) k (pos 0)
    ≡ get_or row (4 * g + k) (pos 0)
of_group row g zero l = let e : 4 * g + 0 ≡ 4 * g = omega arith in rw e
of_group row g (suc zero) l = refl
of_group row g (suc (suc zero)) l = refl
of_group row g (suc (suc (suc zero))) l = refl
of_group row g (suc (suc (suc (suc k)))) l = absurd (omega arith)

group_back : (high : Bool) (row : List ℤ) (rest : List ℕ) (g k : ℕ) → 4 * g + 4 ≤ length row → Small row → k < 4
    → group_sample high (groups high row ++ rest) (10 * g) k ≡ cut (get_or row (4 * g + k) (pos 0))
unfolding group_sample Small group_words
group_back high row rest g k h s l =
    let e : 10 * g + 2 * 0 ≡ 10 * g = omega arith in
    let n : k + 1 ≡ suc k = omega arith in
    let w = rw e at (word_group high row rest g 0 h (omega arith) (words_small row g 0 h s)) in
    let m = word_group high row rest g (k + 1) h (omega arith) (words_small row g (k + 1) h s) in
    rw (w, m, n)
    (words_back (get_or row (4 * g) (pos 0)) (get_or row (4 * g + 1) (pos 0)) (get_or row (4 * g + 2) (pos 0)) (get_or row (4 * g + 3) (pos 0)) k
    (s (4 * g) (omega arith)) (s (4 * g + 1) (omega arith)) (s (4 * g + 2) (omega arith)) (s (4 * g + 3) (omega arith)) l
    ∙ ap cut (of_group row g k l))

-- each sample reads back as what is kept of it
pub floats_back : (high : Bool) (row : List ℤ) (i : ℕ) → length row % 4 ≡ 0 → unfit_integers 3 row ≡ None → i < length row
    → sample_of 3 high (integers_data 3 high row) i ≡ cut (get_or row i (pos 0))
unfolding integers_data filled_up Small
floats_back high row i w h l =
    let e : i ≡ 4 * (i / 4) + i % 4 = omega arith in
    let k : i % 4 < 4 = omega arith in
    let f : 4 * (i / 4) + 4 ≤ length row = omega arith in
    in_group high _ i (i / 4) (i % 4) e k
    ∙ group_back high row _ (i / 4) (i % 4) f (fit_magnitude row h) k
    ∙ ap (λ (j : ℕ). cut (get_or row j (pos 0))) (sym e)

-- the decoder's whole row
pub floats_read_back : (high : Bool) (row old : List ℤ) → length row % 4 ≡ 0 → unfit_integers 3 row ≡ None → length old ≡ length row
    → (integers_there 3 (length old) (integers_data 3 high row) ≡ true) × (integers_read 3 high (integers_data 3 high row) old ≡ map cut row)
floats_read_back high row old w h l =
    let t = written_there 3 high row old (eq-eqb (length row % 4) 0 w) l in
    (t, sym (all_read 3 high (integers_data 3 high row) old (map cut row) t (sym (ap (values_from (sample_of 3 high (integers_data 3 high row)) 0) l ∙ whole))).1)
  where
    whole : values_from (sample_of 3 high (integers_data 3 high row)) 0 (length row) ≡ map cut row
    whole = run_of (sample_of 3 high (integers_data 3 high row)) cut (pos 0) row (λ i k. floats_back high row i w h k)

-- so a row that was read under code 3 is written and read back as it was
pub floats_kept : (high : Bool) (block : List ℕ) (n : ℕ) → Bytes block
    → map cut (values_from (sample_of 3 high block) 0 n) ≡ values_from (sample_of 3 high block) 0 n
floats_kept high block n b = sym (run_map cut (sample_of 3 high block) 0 n) ∙ run_same _ _ 0 n (λ k p q. (sample_kept high block k b).0)
