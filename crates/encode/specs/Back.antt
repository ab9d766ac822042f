-- What is written reads back. Codes 1, 2, 4 and 5: whole rows, as they were given.
-- Assumes nothing.
use Rattle.std.specs.Prelude.{◌≡◌, None, refl, Bool, true, false, ◌||◌, List, [], ◌∷◌, ◌++◌, map, ℕ, zero, suc, ◌+◌, ◌-◌, ◌*◌, ◌/◌, ◌%◌, ◌^◌, ◌<◌, ℤ, pos, negsuc, length, get_or, ltb}
use Rattle.std.proofs.Common.{sym, ap, ◌∙◌, append_assoc, mod-eq_of_lt, mod-lt, mul-suc, arith, drop_at, ext_get_or, eqb-true, ltb-false, leb-false}
use Rattle.std.specs.Int.Signed.{mag}
use Rattle.word.specs.Tests.{never}
use Rattle.word.specs.Round.{round4, round4_up}
use Rattle.word.specs.Word.{word_at, bytes_of}
use Rattle.word.specs.WordLaws.{word_among, word_drop, length_bytes_of}
use Rattle.sample.specs.Needed.{by_code, needed, room, width}
use Rattle.sample.specs.Run.{values_from, length_run, get_d_run}
use Rattle.sample_bits.specs.SampleBits.{twos}
use Rattle.decode.specs.Sample.{pattern_of, sample_of, integers_asked, integers_there, integers_read, class_of}
use Rattle.decode.specs.Sample.{bits_asked, bits_there, patterns_read, classes_read}
use Rattle.sample_bits.specs.BitLaws.{twos_plus, twos_minus}
use Rattle.decode.specs.SampleLaws.{there, bits_there_lem, all_read, all_bits_read}
use Rattle.fit.specs.Unfit.{outside, unfit_integer, unfit_integers, unfit_pattern, unfit_patterns, all_good}
use Rattle.row20.specs.Row20.{groups}
use Rattle.row20.specs.RowLaws.{length_groups}
use Rattle.encode.specs.Write.{flat, residue, fixed_bytes, filled_up, integers_data, bits_data}
use Rattle.encode.specs.WriteLaws.{length_flat, length_filled_up}

-- ---- how long the data block is

-- the data block of a row is as long as the room that its code and count ask for
pub length_integers_data : (code : ℕ) (high : Bool) (row : List ℤ) → integers_asked code (length row) ≡ true
    → length (integers_data code high row) ≡ room code (length row)
unfolding integers_data room needed fixed_bytes
length_integers_data zero high row a = never a
length_integers_data (suc zero) high row a =
    length_filled_up (flat (fixed_bytes 2 high) row) ∙ ap round4 (length_flat (fixed_bytes 2 high) 2 (λ z. length_bytes_of 2 high (residue (256 ^ 2) z)) row)
length_integers_data (suc (suc zero)) high row a =
    length_filled_up (flat (fixed_bytes 4 high) row) ∙ ap round4 (length_flat (fixed_bytes 4 high) 4 (λ z. length_bytes_of 4 high (residue (256 ^ 4) z)) row)
length_integers_data (suc (suc (suc zero))) high row a =
    let w : length row % 4 ≡ 0 = eqb-true (length row % 4) 0 a in
    let m : 10 * (length row / 4) ≡ 10 * length row / 4 = omega arith in
    length_filled_up (groups high row) ∙ ap round4 (length_groups high row ∙ m)
length_integers_data (suc (suc (suc (suc zero)))) high row a = never a
length_integers_data (suc (suc (suc (suc (suc zero))))) high row a = never a
length_integers_data (suc (suc (suc (suc (suc (suc code)))))) high row a = never a

pub length_bits_data : (code : ℕ) (high : Bool) (row : List ℕ) → bits_asked code ≡ true → length (bits_data code high row) ≡ room code (length row)
unfolding bits_data room needed
length_bits_data zero high row a = never a
length_bits_data (suc zero) high row a = never a
length_bits_data (suc (suc zero)) high row a = never a
length_bits_data (suc (suc (suc zero))) high row a = never a
length_bits_data (suc (suc (suc (suc zero)))) high row a =
    length_filled_up (flat (bytes_of 4 high) row) ∙ ap round4 (length_flat (bytes_of 4 high) 4 (λ n. length_bytes_of 4 high n) row)
length_bits_data (suc (suc (suc (suc (suc zero))))) high row a =
    length_filled_up (flat (bytes_of 8 high) row) ∙ ap round4 (length_flat (bytes_of 8 high) 8 (λ n. length_bytes_of 8 high n) row)
length_bits_data (suc (suc (suc (suc (suc (suc code)))))) high row a = never a

-- so a row of that many samples can be read from it, and what is read are the samples of the block
pub written_there : (code : ℕ) (high : Bool) (row old : List ℤ) → integers_asked code (length row) ≡ true → length old ≡ length row
    → integers_there code (length old) (integers_data code high row) ≡ true
unfolding room
written_there code high row old a l =
    rw l (there code (length row) (integers_data code high row) a (rw (length_integers_data code high row a) (round4_up (needed code (length row)))))

pub bits_written_there : (code : ℕ) (high : Bool) (row old classes : List ℕ) → bits_asked code ≡ true → length old ≡ length row → length classes ≡ length row
    → bits_there code (length old) (length classes) (bits_data code high row) ≡ true
unfolding room
bits_written_there code high row old classes a l m =
    rw (l, m) (bits_there_lem code (length row) (length row) (bits_data code high row) a refl
    (rw (length_bits_data code high row a) (round4_up (needed code (length row)))))

-- ---- a word among words of the same width

pub word_flat : {A : Type 0} (w : ℕ) (high : Bool) (g : A → ℕ) (d : A) (xs : List A) (rest : List ℕ) (i : ℕ) → i < length xs → g (get_or xs i d) < 256 ^ w
    → word_at w high (flat (λ x. bytes_of w high (g x)) xs ++ rest) (w * i) ≡ g (get_or xs i d)
unfolding flat
word_flat w high g d [] rest i h k = absurd (omega arith)
word_flat w high g d (x ∷ xs) rest zero h k =
    let e : w * 0 ≡ 0 = omega arith in
    rw (append_assoc (bytes_of w high (g x)), e) (word_among w high (g x) [] (flat (λ y. bytes_of w high (g y)) xs ++ rest) 0 refl k)
word_flat w high g d (x ∷ xs) rest (suc i) h k =
    let e : w * suc i ≡ w + w * i = mul-suc w i ∙ omega arith in
    let r = flat (λ y. bytes_of w high (g y)) xs ++ rest in
    rw (append_assoc (bytes_of w high (g x)), e)
    (sym (word_drop w high w (bytes_of w high (g x) ++ r) (w * i))
    ∙ ap (λ (f : List ℕ). word_at w high f (w * i)) (drop_at (bytes_of w high (g x)) r w (length_bytes_of w high (g x)))
    ∙ word_flat w high g d xs rest i (omega arith) k)

-- a row is the values_from of a function that gives its elements
row_run : {A : Type 0} (f : ℕ → A) (d : A) (row : List A) → ((i : ℕ) → i < length row → f i ≡ get_or row i d) → values_from f 0 (length row) ≡ row
row_run f d row h =
    ext_get_or d (values_from f 0 (length row)) row (length_run f 0 (length row))
    (λ i l.
    (let k : i < length row = omega (arith, length_run f 0 (length row)) in
    let e : 0 + i ≡ i = omega arith in
    get_d_run f d 0 (length row) i k ∙ ap f e ∙ h i k))

-- ---- codes 1 and 2

pub twos_back : (half : ℕ) (z : ℤ) → mag z < half → twos half (residue (2 * half) z) ≡ z
unfolding residue
twos_back half (pos n) h =
    let l : n < 2 * half = omega arith in
    let q : n % (2 * half) ≡ n = mod-eq_of_lt l in
    rw q (twos_plus half n h)
twos_back half (negsuc n) h =
    let e : 2 * half - 1 - (2 * half - 1 - n) ≡ n = omega arith in
    let l : n < 2 * half = omega arith in
    let q : n % (2 * half) ≡ n = mod-eq_of_lt l in
    rw q (twos_minus half (2 * half - 1 - n) (omega arith) (omega arith) ∙ ap negsuc e)

residue_small : (m : ℕ) (z : ℤ) → 0 < m → residue m z < m
unfolding residue
residue_small m (pos n) h = mod-lt n h
residue_small m (negsuc n) h = omega arith

-- how far from 0 a code's numbers reach: below this upward, and to minus this downward
unfoldable pub reach : ℕ → ℕ
reach code = by_code 32768 2147483648 0 0 0 0 code

-- what code 1 can hold by the test is what it can hold by its range
inside : (z : ℤ) → unfit_integer 1 z ≡ false → mag z < 32768
unfolding unfit_integer outside
inside (pos n) e = let l = ltb-false 32767 n e in omega arith
inside (negsuc n) e = let l = ltb-false 32767 n (or_left (ltb 32767 n) e) in omega arith
  where
    or_left : (b : Bool) → (b || false) ≡ false → b ≡ false
    or_left true e = e
    or_left false e = e

pub fit_reach : (row : List ℤ) → unfit_integers 1 row ≡ None → (k : ℕ) → k < length row → mag (get_or row k (pos 0)) < reach 1
unfolding unfit_integers reach
fit_reach row h k l = inside (get_or row k (pos 0)) (all_good (unfit_integer 1) (pos 0) 0 row h k l)

-- "written then read gives what was given": codes 1 and 2, for every row within their reach (only the empty row is
-- within the reach of another code)
nothing_held : (f : ℕ → ℤ) (row : List ℤ) → ((k : ℕ) → k < length row → mag (get_or row k (pos 0)) < 0) → values_from f 0 (length row) ≡ row
unfolding values_from
nothing_held f [] h = refl
nothing_held f (z ∷ row) h = let l = h 0 (omega arith) in absurd (omega arith)

pub integers_back : (code : ℕ) (high : Bool) (row : List ℤ) → ((k : ℕ) → k < length row → mag (get_or row k (pos 0)) < reach code)
    → values_from (sample_of code high (integers_data code high row)) 0 (length row) ≡ row
unfolding sample_of pattern_of width integers_data filled_up fixed_bytes reach
integers_back zero high row h = nothing_held _ row h
integers_back (suc zero) high row h =
    row_run _ (pos 0) row
    (λ i l.
    ap (twos 32768) (word_flat 2 high (residue 65536) (pos 0) row _ i l (residue_small 65536 (get_or row i (pos 0)) (omega arith)))
    ∙ twos_back 32768 (get_or row i (pos 0)) (h i l))
integers_back (suc (suc zero)) high row h =
    row_run _ (pos 0) row
    (λ i l.
    ap (twos 2147483648) (word_flat 4 high (residue 4294967296) (pos 0) row _ i l (residue_small 4294967296 (get_or row i (pos 0)) (omega arith)))
    ∙ twos_back 2147483648 (get_or row i (pos 0)) (h i l))
integers_back (suc (suc (suc zero))) high row h = nothing_held _ row h
integers_back (suc (suc (suc (suc zero)))) high row h = nothing_held _ row h
integers_back (suc (suc (suc (suc (suc zero))))) high row h = nothing_held _ row h
integers_back (suc (suc (suc (suc (suc (suc code)))))) high row h = nothing_held _ row h

-- the same of the decoder: it answers true and leaves the row that was written
pub integers_read_back : (code : ℕ) (high : Bool) (row old : List ℤ) → integers_asked code (length row) ≡ true
    → ((k : ℕ) → k < length row → mag (get_or row k (pos 0)) < reach code) → length old ≡ length row
    → (integers_there code (length old) (integers_data code high row) ≡ true) × (integers_read code high (integers_data code high row) old ≡ row)
integers_read_back code high row old a h l =
    let t = written_there code high row old a l in
    (t, sym (all_read code high (integers_data code high row) old row t (sym (ap (values_from _ 0) l ∙ integers_back code high row h))).1)

-- ---- codes 4 and 5

-- what code 4 can hold by the test is 32 bits; code 5 holds what 64 bits hold
pub fit_32 : (row : List ℕ) → unfit_patterns 4 row ≡ None → (k : ℕ) → k < length row → get_or row k 0 < 256 ^ width 4
unfolding unfit_patterns unfit_pattern width
fit_32 row h k l = leb-false 4294967296 (get_or row k 0) (all_good (unfit_pattern 4) 0 0 row h k l)

pub bits_back : (code : ℕ) (high : Bool) (row : List ℕ) → bits_asked code ≡ true → ((k : ℕ) → k < length row → get_or row k 0 < 256 ^ width code)
    → values_from (pattern_of code high (bits_data code high row)) 0 (length row) ≡ row
unfolding pattern_of width bits_data filled_up
bits_back zero high row a h = never a
bits_back (suc zero) high row a h = never a
bits_back (suc (suc zero)) high row a h = never a
bits_back (suc (suc (suc zero))) high row a h = never a
bits_back (suc (suc (suc (suc zero)))) high row a h = row_run _ 0 row (λ i l. word_flat 4 high (λ n. n) 0 row _ i l (h i l))
bits_back (suc (suc (suc (suc (suc zero))))) high row a h = row_run _ 0 row (λ i l. word_flat 8 high (λ n. n) 0 row _ i l (h i l))
bits_back (suc (suc (suc (suc (suc (suc code)))))) high row a h = never a

-- the same of the decoder: the patterns that were written, and beside them their classes
pub bits_read_back : (code : ℕ) (high : Bool) (row old classes : List ℕ) → bits_asked code ≡ true
    → ((k : ℕ) → k < length row → get_or row k 0 < 256 ^ width code) → length old ≡ length row → length classes ≡ length row
    → (bits_there code (length old) (length classes) (bits_data code high row) ≡ true)
    × ((patterns_read code high (bits_data code high row) old classes ≡ row)
    × (classes_read code high (bits_data code high row) old classes ≡ map (class_of code) row))
bits_read_back code high row old classes a h l m =
    let t = bits_written_there code high row old classes a l m in
    let b : row ≡ values_from (pattern_of code high (bits_data code high row)) 0 (length old) = sym (ap (values_from _ 0) l ∙ bits_back code high row a h) in
    let r = all_bits_read code high (bits_data code high row) old classes row (map (class_of code) row) t b refl in
    (t, (sym r.1.0, sym r.1.1))
