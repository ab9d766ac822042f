-- The laws of reading: what a decoder answers and leaves, by what it found.
-- Assumes nothing.
use Rattle.std.specs.Prelude.{◌≡◌, refl, Bool, true, false, cond, ◌&&◌, List, map, ℕ, zero, suc, ◌+◌, ◌*◌, ◌/◌, ◌%◌, ◌≤◌, ◌<◌, min, ℤ, pos, length, get_or, take, leb, eqb}
use Rattle.std.proofs.Common.{sym, ap, ◌∙◌, arith, length-take, le-leb, leb-true, leb-false, eq-eqb, ne_eqb, eqb-true}
use Rattle.std.proofs.lemmas.Bool.{lt-leb}
use Rattle.word.specs.Tests.{and_false, both}
use Rattle.word.specs.WordLaws.{word_take}
use Rattle.sample.specs.Needed.{needed, width}
use Rattle.word.specs.Put.{put}
use Rattle.sample.specs.Run.{values_from, run_same, run_map, run_of, Filling, fill_some, fill_end}
use Rattle.sample_bits.specs.SampleBits.{twos}
use Rattle.decode.specs.Sample.{group_sample, pattern_of, sample_of, sample_end, integers_asked}
use Rattle.decode.specs.Sample.{integers_there, integers_read, class_of, bits_asked, bits_there, patterns_read}
use Rattle.decode.specs.Sample.{classes_read}

-- ---- code 3

-- sample i of the block is sample k of group g
pub in_group : (high : Bool) (block : List ℕ) (i g k : ℕ) → i ≡ 4 * g + k → k < 4 → sample_of 3 high block i ≡ group_sample high block (10 * g) k
unfolding sample_of
in_group high block i g k e h =
    let q : i / 4 * 10 ≡ 10 * g = omega arith in
    let r : i % 4 ≡ k = omega arith in
    rw (q, r)

-- one more group of a row that is filled
pub fill_group : {f : ℕ → ℤ} {old row new : List ℤ} (g : ℕ) → Filling f old (4 * g) row → 4 * g + 4 ≤ length old
    → new ≡ put row (4 * g) (values_from f (4 * g) 4) → Filling f old (4 * (g + 1)) new
fill_group g r h e = let n : 4 * (g + 1) ≡ 4 * g + 4 = omega arith in rw (n, e) (fill_some 4 r h)

-- ---- one sample of those that are there

-- a block with the needed bytes of s samples has those of each
pub sample_inside : (code s : ℕ) (block : List ℕ) (i : ℕ) → integers_there code s block ≡ true → i < s → sample_end code i ≤ length block
unfolding integers_there sample_end needed
sample_inside zero s block i h l = omega arith
sample_inside (suc zero) s block i h l = omega (arith, leb-true (2 * s) (length block) h)
sample_inside (suc (suc zero)) s block i h l = omega (arith, leb-true (4 * s) (length block) h)
sample_inside (suc (suc (suc zero))) s block i h l =
    let b = both (eqb (s % 4) 0) (leb (10 * s / 4) (length block)) h in
    let w : s % 4 ≡ 0 = eqb-true (s % 4) 0 b.0 in
    let m : 10 * s / 4 ≡ 10 * (s / 4) = omega arith in
    let g : i / 4 < s / 4 = omega arith in
    omega (arith, leb-true (10 * s / 4) (length block) b.1)
sample_inside (suc (suc (suc (suc zero)))) s block i h l = omega arith
sample_inside (suc (suc (suc (suc (suc zero))))) s block i h l = omega arith
sample_inside (suc (suc (suc (suc (suc (suc code)))))) s block i h l = omega arith

-- no other code has a sample
pub no_sample : (code : ℕ) (high : Bool) (block : List ℕ) (i : ℕ) → (code ≡ 1 → ⊥) → (code ≡ 2 → ⊥) → (code ≡ 3 → ⊥) → sample_of code high block i ≡ pos 0
unfolding sample_of
no_sample zero high block i h1 h2 h3 = refl
no_sample (suc zero) high block i h1 h2 h3 = absurd (h1 refl)
no_sample (suc (suc zero)) high block i h1 h2 h3 = absurd (h2 refl)
no_sample (suc (suc (suc zero))) high block i h1 h2 h3 = absurd (h3 refl)
no_sample (suc (suc (suc (suc zero)))) high block i h1 h2 h3 = refl
no_sample (suc (suc (suc (suc (suc zero))))) high block i h1 h2 h3 = refl
no_sample (suc (suc (suc (suc (suc (suc code)))))) high block i h1 h2 h3 = refl

-- ---- only the needed bytes count: "D may exceed this; the rest is ignored" (document 01, "The trace block")

-- sample i lies in the first n bytes where they are the needed ones of more than i samples
pub sample_needed : (code : ℕ) (high : Bool) (block : List ℕ) (n s i : ℕ) → integers_asked code s ≡ true → i < s → needed code s ≤ n
    → sample_of code high (take n block) i ≡ sample_of code high block i
unfolding sample_of pattern_of group_sample width needed
sample_needed zero high block n s i a h k = refl
sample_needed (suc zero) high block n s i a h k = ap (twos 32768) (word_take 2 high n block (2 * i) (omega arith))
sample_needed (suc (suc zero)) high block n s i a h k = ap (twos 2147483648) (word_take 4 high n block (4 * i) (omega arith))
sample_needed (suc (suc (suc zero))) high block n s i a h k =
    let w : s % 4 ≡ 0 = eqb-true (s % 4) 0 a in
    let m : 10 * s / 4 ≡ 10 * (s / 4) = omega arith in
    let g : i / 4 < s / 4 = omega arith in
    let r : i % 4 < 4 = omega arith in
    rw (word_take 2 high n block (i / 4 * 10) (omega arith), word_take 2 high n block (i / 4 * 10 + 2 * (i % 4 + 1)) (omega arith))
sample_needed (suc (suc (suc (suc zero)))) high block n s i a h k = refl
sample_needed (suc (suc (suc (suc (suc zero))))) high block n s i a h k = refl
sample_needed (suc (suc (suc (suc (suc (suc code)))))) high block n s i a h k = refl

-- so a whole row is read the same out of the needed bytes and out of more
leb_cut : (m n l : ℕ) → m ≤ n → leb m (min n l) ≡ leb m l
leb_cut m n l h = go (leb m l) refl
  where
    go : (t : Bool) → leb m l ≡ t → leb m (min n l) ≡ t
    go true e = let k = leb-true m l e in le-leb m (min n l) (omega arith)
    go false e = let k = leb-false m l e in lt-leb m (min n l) (omega arith)

pub there_needed : (code s : ℕ) (block : List ℕ) (n : ℕ) → needed code s ≤ n → integers_there code s (take n block) ≡ integers_there code s block
unfolding integers_there
there_needed code s block n h = rw (length-take n block, leb_cut (needed code s) n (length block) h)

pub read_needed : (code : ℕ) (high : Bool) (block : List ℕ) (n : ℕ) (row : List ℤ) → needed code (length row) ≤ n
    → integers_read code high (take n block) row ≡ integers_read code high block row
unfolding integers_read integers_there
read_needed code high block n row h = rw (length-take n block, leb_cut (needed code (length row)) n (length block) h)
    (go (integers_asked code (length row)) refl)
  where
    go : (t : Bool) → integers_asked code (length row) ≡ t
        → cond (t && leb (needed code (length row)) (length block)) (values_from (sample_of code high (take n block)) 0 (length row)) row
        ≡ cond (t && leb (needed code (length row)) (length block)) (values_from (sample_of code high block) 0 (length row)) row
    go true e =
        ap (λ (r : List ℤ). cond (leb (needed code (length row)) (length block)) r row)
        (run_same (sample_of code high (take n block)) (sample_of code high block) 0 (length row)
        (λ k p q. sample_needed code high block n (length row) k e (omega arith) h))
    go false e = refl

-- ---- all or nothing

pub too_short : (code s : ℕ) (block : List ℕ) → length block < needed code s → integers_there code s block ≡ false
unfolding integers_there
too_short code s block h = simp (lt-leb (needed code s) (length block) h) (and_false (integers_asked code s))

pub there : (code s : ℕ) (block : List ℕ) → integers_asked code s ≡ true → needed code s ≤ length block
    → integers_there code s block ≡ true
unfolding integers_there
there code s block h k = rw (h, le-leb (needed code s) (length block) k)

pub no_integers : (code s : ℕ) (block : List ℕ) → (code ≡ 1 → ⊥) → (code ≡ 2 → ⊥) → (code ≡ 3 → ⊥) → integers_there code s block ≡ false
unfolding integers_there
no_integers zero s block h1 h2 h3 = refl
no_integers (suc zero) s block h1 h2 h3 = absurd (h1 refl)
no_integers (suc (suc zero)) s block h1 h2 h3 = absurd (h2 refl)
no_integers (suc (suc (suc zero))) s block h1 h2 h3 = absurd (h3 refl)
no_integers (suc (suc (suc (suc zero)))) s block h1 h2 h3 = refl
no_integers (suc (suc (suc (suc (suc zero))))) s block h1 h2 h3 = refl
no_integers (suc (suc (suc (suc (suc (suc code)))))) s block h1 h2 h3 = refl

pub no_groups : (s : ℕ) (block : List ℕ) → (s % 4 ≡ 0 → ⊥) → integers_there 3 s block ≡ false
unfolding integers_there
no_groups s block h = rw (ne_eqb (s % 4) 0 h)

pub nothing_read : (code : ℕ) (high : Bool) (block : List ℕ) (row : List ℤ) → integers_there code (length row) block ≡ false
    → (false ≡ integers_there code (length row) block) × (row ≡ integers_read code high block row)
unfolding integers_read
nothing_read code high block row h = (sym h, sym (simp h))

pub all_read : (code : ℕ) (high : Bool) (block : List ℕ) (old row : List ℤ) → integers_there code (length old) block ≡ true
    → row ≡ values_from (sample_of code high block) 0 (length old)
    → (true ≡ integers_there code (length old) block) × (row ≡ integers_read code high block old)
unfolding integers_read
all_read code high block old row h e = (sym h, e ∙ sym (simp h))

pub no_bits : (code s t : ℕ) (block : List ℕ) → (code ≡ 4 → ⊥) → (code ≡ 5 → ⊥) → bits_there code s t block ≡ false
unfolding bits_there
no_bits zero s t block h4 h5 = refl
no_bits (suc zero) s t block h4 h5 = refl
no_bits (suc (suc zero)) s t block h4 h5 = refl
no_bits (suc (suc (suc zero))) s t block h4 h5 = refl
no_bits (suc (suc (suc (suc zero)))) s t block h4 h5 = absurd (h4 refl)
no_bits (suc (suc (suc (suc (suc zero))))) s t block h4 h5 = absurd (h5 refl)
no_bits (suc (suc (suc (suc (suc (suc code)))))) s t block h4 h5 = refl

pub unequal : (code s t : ℕ) (block : List ℕ) → (t ≡ s → ⊥) → bits_there code s t block ≡ false
unfolding bits_there
unequal code s t block h = rw (ne_eqb t s h) (and_false (bits_asked code))

pub bits_too_short : (code s t : ℕ) (block : List ℕ) → length block < needed code s → bits_there code s t block ≡ false
unfolding bits_there
bits_too_short code s t block h =
    rw (lt-leb (needed code s) (length block) h, and_false (eqb t s)) (and_false (bits_asked code))

pub bits_there_lem : (code s t : ℕ) (block : List ℕ) → bits_asked code ≡ true → t ≡ s → needed code s ≤ length block
    → bits_there code s t block ≡ true
unfolding bits_there
bits_there_lem code s t block h e k = rw (h, eq-eqb t s e, le-leb (needed code s) (length block) k)

-- a row of which every class was stored has the classes of the patterns
pub classes_end : (code : ℕ) {old classes : List ℕ} {i : ℕ} (row : List ℕ) → Filling (λ k. class_of code (get_or row k 0)) old i classes
    → length old ≤ i → length old ≡ length row → classes ≡ map (class_of code) row
classes_end code row r h e = fill_end r h ∙ ap (values_from _ 0) e ∙ run_of _ (class_of code) 0 row (λ i l. refl)

pub no_bits_read : (code : ℕ) (high : Bool) (block row classes : List ℕ) → bits_there code (length row) (length classes) block ≡ false
    → (false ≡ bits_there code (length row) (length classes) block)
    × ((row ≡ patterns_read code high block row classes) × (classes ≡ classes_read code high block row classes))
unfolding patterns_read classes_read
no_bits_read code high block row classes h = (sym h, (sym (simp h), sym (simp h)))

pub all_bits_read : (code : ℕ) (high : Bool) (block old_row old_classes row classes : List ℕ) → bits_there code (length old_row) (length old_classes) block ≡ true
    → row ≡ values_from (pattern_of code high block) 0 (length old_row) → classes ≡ map (class_of code) row
    → (true ≡ bits_there code (length old_row) (length old_classes) block)
    × ((row ≡ patterns_read code high block old_row old_classes) × (classes ≡ classes_read code high block old_row old_classes))
unfolding patterns_read classes_read
all_bits_read code high block old_row old_classes row classes h e f =
    let g : classes ≡ values_from (λ i. class_of code (pattern_of code high block i)) 0 (length old_row) =
    f ∙ ap (map (class_of code)) e ∙ sym (run_map (class_of code) (pattern_of code high block) 0 (length old_row)) in
    (sym h, (e ∙ sym (simp h), g ∙ sym (simp h)))
