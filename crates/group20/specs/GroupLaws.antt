-- The laws of a group of words: what its pairs of words make, and how long it is.
-- Assumes nothing.
use Rattle.std.specs.Prelude.{◌≡◌, None, Bool, List, ◌++◌, ℕ, ◌+◌, ◌*◌, ◌<◌, ℤ, pos, nat_abs, length, get_or}
use Rattle.std.proofs.Common.{sym, ap, ap₂, ◌∙◌, append_assoc, arith, length-append, leb-false}
use Rattle.word.specs.Put.{put, put_append}
use Rattle.word.specs.Word.{bytes_of}
use Rattle.word.specs.WordLaws.{length_bytes_of}
use Rattle.fit.specs.Unfit.{unfit_integer, unfit_integers, all_good}
use Rattle.float20.specs.Float20.{mantissa_of, ones_bits}
use Rattle.float20.specs.Float20Laws.{Coded}
use Rattle.group20.specs.Group20.{exponents_of, words_of, group_bytes, group_of}

-- words that two bytes hold
abbrev pub TwoBytes : ℕ → ℕ → ℕ → ℕ → ℕ → Type 0
TwoBytes w a b c d = (w < 65536) × (a < 65536) × (b < 65536) × (c < 65536) × (d < 65536)

-- the words of group g of a row
pub record Words (row : List ℤ) (g w a b c d : ℕ) : Type 0 where
  pub exponents : w ≡ exponents_of (get_or row (4 * g) (pos 0)) (get_or row (4 * g + 1) (pos 0)) (get_or row (4 * g + 2) (pos 0)) (get_or row (4 * g + 3) (pos 0))
  pub first : a ≡ ones_bits (mantissa_of (get_or row (4 * g) (pos 0)))
  pub second : b ≡ ones_bits (mantissa_of (get_or row (4 * g + 1) (pos 0)))
  pub third : c ≡ ones_bits (mantissa_of (get_or row (4 * g + 2) (pos 0)))
  pub fourth : d ≡ ones_bits (mantissa_of (get_or row (4 * g + 3) (pos 0)))
  pub small : TwoBytes w a b c d

pub words_told : (row : List ℤ) (g : ℕ) {ea eb ec ed ma mb mc md : ℕ} (w : ℕ) → Coded (get_or row (4 * g) (pos 0)) ea ma
    → Coded (get_or row (4 * g + 1) (pos 0)) eb mb → Coded (get_or row (4 * g + 2) (pos 0)) ec mc → Coded (get_or row (4 * g + 3) (pos 0)) ed md
    → w ≡ ea + 16 * eb + 256 * ec + 4096 * ed → ma < 65536 → mb < 65536 → mc < 65536 → md < 65536 → Words row g w ma mb mc md
unfolding exponents_of
words_told row g w ra rb rc rd q ha hb hc hd =
    record {
      exponents = rw (q, ra.exponent, rb.exponent, rc.exponent, rd.exponent);
      first = ra.mantissa;
      second = rb.mantissa;
      third = rc.mantissa;
      fourth = rd.mantissa;
      small = (omega (arith, ra.small, rb.small, rc.small, rd.small), ha, hb, hc, hd);
    }

words_group : {row : List ℤ} {g w a b c d : ℕ} (high : Bool) → Words row g w a b c d → words_of high w a b c d ≡ group_of high row g
unfolding group_of group_bytes
words_group high r = rw (r.exponents, r.first, r.second, r.third, r.fourth)

-- a group but for its last word: the code stores the words by pairs
unfoldable pub front_of : Bool → ℕ → ℕ → ℕ → ℕ → List ℕ
front_of high w a b c = (bytes_of 2 high w ++ bytes_of 2 high a) ++ (bytes_of 2 high b ++ bytes_of 2 high c)

front_last : (high : Bool) (w a b c d : ℕ) → front_of high w a b c ++ bytes_of 2 high d ≡ words_of high w a b c d
unfolding front_of words_of
front_last high w a b c d = simp append_assoc

length_front : (high : Bool) (w a b c : ℕ) → length (front_of high w a b c) ≡ 8
unfolding front_of
length_front high w a b c = simp (length-append, length_bytes_of)

length_pair : (high : Bool) (a b : ℕ) → length (bytes_of 2 high a ++ bytes_of 2 high b) ≡ 4
length_pair high a b = simp (length-append, length_bytes_of)

-- a piece stored where the piece before it ends
put_next : {n : ℕ} (p q xs : List ℕ) (at : ℕ) → length p ≡ n → put (put xs at p) (at + n) q ≡ put xs at (p ++ q)
put_next p q xs at e = sym (put_append p q xs at ∙ ap (λ (k : ℕ). put (put xs at p) (at + k) q) e)

-- two pairs of words, and three of them behind the last word of the group before
pub put_four : (high : Bool) (w a b c : ℕ) (xs : List ℕ) (at : ℕ)
    → put (put xs at (bytes_of 2 high w ++ bytes_of 2 high a)) (at + 4) (bytes_of 2 high b ++ bytes_of 2 high c) ≡ put xs at (front_of high w a b c)
unfolding front_of
put_four high w a b c xs at = put_next (bytes_of 2 high w ++ bytes_of 2 high a) (bytes_of 2 high b ++ bytes_of 2 high c) xs at (length_pair high w a)

pub put_six : (high : Bool) (l w a b c d : ℕ) (xs : List ℕ) (at : ℕ)
    → put (put (put xs at (bytes_of 2 high l ++ bytes_of 2 high w)) (at + 4) (bytes_of 2 high a ++ bytes_of 2 high b)) (at + 8)
    (bytes_of 2 high c ++ bytes_of 2 high d)
    ≡ put xs at (bytes_of 2 high l ++ words_of high w a b c d)
unfolding words_of
put_six high l w a b c d xs at =
    let p = bytes_of 2 high l ++ bytes_of 2 high w in
    let q = bytes_of 2 high a ++ bytes_of 2 high b in
    let n : length (p ++ q) ≡ 8 = simp (length-append, length_bytes_of) in
    ap (λ (ys : List ℕ). put ys (at + 8) (bytes_of 2 high c ++ bytes_of 2 high d)) (put_next p q xs at (length_pair high l w))
    ∙ put_next (p ++ q) (bytes_of 2 high c ++ bytes_of 2 high d) xs at n ∙ ap (put xs at) (simp append_assoc)

-- the last word stored behind the front makes the group; with the next group behind it, the two
pub put_one : {row : List ℤ} {g w a b c d : ℕ} (high : Bool) (xs : List ℕ) (at : ℕ) → Words row g w a b c d
    → put (put xs at (front_of high w a b c)) (at + 8) (bytes_of 2 high d) ≡ put xs at (group_of high row g)
put_one {w = w} {a} {b} {c} {d} high xs at r =
    put_next (front_of high w a b c) (bytes_of 2 high d) xs at (length_front high w a b c) ∙ ap (put xs at) (front_last high w a b c d ∙ words_group high r)

pub put_two : {row : List ℤ} {g h w a b c d w' a' b' c' d' : ℕ} (high : Bool) (xs : List ℕ) (at : ℕ) → Words row g w a b c d → Words row h w' a' b' c' d'
    → put (put xs at (front_of high w a b c)) (at + 8) (bytes_of 2 high d ++ words_of high w' a' b' c' d')
    ≡ put xs at (group_of high row g ++ group_of high row h)
put_two {row} {g} {h} {w} {a} {b} {c} {d} {w'} {a'} {b'} {c'} {d'} high xs at r s =
    put_next (front_of high w a b c) (bytes_of 2 high d ++ words_of high w' a' b' c' d') xs at (length_front high w a b c)
    ∙ ap (put xs at) (sym (append_assoc (front_of high w a b c) (bytes_of 2 high d) (words_of high w' a' b' c' d'))
    ∙ ap₂ ◌++◌ (front_last high w a b c d ∙ words_group high r) (words_group high s))

-- ---- the samples that code 3 holds

pub fit_magnitude : (row : List ℤ) → unfit_integers 3 row ≡ None → (k : ℕ) → k < length row → nat_abs (get_or row k (pos 0)) < 1073741824
unfolding unfit_integers unfit_integer
fit_magnitude row h k l = leb-false 1073741824 (nat_abs (get_or row k (pos 0))) (all_good (unfit_integer 3) (pos 0) 0 row h k l)

-- ---- lengths

pub length_group : (high : Bool) (a b c d : ℤ) → length (group_bytes high a b c d) ≡ 10
unfolding group_bytes words_of
length_group high a b c d = simp (length-append, length_bytes_of)

pub length_group_of : (high : Bool) (row : List ℤ) (g : ℕ) → length (group_of high row g) ≡ 10
unfolding group_of
length_group_of high row g = length_group high _ _ _ _
