-- Demand 2, "its .. samples are the paper's", in raw words: bytes, weights and places of the file, and no name that
-- hides a rule (document 01, "Samples", "The trace block"; figures B-1 to B-5 of the paper).
-- Assumes nothing.
use Rattle.std.specs.Prelude.{◌≡◌, refl, Bool, true, false, List, ℕ, suc, ◌+◌, ◌-◌, ◌*◌, ◌/◌, ◌%◌, ◌^◌, ◌≤◌, ◌<◌, pos, negsuc, neg_ℤ, length, get_or, take, eqb}
use Rattle.std.proofs.Common.{◌∙◌, arith, eq-eqb, ne_eqb}
use Rattle.std.specs.Float.Ieee as ieee
use Rattle.std.specs.Float.{Format}
use Rattle.word.specs.Bytes.{Bytes}
use Rattle.word.specs.Part.{part}
use Rattle.word.specs.Word.{word_at}
use Rattle.word.specs.WordLaws.{word_byte, word_joined, word_part, word_small}
use Rattle.sample.specs.Needed.{needed, width}
use Rattle.sample.specs.Run.{values_from}
use Rattle.sample_bits.specs.SampleBits.{exponent_in}
use Rattle.decode.specs.Sample.{pattern_of, group_sample, sample_of, class_by, class_of}
use Rattle.sample_bits.specs.BitLaws.{twos_plus, twos_minus, scaled_plus}
use Rattle.sample_bits.proofs.BitLaws.{scaled_minus}
use Rattle.patterns.specs.Classes.{value_class, code_of, class_ieee}
use Rattle.head_words.specs.HeadWords.{high_first}
use Rattle.block.specs.Block.{pointer_of, block_size_of, data_size_of, sample_count_of, format_code_of, trace_block_of}
use Rattle.reader.specs.Questions.{samples_in, patterns_in, classes_in, samples_of, patterns_of, classes_of}
use Rattle.ignored.specs.Data.{samples_same, patterns_same, classes_same}

-- ---- whole numbers: what each byte weighs, low byte first (`false`) and high byte first (`true`)

abbrev pub byte_at : List ℕ → ℕ → ℕ
byte_at f at = get_or f at 0

pub two_bytes : (f : List ℕ) (at : ℕ) → at + 2 ≤ length f
    → (word_at 2 false f at ≡ byte_at f at + 256 * byte_at f (at + 1)) × (word_at 2 true f at ≡ 256 * byte_at f at + byte_at f (at + 1))
two_bytes f at h =
    let a : word_at 1 false f at ≡ byte_at f at = word_byte false f at (omega arith) in
    let b : word_at 1 false f (at + 1) ≡ byte_at f (at + 1) = word_byte false f (at + 1) (omega arith) in
    let c : word_at 1 true f at ≡ byte_at f at = word_byte true f at (omega arith) in
    let d : word_at 1 true f (at + 1) ≡ byte_at f (at + 1) = word_byte true f (at + 1) (omega arith) in
    let low : word_at 2 false f at ≡ word_at 1 false f (at + 1) * 256 + word_at 1 false f at = word_joined 1 false f at h in
    let high : word_at 2 true f at ≡ word_at 1 true f at * 256 + word_at 1 true f (at + 1) = word_joined 1 true f at h in
    (omega arith, omega arith)

pub four_bytes : (f : List ℕ) (at : ℕ) → at + 4 ≤ length f
    → (word_at 4 false f at ≡ byte_at f at + 256 * byte_at f (at + 1) + 65536 * byte_at f (at + 2) + 16777216 * byte_at f (at + 3))
    × (word_at 4 true f at ≡ 16777216 * byte_at f at + 65536 * byte_at f (at + 1) + 256 * byte_at f (at + 2) + byte_at f (at + 3))
four_bytes f at h =
    let three : at + 2 + 1 ≡ at + 3 = omega arith in
    let a = two_bytes f at (omega arith) in
    let b = rw three at (two_bytes f (at + 2) (omega arith)) in
    let low : word_at 4 false f at ≡ word_at 2 false f (at + 2) * 65536 + word_at 2 false f at = word_joined 2 false f at h in
    let high : word_at 4 true f at ≡ word_at 2 true f at * 65536 + word_at 2 true f (at + 2) = word_joined 2 true f at h in
    (omega (arith, low, a.0, b.0), omega (arith, high, a.1, b.1))

-- eight, by four and four
pub eight_bytes : (f : List ℕ) (at : ℕ) → at + 8 ≤ length f
    → (word_at 8 false f at ≡ word_at 4 false f at + 4294967296 * word_at 4 false f (at + 4))
    × (word_at 8 true f at ≡ 4294967296 * word_at 4 true f at + word_at 4 true f (at + 4))
eight_bytes f at h =
    let low : word_at 8 false f at ≡ word_at 4 false f (at + 4) * 4294967296 + word_at 4 false f at = word_joined 4 false f at h in
    let high : word_at 8 true f at ≡ word_at 4 true f at * 4294967296 + word_at 4 true f (at + 4) = word_joined 4 true f at h in
    (omega arith, omega arith)

-- ---- the formats of a block of bytes, sample i

-- two's complement of n below 2 half: from half on it is less by 2 half
minus_is : (m n : ℕ) → n < m → negsuc (m - 1 - n) ≡ neg_ℤ (pos (m - n))
minus_is m n h = let e : m - n ≡ suc (m - 1 - n) = omega arith in rw e

-- Rules out "Two's complement in code 3", "Reversing all ten bytes of a group" and exponents taken from the top.
pub samples_by_format : (high : Bool) (block : List ℕ) (i : ℕ) → Bytes block
    -- code 1: 16 bits, two's complement
    → ((n : ℕ) → n ≡ word_at 2 high block (2 * i)
    → (n < 32768 → sample_of 1 high block i ≡ pos n) × (32768 ≤ n → sample_of 1 high block i ≡ neg_ℤ (pos (65536 - n))))
    -- code 2: 32 bits, two's complement
    × ((n : ℕ) → n ≡ word_at 4 high block (4 * i)
    → (n < 2147483648 → sample_of 2 high block i ≡ pos n) × (2147483648 ≤ n → sample_of 2 high block i ≡ neg_ℤ (pos (4294967296 - n))))
    -- code 3: ten bytes for four samples; 4 bits of the first word are the exponent, the mantissa is one's complement,
    -- so that FFFFh is 0
    × ((e m : ℕ) → e ≡ word_at 2 high block (10 * (i / 4)) / 2 ^ (4 * (i % 4)) % 16 → m ≡ word_at 2 high block (10 * (i / 4) + 2 + 2 * (i % 4))
    → (m < 32768 → sample_of 3 high block i ≡ pos (m * 2 ^ e)) × (32768 ≤ m → sample_of 3 high block i ≡ neg_ℤ (pos ((65535 - m) * 2 ^ e))))
    -- codes 4 and 5: the pattern of 32 and of 64 bits
    × (pattern_of 4 high block i ≡ word_at 4 high block (4 * i))
    × (pattern_of 5 high block i ≡ word_at 8 high block (8 * i))
unfolding sample_of pattern_of width group_sample exponent_in
samples_by_format high block i by = (
  λ n q. rw (← q) (twos_plus 32768 n, λ l. (let s = word_small 2 high block (2 * i) by in twos_minus 32768 n l (omega arith) ∙ minus_is 65536 n (omega arith))),
  λ n q. rw (← q) (
    twos_plus 2147483648 n,
    λ l. (let s = word_small 4 high block (4 * i) by in twos_minus 2147483648 n l (omega arith)
        ∙ minus_is 4294967296 n (omega arith)),
  ),
  λ e m q r.
      (let g : i / 4 * 10 ≡ 10 * (i / 4) = omega arith in
      let w : 10 * (i / 4) + 2 * (i % 4 + 1) ≡ 10 * (i / 4) + 2 + 2 * (i % 4) = omega arith in
      rw (g, w, ← q, ← r) (scaled_plus e m, scaled_minus e m)),
  refl,
  refl,
)

-- the class of a pattern with the exponent bits e, all ones where they are `top`, and the fraction bits x
abbrev pub Classed : ℕ → ℕ → ℕ → ℕ → Type 0
Classed top e x class =
    (e ≡ 0 → x ≡ 0 → class ≡ 0)
    × (e ≡ 0 → 0 < x → class ≡ 1)
    × (0 < e → e < top → class ≡ 2)
    × (e ≡ top → x ≡ 0 → class ≡ 3)
    × (e ≡ top → 0 < x → class ≡ 4)

class_by_lem : (top e x : ℕ) → 0 < top → Classed top e x (class_by top e x)
unfolding class_by
class_by_lem top e x t = (
  λ a b. rw (eq-eqb e 0 a, eq-eqb x 0 b),
  λ a b. rw (eq-eqb e 0 a, ne_eqb x 0 (omega arith)),
  λ a b. rw (ne_eqb e 0 (omega arith), ne_eqb e top (omega arith)),
  λ a b. rw (ne_eqb e 0 (omega arith), eq-eqb e top a, eq-eqb x 0 b),
  λ a b. rw (ne_eqb e 0 (omega arith), eq-eqb e top a, ne_eqb x 0 (omega arith)),
)

-- "zero, underflow (exponent bits 0, fraction not 0), number, infinity, not a number": 8 exponent bits above 23
-- fraction bits, 11 above 52
pub classes_by_bits : (n : ℕ)
    → Classed 255 (n / 8388608 % 256) (n % 8388608) (class_of 4 n) × Classed 2047 (n / 4503599627370496 % 2048) (n % 4503599627370496) (class_of 5 n)
unfolding class_of
classes_by_bits n = (
  class_by_lem 255 (n / 8388608 % 256) (n % 8388608) (omega arith),
  class_by_lem 2047 (n / 4503599627370496 % 2048) (n % 4503599627370496) (omega arith),
)

-- and that is what the pattern is in IEEE 754
pub classes_are_ieee : (f : Format) (n : ℕ) → class_of (code_of f) n ≡ value_class f (ieee.of_bits f n)
classes_are_ieee = class_ieee

-- ---- which bytes they are: S samples, out of the trace's own D bytes from p+B on. Rules out "Using B as the data's
-- file position" and "Taking S from D".

pub samples_of_the_data : (f : List ℕ) (k : ℕ) (h : Bool) (p b d s c : ℕ) → h ≡ eqb (byte_at f 0) 58 → p ≡ word_at 4 h f (32 + 4 * k)
    → b ≡ word_at 2 h f (p + 2) → d ≡ word_at 4 h f (p + 4) → s ≡ word_at 4 h f (p + 8) → c ≡ byte_at f (p + 12)
    → (samples_of f k ≡ values_from (sample_of c h (part (p + b) (p + b + d) f)) 0 s)
    × (patterns_of f k ≡ values_from (pattern_of c h (part (p + b) (p + b + d) f)) 0 s)
    × (classes_of f k ≡ values_from (λ i. class_of c (pattern_of c h (part (p + b) (p + b + d) f) i)) 0 s)
unfolding samples_in patterns_in classes_in trace_block_of high_first pointer_of block_size_of data_size_of sample_count_of format_code_of
samples_of_the_data f k h p b d s c eh ep eb ed es ec = rw (← eh, ← ep, ← eb, ← ed, ← es, ← ec) (refl, refl, refl)

-- the block's words are the file's, from p+B on
pub words_of_the_data : (w : ℕ) (h : Bool) (a e : ℕ) (f : List ℕ) (at : ℕ) → a + at + w ≤ e → word_at w h (part a e f) at ≡ word_at w h f (a + at)
words_of_the_data = word_part

-- ---- "D may exceed this; the rest is ignored": blocks that agree in the needed bytes have the same samples, patterns
-- and classes

pub rest_of_the_data_ignored : (code : ℕ) (high : Bool) (block other : List ℕ) (s : ℕ) → take (needed code s) block ≡ take (needed code s) other
    → ((code ≡ 3 → s % 4 ≡ 0) → values_from (sample_of code high block) 0 s ≡ values_from (sample_of code high other) 0 s)
    × (values_from (pattern_of code high block) 0 s ≡ values_from (pattern_of code high other) 0 s)
    × (values_from (λ i. class_of code (pattern_of code high block i)) 0 s ≡ values_from (λ i. class_of code (pattern_of code high other i)) 0 s)
rest_of_the_data_ignored code high block other s e =
    (samples_same code high block other s e, patterns_same code high block other s e, classes_same code high block other s e)
