-- A word in the other order is the word with its bytes the other way round.
-- Assumes nothing.
use Rattle.std.specs.Prelude.{◌≡◌, Bool, true, false, List, reverse, ℕ, ◌+◌, ◌*◌, ◌/◌, ◌%◌, ◌^◌, ◌≤◌, ◌<◌, length, get_or, take, drop}
use Rattle.std.proofs.Common.{sym, ap, ◌∙◌, arith, length-drop, length-take-le}
use Rattle.word.specs.Bytes.{each_bytes, bytes_take, bytes_drop}
use Rattle.word.specs.Word.{low_first, low_bytes, value_of, word_at, bytes_of}
use Rattle.word.specs.WordLaws.{length_bytes_of, bytes_of_bytes, value_bytes_of, bytes_of_value, value_joined, bytes_of_joined, word_small}

-- the number that the w bytes of n in the order are, read low byte first
unfoldable pub turned : ℕ → Bool → ℕ → ℕ
turned w high n = value_of false (bytes_of w high n)

-- written low byte first it has the bytes of the order
pub turned_bytes : (w : ℕ) (high : Bool) (n : ℕ) → bytes_of w false (turned w high n) ≡ bytes_of w high n
unfolding turned
turned_bytes w high n =
    ap (λ (k : ℕ). bytes_of k false (value_of false (bytes_of w high n))) (sym (length_bytes_of w high n))
    ∙ bytes_of_value false (bytes_of w high n) (bytes_of_bytes w high n)

-- nothing is turned where the low byte comes first
pub turned_low : (w n : ℕ) → n < 256 ^ w → turned w false n ≡ n
unfolding turned
turned_low w n h = value_bytes_of w false n h

-- of a word that was read low byte first it is the word of the order
pub turned_word : (w : ℕ) (high : Bool) (f : List ℕ) (at : ℕ) → at + w ≤ length f → ((i : ℕ) → get_or f i 0 < 256)
    → turned w high (word_at w false f at) ≡ word_at w high f at
unfolding turned word_at value_of bytes_of
turned_word w true f at h b =
    let l : length (take w (drop at f)) ≡ w = length-take-le w (drop at f) (simp length-drop (omega arith)) in
    let e = bytes_of_value false (take w (drop at f)) (bytes_take w (drop at f) (bytes_drop at f (each_bytes f b))) in
    ap (λ (bs : List ℕ). low_first (reverse bs)) (ap (λ (k : ℕ). low_bytes k (low_first (take w (drop at f)))) (sym l) ∙ e)
turned_word w false f at h b = turned_low w (word_at w false f at) (word_small w false f at (each_bytes f b))

-- two bytes change places; so do the halves of a word, each turned
pub turned_two : (n : ℕ) → n < 65536 → n % 256 * 256 + n / 256 ≡ turned 2 true n
unfolding turned value_of bytes_of low_first low_bytes
turned_two n h = omega arith

pub turned_halves : (w a b n x y : ℕ) → a < 256 ^ w → b < 256 ^ w → n ≡ b * 256 ^ w + a → x ≡ turned w true a → y ≡ turned w true b
    → x * 256 ^ w + y ≡ turned (w + w) true n
unfolding turned
turned_halves w a b n x y h k e p q =
    sym (rw (e, p, q)
    (ap (value_of false) (bytes_of_joined w true b a k h)
    ∙ value_joined w false (bytes_of w true b) (bytes_of w true a) (length_bytes_of w true b) (length_bytes_of w true a)))
