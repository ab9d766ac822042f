-- The manner of reading strings: all that another manner of reading may change, each rule once. `Strict` is document
-- 01's; `Lenient` is that of document 02 §11: "it takes lower-case keyword letters as upper case, accepts any order and
-- repeats, and ends a list where no byte of the area is left", and "17 and 34 are never given here".
-- Assumes nothing.
use Rattle.std.specs.Prelude.{◌≡◌, refl, Bool, true, false, List, ℕ, ◌<◌, length}
use Rattle.std.proofs.Common.{sym, ap, ◌∙◌, arith}
use Rattle.std.proofs.lemmas.Bool.{lt-leb}
use Rattle.text.specs.declared.Manner.{Manner}
use Rattle.text.specs.declared.Manner.TheVariants.{Strict, Lenient}
use Rattle.chars.specs.Chars.{solid, key_char, capital, key_solid, capital_key}
use Rattle.chars.specs.Runs.{all, all_weaker, same, same_eq}
use Rattle.letters.specs.Upper.{loose_char, uppered, loose_codes, loose_solid, key_loose, keys_upper, length_uppered}
use Rattle.key_order.specs.Order.{rises}

-- whether a list of strings may end where no byte of its area is left; else "Offset 0 ends the list" alone
abbrev pub open_end : Manner → Bool
open_end Strict = false
open_end Lenient = true

-- a keyword's characters
abbrev pub letter : Manner → ℕ → Bool
letter Strict = key_char
letter Lenient = loose_char

-- what a keyword counts as, where it is compared with NOTE or with an asked keyword
abbrev pub named : Manner → List ℕ → List ℕ
named Strict = λ k. k
named Lenient = uppered

-- whether the keyword k may follow the keyword p
abbrev pub follows : Manner → List ℕ → List ℕ → Bool
follows Strict = rises
follows Lenient = λ p k. true

-- whether channel numbers stand in all traces of a file or in none, each a good one (document 02 §7)
abbrev pub asks_channels : Manner → Bool
asks_channels Strict = true
asks_channels Lenient = false

-- ---- what holds of every manner

-- a keyword's character is no blank
pub letter_solid : (how : Manner) (b : ℕ) → letter how b ≡ true → solid b ≡ true
letter_solid Strict b h = key_solid b h
letter_solid Lenient b h = loose_solid b h

-- a capital is a keyword's character
pub capital_letter : (how : Manner) (b : ℕ) → capital b ≡ true → letter how b ≡ true
capital_letter Strict b h = capital_key b h
capital_letter Lenient b h = key_loose b (capital_key b h)

-- nothing below 33 is one
pub low_letter : (how : Manner) (b : ℕ) → b < 33 → false ≡ letter how b
low_letter Strict b h = rw (lt-leb 33 b h, lt-leb 123 b (omega arith))
low_letter Lenient b h = sym (loose_codes b ∙ rw (lt-leb 33 b h))

-- what a keyword counts as is as long as it is
pub length_named : (how : Manner) (k : List ℕ) → length (named how k) ≡ length k
length_named Strict k = refl
length_named Lenient k = length_uppered k

pub other_length : (how : Manner) (k key : List ℕ) → (length k ≡ length key → ⊥) → false ≡ same (named how k) key
other_length how k key n = go (same (named how k) key) refl
  where
    go : (w : Bool) → same (named how k) key ≡ w → false ≡ w
    go true q = absurd (n (sym (length_named how k) ∙ ap length (same_eq (named how k) key q)))
    go false q = refl

-- ---- what the strict manner takes, every manner takes, and counts as the same

pub strict_letter : (how : Manner) (b : ℕ) → letter Strict b ≡ true → letter how b ≡ true
strict_letter Strict b h = h
strict_letter Lenient b h = key_loose b h

pub strict_letters : (how : Manner) (k : List ℕ) → all (letter Strict) k ≡ true → all (letter how) k ≡ true
strict_letters how k h = all_weaker (letter Strict) (letter how) (strict_letter how) k h

pub strict_named : (how : Manner) (k : List ℕ) → all (letter Strict) k ≡ true → named how k ≡ k
strict_named Strict k h = refl
strict_named Lenient k h = keys_upper k h

pub strict_follows : (how : Manner) (p k : List ℕ) → follows Strict p k ≡ true → follows how p k ≡ true
strict_follows Strict p k h = h
strict_follows Lenient p k h = refl
