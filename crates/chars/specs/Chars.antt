-- Which bytes may stand where (document 01, "Strings", "Numbers in values", "What we write").
-- Assumes nothing.
use Rattle.std.specs.Prelude.{◌≡◌, refl, Bool, true, false, not, ◌&&◌, ◌||◌, List, [], ◌∷◌, ℕ, leb, eqb}
use Rattle.std.proofs.Common.{arith, leb-true, leb-false, eqb-true, ne_eqb}
use Rattle.std.proofs.lemmas.Bool.{lt-leb, not-true}
use Rattle.word.specs.Tests.{both}
use Rattle.chars.specs.declared.Kind.{Kind}
use Rattle.chars.specs.declared.Kind.TheVariants.{Blank, Solid, Digit, Capital, Line, Printed, Value}

-- "spaces or tabs"
abbrev pub blank : ℕ → Bool
blank b = eqb b 32 || eqb b 9

abbrev pub solid : ℕ → Bool
solid b = not (blank b)

-- a keyword "uses codes 33 to 126 except 97 to 122"
abbrev pub key_char : ℕ → Bool
key_char b = (leb 33 b && leb b 96) || (leb 123 b && leb b 126)

-- most of them, and all that the paper's own keywords have
abbrev pub capital : ℕ → Bool
capital b = leb 33 b && leb b 96

-- 0 to 9
abbrev pub digit : ℕ → Bool
digit b = leb 48 b && leb b 57

-- a sheet's lines are "ended by 0Ah"
abbrev pub in_line : ℕ → Bool
in_line b = not (eqb b 10)

-- a value "uses 32 to 126 and tab"
abbrev pub value_char : ℕ → Bool
value_char b = (leb 32 b && leb b 126) || eqb b 9

-- most of them
abbrev pub printed : ℕ → Bool
printed b = leb 32 b && leb b 126

-- a terminator's characters "are 0 to 31, neither terminator uses tab (9)"
abbrev pub control : ℕ → Bool
control b = leb b 31 && not (eqb b 9)

-- the kinds that the code asks for
abbrev pub is_of : Kind → ℕ → Bool
is_of Blank = blank
is_of Solid = solid
is_of Digit = digit
is_of Capital = capital
is_of Line = in_line
is_of Printed = printed
is_of Value = value_char

-- NOTE
abbrev pub note : List ℕ
note = 78 ∷ 79 ∷ 84 ∷ 69 ∷ []

-- a keyword's character is no blank, and a blank may stand in a value
pub key_solid : (b : ℕ) → key_char b ≡ true → solid b ≡ true
key_solid b h = go (leb 33 b) refl h
  where
    go : (w : Bool) → leb 33 b ≡ w → ((w && leb b 96) || (leb 123 b && leb b 126)) ≡ true → solid b ≡ true
    go true e k = let low = leb-true 33 b e in rw (ne_eqb b 32 (omega arith), ne_eqb b 9 (omega arith))
    go false e k =
        let low = leb-false 33 b e in
        let z : leb 123 b ≡ false = lt-leb 123 b (omega arith) in
        let s : false ≡ true = rw z at k in
        let y : ◌≡◌ {A = ℕ} 0 1 = cc in
        absurd (omega arith)

pub capital_key : (b : ℕ) → capital b ≡ true → key_char b ≡ true
capital_key b h = rw h

pub printed_value : (b : ℕ) → printed b ≡ true → value_char b ≡ true
printed_value b h = rw h

pub blank_value : (b : ℕ) → blank b ≡ true → value_char b ≡ true
blank_value b h = go (eqb b 32) refl h
  where
    go : (w : Bool) → eqb b 32 ≡ w → (w || eqb b 9) ≡ true → value_char b ≡ true
    go true e k = let q : b ≡ 32 = eqb-true b 32 e in rw q
    go false e k = let q : b ≡ 9 = eqb-true b 9 k in rw q

pub solid_not_blank : (b : ℕ) → solid b ≡ false → blank b ≡ true
solid_not_blank b h = go (blank b) h
  where
    go : (w : Bool) → not w ≡ false → w ≡ true
    go true k = refl
    go false k = let z : ◌≡◌ {A = ℕ} 0 1 = cc in absurd (omega arith)

-- a terminator's character is none of a value
pub control_no_value : (b : ℕ) → control b ≡ true → value_char b ≡ false
control_no_value b h =
    let k = both (leb b 31) (not (eqb b 9)) h in
    let l = leb-true b 31 k.0 in
    let n : eqb b 9 ≡ false = not-true (eqb b 9) k.1 in
    rw (lt-leb 32 b (omega arith), n)
