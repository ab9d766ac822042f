-- "takes lower-case keyword letters as upper case" (document 02 §11).
-- Assumes nothing.
use Rattle.std.specs.Prelude.{◌≡◌, refl, Bool, true, false, ◌&&◌, ◌||◌, List, [], ◌∷◌, ℕ, zero, suc, ◌+◌, ◌-◌, ◌≤◌, ◌<◌, length, get_or, drop, leb, eqb}
use Rattle.std.proofs.Common.{ap, ap₂, arith, leb-true, leb-false, le-leb, ne_eqb, sym, ◌∙◌, lt-ltb, le-ltb}
use Rattle.std.proofs.lemmas.Bool.{lt-leb}
use Rattle.word.specs.Tests.{both}
use Rattle.refusal.specs.Rows.{pick}
use Rattle.chars.specs.Chars.{solid, key_char, key_solid}
use Rattle.chars.specs.Runs.{all, same, same_short, same_apart, same_next, same_longer, same_ended, same_long}
use Rattle.std.specs.Char.{to_ascii_uppercase}
use Rattle.std.specs.List.{list_all, zip}

-- a to z
abbrev pub small : ℕ → Bool
small b = leb 97 b && leb b 122

-- a letter of those as one of A to Z, any other byte as it is
abbrev pub upper : ℕ → ℕ
upper b = pick (small b) (b - 32) b

-- a keyword in upper case
unfoldable pub uppered : List ℕ → List ℕ
uppered [] = []
uppered (b ∷ bs) = upper b ∷ uppered bs

-- a keyword's character where small letters are taken as upper case
abbrev pub loose_char : ℕ → Bool
loose_char b = key_char (upper b)

-- ---- they are the codes 33 to 126

pub loose_codes : (b : ℕ) → loose_char b ≡ (leb 33 b && leb b 126)
loose_codes b = go (leb 97 b) (leb b 122) refl refl
  where
    go : (w v : Bool) → leb 97 b ≡ w → leb b 122 ≡ v → key_char (pick (w && v) (b - 32) b) ≡ (leb 33 b && leb b 126)
    go true true e f =
        let l = leb-true 97 b e in
        let h = leb-true b 122 f in
        rw (le-leb 33 (b - 32) (omega arith), le-leb (b - 32) 96 (omega arith), le-leb 33 b (omega arith), le-leb b 126 (omega arith))
    go true false e f =
        let l = leb-true 97 b e in
        let h = leb-false b 122 f in
        rw (le-leb 33 b (omega arith), lt-leb b 96 (omega arith), le-leb 123 b (omega arith))
    go false v e f =
        let l = leb-false 97 b e in
        rw (le-leb b 96 (omega arith), lt-leb 123 b (omega arith), le-leb b 126 (omega arith)) (unit (leb 33 b))
      where
        unit : (w : Bool) → ((w && true) || false) ≡ (w && true)
        unit true = refl
        unit false = refl

-- ---- what document 01's keywords have is in upper case already

-- a keyword's character of document 01 is no small letter
pub key_upper : (b : ℕ) → key_char b ≡ true → upper b ≡ b
key_upper b h = go (leb 97 b) (leb b 122) refl refl
  where
    go : (w v : Bool) → leb 97 b ≡ w → leb b 122 ≡ v → pick (w && v) (b - 32) b ≡ b
    go true true e f =
        let l = leb-true 97 b e in
        let k = leb-true b 122 f in
        let a : leb b 96 ≡ false = lt-leb b 96 (omega arith) in
        let c : leb 123 b ≡ false = lt-leb 123 b (omega arith) in
        let d : leb 33 b ≡ true = le-leb 33 b (omega arith) in
        let s : false ≡ true = rw (a, c, d) at h in
        let y : ◌≡◌ {A = ℕ} 0 1 = cc in
        absurd (omega arith)
    go true false e f = refl
    go false v e f = refl

pub key_loose : (b : ℕ) → key_char b ≡ true → loose_char b ≡ true
key_loose b h = rw (key_upper b h) h

pub keys_upper : (k : List ℕ) → all key_char k ≡ true → uppered k ≡ k
unfolding uppered all
keys_upper [] h = refl
keys_upper (b ∷ bs) h =
    let a = both (key_char b) (all key_char bs) h in
    ap₂ (λ (x : ℕ) (xs : List ℕ). x ∷ xs) (key_upper b a.0) (keys_upper bs a.1)

-- no blank is one of them
pub loose_solid : (b : ℕ) → loose_char b ≡ true → solid b ≡ true
loose_solid b h = go (small b) refl h
  where
    go : (w : Bool) → small b ≡ w → key_char (pick w (b - 32) b) ≡ true → solid b ≡ true
    go true e k = let l = leb-true 97 b (both (leb 97 b) (leb b 122) e).0 in rw (ne_eqb b 32 (omega arith), ne_eqb b 9 (omega arith))
    go false e k = key_solid b k

-- ---- a keyword in upper case, byte by byte

pub length_uppered : (k : List ℕ) → length (uppered k) ≡ length k
unfolding uppered
length_uppered [] = refl
length_uppered (b ∷ bs) = ap suc (length_uppered bs)

pub nth_uppered : (k : List ℕ) (i : ℕ) → i < length k → get_or (uppered k) i 0 ≡ upper (get_or k i 0)
unfolding uppered
nth_uppered [] i h = absurd (omega arith)
nth_uppered (b ∷ bs) zero h = refl
nth_uppered (b ∷ bs) (suc i) h = nth_uppered bs i (omega arith)

-- what is in upper case stays as it is
pub upper_again : (b : ℕ) → upper (upper b) ≡ upper b
upper_again b = go (leb 97 b) (leb b 122) refl refl
  where
    go : (w v : Bool) → leb 97 b ≡ w → leb b 122 ≡ v → upper (pick (w && v) (b - 32) b) ≡ pick (w && v) (b - 32) b
    go true true e f = let h = leb-true b 122 f in rw (lt-leb 97 (b - 32) (omega arith))
    go true false e f = rw (e, f)
    go false v e f = rw e

pub uppered_again : (k : List ℕ) → uppered (uppered k) ≡ uppered k
unfolding uppered
uppered_again [] = refl
uppered_again (b ∷ bs) = ap₂ (λ (x : ℕ) (xs : List ℕ). x ∷ xs) (upper_again b) (uppered_again bs)

-- what one letter of both tells, and what the rest does
module _ (p k : List ℕ) (i : ℕ) where
  pub raised_short : i < length p → length k ≤ i → false ≡ same (drop i (uppered p)) (drop i k)
  raised_short h g = same_short (uppered p) k i (rw (length_uppered p) h) g

  pub raised_apart : i < length p → i < length k → eqb (upper (get_or p i 0)) (get_or k i 0) ≡ false → false ≡ same (drop i (uppered p)) (drop i k)
  raised_apart h g l = same_apart (uppered p) k i (rw (length_uppered p) h) g (rw (nth_uppered p i h) l)

  pub raised_next : i < length p → i < length k → eqb (upper (get_or p i 0)) (get_or k i 0) ≡ true
      → same (drop (i + 1) (uppered p)) (drop (i + 1) k) ≡ same (drop i (uppered p)) (drop i k)
  raised_next h g l = same_next (uppered p) k i (rw (length_uppered p) h) g (rw (nth_uppered p i h) l)

  pub raised_longer : length p ≤ i → i < length k → false ≡ same (drop i (uppered p)) (drop i k)
  raised_longer h g = same_longer (uppered p) k i (rw (length_uppered p) h) g

  pub raised_ended : length p ≤ i → length k ≤ i → true ≡ same (drop i (uppered p)) (drop i k)
  raised_ended h g = same_ended (uppered p) k i (rw (length_uppered p) h) g

-- ---- a text in upper case beside another, as the library goes over both

pub upper_ascii : (b : ℕ) → to_ascii_uppercase b ≡ upper b
upper_ascii b = go (leb 97 b) (leb b 122) refl refl
  where
    go : (w v : Bool) → leb 97 b ≡ w → leb b 122 ≡ v → to_ascii_uppercase b ≡ pick (w && v) (b - 32) b
    go true true e f =
        let l = leb-true 97 b e in
        let h = leb-true b 122 f in
        rw (le-ltb b 97 (omega arith), lt-ltb b 123 (omega arith))
    go true false e f =
        let l = leb-true 97 b e in
        let h = leb-false b 122 f in
        rw (le-ltb b 97 (omega arith), le-ltb b 123 (omega arith))
    go false v e f = let l = leb-false 97 b e in rw (lt-ltb b 97 (omega arith))

pub raised_pairs : (p k : List ℕ) → length p ≡ length k
    → list_all (λ (q : ℕ × ℕ). eqb (to_ascii_uppercase q.0) q.1) (zip p k) ≡ same (uppered p) k
unfolding uppered same
raised_pairs [] [] h = refl
raised_pairs [] (y ∷ k) h = absurd (omega arith)
raised_pairs (x ∷ p) [] h = absurd (omega arith)
raised_pairs (x ∷ p) (y ∷ k) h = rw (upper_ascii x, raised_pairs p k (omega arith))

pub raised_long : (p k : List ℕ) → (length p ≡ length k → ⊥) → false ≡ same (uppered p) k
raised_long p k h = same_long (uppered p) k (λ e. h (sym (length_uppered p) ∙ e))
