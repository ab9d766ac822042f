-- The strings of an area: "Offset 0 ends the list; what follows in the area is ignored" (document 01, "Strings"). Two
-- areas of one length that are alike up to and with the end mark get the same refusal, the same places and the same
-- strings.
-- Assumes nothing.
use Rattle.std.specs.Prelude.{◌≡◌, Bool, true, false, Result, Ok, Err, Option, Some, None, List, [], ◌∷◌, ℕ, zero, suc, ◌+◌, ◌-◌, ◌≤◌, length, take, drop}
use Rattle.std.proofs.Common.{refl, ap, sym, ◌∙◌, arith, length-drop, take-take}
use Rattle.text.specs.declared.Manner.TheVariants.{Strict}
use Rattle.word.specs.Part.{part, drop_take, part_take}
use Rattle.word.specs.Word.{word_at}
use Rattle.word.specs.WordLaws.{word_take}
use Rattle.refusal.specs.Rows.{pick}
use Rattle.chars.specs.Runs.{same}
use Rattle.strings.specs.declared.Place.{Place}
use Rattle.strings.specs.Strings.{offset, frame_of}
use Rattle.strings.specs.Strings.{key_in, value_in, find_of, value_found}
use Rattle.refusal.specs.declared.Rule.{Rule}

-- what of a string's frame is read: an end mark's two bytes, the o bytes of a string and what is read behind it, all
-- that is left where it is broken
abbrev pub read_of : Result (Option ℕ) Rule → ℕ → (ℕ → ℕ) → ℕ
read_of (Ok None) left next = 2
read_of (Err r) left next = left
read_of (Ok (Some o)) left next = o + next o

unfoldable pub used_from : ℕ → Bool → List ℕ → List ℕ → ℕ
used_from zero high t l = length l
used_from (suc m) high t l = read_of (frame_of Strict high t l) (length l) (λ o. used_from m high t (drop o l))

-- how many bytes of an area are read
unfoldable pub used_of : Bool → List ℕ → List ℕ → ℕ
used_of high t l = used_from (length l) high t l

pub offset_same : (high : Bool) (m : ℕ) (l r : List ℕ) → 2 ≤ m → take m l ≡ take m r → offset high l ≡ offset high r
unfolding offset
offset_same high m l r h e = sym (word_take 2 high m l 0 (omega arith)) ∙ ap (λ (x : List ℕ). word_at 2 high x 0) e ∙ word_take 2 high m r 0 (omega arith)

pub part_same : (a e m : ℕ) (l r : List ℕ) → e ≤ m → take m l ≡ take m r → part a e l ≡ part a e r
part_same a e m l r h q = sym (part_take m a e l h) ∙ ap (part a e) q ∙ part_take m a e r h

pub front_same : (a m : ℕ) (l r : List ℕ) → a ≤ m → take m l ≡ take m r → take a l ≡ take a r
front_same a m l r h q = sym (take-take a m l h) ∙ ap (take a) q ∙ take-take a m r h

pub rest_same : (a m : ℕ) (l r : List ℕ) → take (a + m) l ≡ take (a + m) r → take m (drop a l) ≡ take m (drop a r)
rest_same a m l r q =
    let k : a + m - a ≡ m = omega arith in
    let cut : (x : List ℕ) → drop a (take (a + m) x) ≡ take m (drop a x) = λ (x : List ℕ). drop_take a (a + m) x ∙ ap (λ (j : ℕ). take j (drop a x)) k in
    sym (cut l) ∙ ap (drop a) q ∙ cut r

-- ---- an area, string by string

pub drop_long : (o : ℕ) (l r : List ℕ) → length l ≡ length r → length (drop o l) ≡ length (drop o r)
drop_long o l r n = length-drop o l ∙ ap (λ (k : ℕ). k - o) n ∙ sym (length-drop o r)

-- f and g have the same keyword and the same value at each of these places
abbrev pub SameAt : List ℕ → List ℕ → List Place → Type 0
SameAt f g [] = Unit {0}
SameAt f g (s ∷ ss) = ((key_in f s ≡ key_in g s) × (value_in f s ≡ value_in g s)) × SameAt f g ss

-- so a keyword is found at the same place, with the same value
pub find_same : (f g : List ℕ) (ps : List Place) (key : List ℕ) → SameAt f g ps → find_of Strict f ps key ≡ find_of Strict g ps key
unfolding find_of
find_same f g [] key s = refl
find_same f g (p ∷ ps) key s = rw (s.0.0, find_same f g ps key s.1)

pub value_same : (f g : List ℕ) (ps : List Place) (key : List ℕ) → SameAt f g ps → value_found f (find_of Strict f ps key) ≡ value_found g (find_of Strict g ps key)
unfolding find_of value_found
value_same f g [] key s = refl
value_same f g (p ∷ ps) key s = rw s.0.0 (go (same (key_in g p) key) (value_same f g ps key s.1))
  where
    go : (w : Bool) → value_found f (find_of Strict f ps key) ≡ value_found g (find_of Strict g ps key)
        → value_found f (pick w (Some p) (find_of Strict f ps key)) ≡ value_found g (pick w (Some p) (find_of Strict g ps key))
    go true h = s.0.1
    go false h = h
