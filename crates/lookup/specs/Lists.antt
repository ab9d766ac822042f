-- The i-th of a list of places, and the first with a keyword: a law for each turn of the loops that look for them, and
-- that what is found lies in the file.
-- Assumes nothing.
use Rattle.std.specs.Prelude.{◌≡◌, refl, Bool, true, false, List, [], ◌∷◌, ℕ, zero, suc, ◌+◌, ◌-◌, ◌≤◌, length, drop, Result, Ok, Err, Option, Some, None}
use Rattle.std.proofs.Common.{sym, arith, length-drop}
use Rattle.word.specs.Part.{part, length_part}
use Rattle.refusal.specs.Rows.{pick}
use Rattle.strings.specs.declared.Place.{Place}
use Rattle.text.specs.declared.Manner.{Manner}
use Rattle.chars.specs.Runs.{same}
use Rattle.text.specs.Manner.{named}
use Rattle.strings.specs.Strings.{frame_of, place_of, on_text, places_from, places_of, key_in, PlaceIn, nth_of, find_of}
use Rattle.strings.proofs.Walks.{place_fits}
use Rattle.refusal.specs.declared.Rule.{Rule}

pub nth_none : (ss : List Place) (k : ℕ) → [] ≡ ss → None ≡ nth_of ss k
unfolding nth_of
nth_none ss k e = rw (sym e)

pub nth_first : (ss : List Place) (s : Place) (rest : List Place) (k : ℕ) → ss ≡ s ∷ rest → k ≡ 0 → Some s ≡ nth_of ss k
unfolding nth_of
nth_first ss s rest k e z = rw (e, z)

pub nth_later : (ss : List Place) (s : Place) (rest : List Place) (k : ℕ) → ss ≡ s ∷ rest → (k ≡ 0 → ⊥) → nth_of rest (k - 1) ≡ nth_of ss k
unfolding nth_of
nth_later ss s rest zero e n = absurd (n refl)
nth_later ss s rest (suc k) e n = let q : suc k - 1 ≡ k = omega arith in rw (q, e)

pub find_none : (how : Manner) (f : List ℕ) (ss : List Place) (key : List ℕ) → [] ≡ ss → None ≡ find_of how f ss key
unfolding find_of
find_none how f ss key e = rw (sym e)

pub find_here : (how : Manner) (f : List ℕ) (ss : List Place) (s : Place) (rest : List Place) (key : List ℕ) → ss ≡ s ∷ rest
    → same (named how (key_in f s)) key ≡ true
    → Some s ≡ find_of how f ss key
unfolding find_of
find_here how f ss s rest key e h = rw (e, h)

pub find_later : (how : Manner) (f : List ℕ) (ss : List Place) (s : Place) (rest : List Place) (key : List ℕ) → ss ≡ s ∷ rest
    → same (named how (key_in f s)) key ≡ false
    → find_of how f rest key ≡ find_of how f ss key
unfolding find_of
find_later how f ss s rest key e h = rw (e, h)

-- ---- a place that is found lies in the file

abbrev pub AllIn : ℕ → List Place → Type 0
AllIn e [] = Unit {0}
AllIn e (s ∷ ss) = PlaceIn e s × AllIn e ss

pub places_in_lem : (how : Manner) (e m : ℕ) (high : Bool) (t l : List ℕ) (at : ℕ) → at + length l ≤ e → AllIn e (places_from how m high t l at)
unfolding places_from on_text
places_in_lem how e zero high t l at h = tt
places_in_lem how e (suc m) high t l at h = go (frame_of how high t l) refl (λ o q. places_in_lem how e m high t (drop o l) (at + o) q)
  where
    go : (w : Result (Option ℕ) Rule) → frame_of how high t l ≡ w → ((o : ℕ) → at + o + length (drop o l) ≤ e → AllIn e (places_from how m high t (drop o l) (at + o)))
        → AllIn e (on_text w [] (λ o. place_of t o l at ∷ places_from how m high t (drop o l) (at + o)))
    go (Ok None) f i = tt
    go (Err r) f i = tt
    go (Ok (Some o)) f i =
        let b = place_fits how high t l at o f in
        let d = length-drop o l in
        ((b.inside.0, b.inside.1, b.inside.2, omega (arith, b.inside.3, b.within)), i o (omega (arith, b.within)))

pub nth_in : (e : ℕ) (ss : List Place) (i : ℕ) (s : Place) → AllIn e ss → nth_of ss i ≡ Some s → PlaceIn e s
unfolding nth_of
nth_in e [] i s a h = absurd (let z : ◌≡◌ {A = ℕ} 0 1 = cc in omega arith)
nth_in e (r ∷ rs) zero s a h = let q : r ≡ s = cc in rw q at a.0
nth_in e (r ∷ rs) (suc i) s a h = nth_in e rs i s a.1 h

pub find_in : (how : Manner) (e : ℕ) (f : List ℕ) (ss : List Place) (key : List ℕ) (s : Place) → AllIn e ss → find_of how f ss key ≡ Some s → PlaceIn e s
unfolding find_of
find_in how e f [] key s a h = absurd (let z : ◌≡◌ {A = ℕ} 0 1 = cc in omega arith)
find_in how e f (r ∷ rs) key s a h = go (same (named how (key_in f r)) key) h (find_in how e f rs key s a.1)
  where
    go : (w : Bool) → pick w (Some r) (find_of how f rs key) ≡ Some s → (find_of how f rs key ≡ Some s → PlaceIn e s) → PlaceIn e s
    go true k i = let q : r ≡ s = cc in rw q at a.0
    go false k i = i k

-- the strings of the area from a to e of f
pub area_in_lem : (how : Manner) (high : Bool) (t f : List ℕ) (a e : ℕ) → a ≤ e → e ≤ length f → AllIn e (places_of how high t (part a e f) a)
unfolding places_of
area_in_lem how high t f a e low fits = places_in_lem how e (length (part a e f)) high t (part a e f) a (omega (arith, length_part a e f fits))
