-- The strings of an area in two manners: the places are the same in every manner, and where the strict check lets the
-- area through, a keyword is found at the same one.
-- Assumes nothing.
use Rattle.std.specs.Prelude.{◌≡◌, Bool, List, [], ◌∷◌, length, drop, Result, Ok, Err, Option, Some, None, true, ℕ, zero, suc, ◌+◌, ◌≤◌}
use Rattle.std.proofs.Common.{refl, ap, sym, ◌∙◌, le_refl, lt_of_not-le, arith}
use Rattle.std.proofs.Math.Decide.{dec_le}
use borrow.Author.Tests.{not-false}
use Rattle.word.specs.Part.{part, part_none}
use Rattle.refusal.specs.declared.Part.{Part}
use Rattle.refusal.specs.declared.Refusal.{Refusal}
use Rattle.text.specs.declared.Manner.{Manner}
use Rattle.text.specs.declared.Manner.TheVariants.{Strict}
use Rattle.text.specs.Manner.{letter, strict_named}
use Rattle.chars.specs.Runs.{all}
use Rattle.strings.specs.declared.Place.{Place}
use Rattle.strings.specs.Strings.{frame_of, step_of, strings_from, strings_of, on_text, place_of, places_from, places_of, find_of}
use Rattle.strings.specs.Walks.{walk_start}
use Rattle.strings.proofs.Walks.{place_over}
use Rattle.strings.specs.Followed.{no_fuel, not_bad, none_left}
use Rattle.strings.proofs.Followed.{followed}
use Rattle.lenient.specs.Forgiven.{frame_any}
use Rattle.refusal.specs.declared.Rule.{Rule}
use Rattle.refusal.specs.Verdicts.{accepted}

-- ---- where the strings stand

none_over : (how : Manner) (m : ℕ) (high : Bool) (t : List ℕ) (at : ℕ) → places_from how m high t [] at ≡ []
none_over how m high t at =
    let e : part at at [] ≡ [] = part_none at at [] (le_refl at) in
    ap (λ (l : List ℕ). places_from how m high t l at) (sym e) ∙ sym (place_over how high t [] at at m (le_refl at))

pub places_any : (how other : Manner) (m : ℕ) (high : Bool) (t l : List ℕ) (at : ℕ) → places_from how m high t l at ≡ places_from other m high t l at
unfolding places_from on_text
places_any how other zero high t l at = refl
places_any how other (suc m) high t [] at = none_over how (suc m) high t at ∙ sym (none_over other (suc m) high t at)
places_any how other (suc m) high t (x ∷ l) at =
    rw (frame_any how other high t (x ∷ l) (omega arith))
    (go (frame_of other high t (x ∷ l)) (λ o. places_any how other m high t (drop o (x ∷ l)) (at + o)))
  where
    go : (w : Result (Option ℕ) Rule) → ((o : ℕ) → places_from how m high t (drop o (x ∷ l)) (at + o) ≡ places_from other m high t (drop o (x ∷ l)) (at + o))
        → on_text w [] (λ o. place_of t o (x ∷ l) at ∷ places_from how m high t (drop o (x ∷ l)) (at + o))
        ≡ on_text w [] (λ o. place_of t o (x ∷ l) at ∷ places_from other m high t (drop o (x ∷ l)) (at + o))
    go (Ok None) again = refl
    go (Err r) again = refl
    go (Ok (Some o)) again = ap (λ (ps : List Place). place_of t o (x ∷ l) at ∷ ps) (again o)

-- ---- where the strict check lets an area through, a keyword is found at the same place in every manner

module _ (how : Manner) (high : Bool) (t u : List ℕ) (p : Part) (f : List ℕ) (e : ℕ) (fits : e ≤ length f) (key : List ℕ) where
  find_from : (m at : ℕ) (prev : List ℕ) → strings_from Strict m high t u p prev (part at e f) at ≡ accepted
      → find_of how f (places_from Strict m high t (part at e f) at) key ≡ find_of Strict f (places_from Strict m high t (part at e f) at) key
  unfolding find_of
  find_from zero at prev q = absurd (no_fuel high t u p f e at prev q)
  find_from (suc m) at prev q =
      go (step_of Strict high t u p prev (part at e f) at) refl (λ o n. find_from m (at + o) (part (at + 2) (at + 2 + n) f))
    where
      go : (st : Result (Option (ℕ × ℕ)) Refusal) → step_of Strict high t u p prev (part at e f) at ≡ st
          → ((o n : ℕ) → strings_from Strict m high t u p (part (at + 2) (at + 2 + n) f) (part (at + o) e f) (at + o) ≡ accepted
          → find_of how f (places_from Strict m high t (part (at + o) e f) (at + o)) key
          ≡ find_of Strict f (places_from Strict m high t (part (at + o) e f) (at + o)) key)
          → find_of how f (places_from Strict (suc m) high t (part at e f) at) key ≡ find_of Strict f (places_from Strict (suc m) high t (part at e f) at) key
      go (Ok None) h again = rw (none_left Strict high t u p f e m at prev h)
      go (Err r) h again = absurd (not_bad Strict high t u p f e m at prev r h q)
      go (Ok (Some (o, n))) h again =
          let c = followed Strict high t u p f e fits m at prev o n h q in
          let k : all (letter Strict) (part (at + 2) (at + 2 + n) f) ≡ true = ap (all (letter Strict)) (sym c.key) ∙ not-false _ c.clear.1.0 in
          rw (c.places, c.own_key, strict_named how (part (at + 2) (at + 2 + n) f) k, again o n c.rest)

none_found : (how : Manner) (f key : List ℕ) → find_of how f [] key ≡ find_of Strict f [] key
unfolding find_of
none_found how f key = refl

pub find_strict : (how : Manner) (high : Bool) (t u : List ℕ) (p : Part) (f : List ℕ) (a e : ℕ) (key : List ℕ) → a ≤ e → e ≤ length f
    → strings_of Strict high t u p (part a e f) a ≡ accepted
    → find_of how f (places_of how high t (part a e f) a) key ≡ find_of Strict f (places_of Strict high t (part a e f) a) key
unfolding places_of
find_strict how high t u p f a e key low fits q =
    rw (places_any how Strict (length (part a e f)) high t (part a e f) a)
    (elim (dec_le e a) [
      | yes h ↦ rw (part_none a e f h, none_over Strict 0 high t a) (none_found how f key)
      | no h ↦
          let s : strings_from Strict (length (part a e f)) high t u p (part a a f) (part a e f) a ≡ accepted =
          walk_start Strict high t u p f a e (lt_of_not-le h) fits ∙ q in
          find_from how high t u p f e fits key (length (part a e f)) a (part a a f) s
    ])
