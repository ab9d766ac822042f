-- The walk along an area's strings: a law for each turn of the loop, that what is found lies in the area, and that there
-- are no more strings than bytes. f is the file, the area its part up to e.
-- Assumes nothing.
use Rattle.std.specs.Prelude.{◌≡◌, Bool, take, drop, eqb, Result, Ok, Err, Option, Some, None}
use Rattle.std.proofs.Math.Path.{refl}
use Rattle.std.proofs.Common.{sym, ap, ◌∙◌, length-drop, ne_eqb}
use Rattle.std.proofs.Math.Bool.{true, false}
use mathlib.Core.List.{List, []}
use Prim.Native.Nat.{ℕ, zero, suc, ◌+◌, ◌-◌, ◌≤◌, ◌<◌}
use native.Mathlib.Omega.{arith}
use Rattle.std.proofs.Math.ListN.{length}
use Rattle.word.specs.Part.{part, length_part, part_drop, part_none}
use Rattle.refusal.specs.Table.{refusal}
use Rattle.refusal.specs.Rows.{pick}
use Rattle.refusal.specs.declared.Part.{Part}
use Rattle.refusal.specs.declared.Refusal.{Refusal}
use Rattle.refusal.specs.declared.Rule.TheVariants.{StringOffset}
use Rattle.text.specs.declared.Manner.TheVariants.{Strict}
use Rattle.strings.specs.declared.Place.{Place}
use Rattle.strings.specs.Strings.{on_frame, step_of, place_of, PlaceIn}
use Rattle.strings.specs.Frames.{frame_short}
use Rattle.strings.specs.Walks.{next_fits}
use Rattle.strings.proofs.Walks.{place_fits}
use Rattle.strings.proofs.Walks.{next_bounds}
use Rattle.strings.specs.Passed.{seen_place}
use Rattle.strings.proofs.Passed.{seen_key, seen_place_lem}
use Rattle.until.specs.declared.Turn.{Turn}
use Rattle.until.specs.declared.Turn.TheVariants.{Here, Gone, On}
use Rattle.until.specs.declared.Walked.{Walked}
use Rattle.until.specs.Until.{on_turn, on_step, walk_from, walk_of}
use Rattle.until.specs.declared.Walked.TheVariants as walked

-- a turn of the walk: the keyword before is the part from k to g of the file, and j strings are passed
module _ (look : ℕ → List ℕ → Turn) (high : Bool) (t u : List ℕ) (p : Part) (f : List ℕ) (e at k g j m : ℕ) (low : at < e) (fits : e ≤ length f)
    (enough : e - at ≤ m) where
  step : walk_from look m high t u p j (part k g f) (part at e f) at
      ≡ on_step (step_of Strict high t u p (part k g f) (part at e f) at) Err (Ok (walked.Over j))
      (λ o n.
      on_turn (look j (take n (drop 2 (part at e f)))) (Ok (walked.At (place_of t o (part at e f) at))) (Ok (walked.Over j))
      (walk_from look (m - 1) high t u p (j + 1) (take n (drop 2 (part at e f))) (drop o (part at e f)) (at + o)))
  unfolding walk_from
  step = let s : m ≡ suc (m - 1) = omega arith in rw s (let q : suc (m - 1) - 1 ≡ m - 1 = omega arith in rw q)

  pub walk_bad : {r : Refusal} → step_of Strict high t u p (part k g f) (part at e f) at ≡ Err r
      → Err r ≡ walk_from look m high t u p j (part k g f) (part at e f) at
  walk_bad h = sym (step ∙ rw h)

  pub walk_done : step_of Strict high t u p (part k g f) (part at e f) at ≡ Ok None
      → Ok (walked.Over j) ≡ walk_from look m high t u p j (part k g f) (part at e f) at
  walk_done h = sym (step ∙ rw h)

  -- a string met no row, and is the asked one or not
  module _ (o n : ℕ) (h : step_of Strict high t u p (part k g f) (part at e f) at ≡ Ok (Some (o, n))) where
    told : {w : Turn} → look j (part (at + 2) (at + 2 + n) f) ≡ w
        → walk_from look m high t u p j (part k g f) (part at e f) at
        ≡ on_turn w (Ok (walked.At (seen_place t f at (at + 2 + n) o))) (Ok (walked.Over j))
        (walk_from look (m - 1) high t u p (j + 1) (part (at + 2) (at + 2 + n) f) (part (at + o) e f) (at + o))
    told a =
        let y = seen_key Strict high t u p (part k g f) f e at o n fits h in
        let z = seen_place_lem Strict high t u p (part k g f) f e at o n fits h in
        step ∙ rw (h, y, z, part_drop o at e f, a)

    pub walk_here : look j (part (at + 2) (at + 2 + n) f) ≡ Here
        → Ok (walked.At (seen_place t f at (at + 2 + n) o)) ≡ walk_from look m high t u p j (part k g f) (part at e f) at
    walk_here a = sym (told a)

    pub walk_gone : look j (part (at + 2) (at + 2 + n) f) ≡ Gone → Ok (walked.Over j) ≡ walk_from look m high t u p j (part k g f) (part at e f) at
    walk_gone a = sym (told a)

    pub walk_on : look j (part (at + 2) (at + 2 + n) f) ≡ On
        → walk_from look (m - 1) high t u p (j + 1) (part (at + 2) (at + 2 + n) f) (part (at + o) e f) (at + o)
        ≡ walk_from look m high t u p j (part k g f) (part at e f) at
    walk_on a = sym (told a)

-- the start, an empty area, and an area that ended without a mark
module _ (look : ℕ → List ℕ → Turn) (high : Bool) (t u : List ℕ) (p : Part) (f : List ℕ) (e : ℕ) where
  pub walk_start : (a : ℕ) → a < e → e ≤ length f
      → walk_from look (length (part a e f)) high t u p 0 (part a a f) (part a e f) a ≡ walk_of look high t u p (part a e f) a
  unfolding walk_of
  walk_start a low fits =
      let w : length (part a e f) ≡ e - a = length_part a e f fits in
      rw (ne_eqb (length (part a e f)) 0 (omega arith), part_none a a f (omega arith))

  pub walk_none : (a : ℕ) → e ≤ a → Ok (walked.Over 0) ≡ walk_of look high t u p (part a e f) a
  unfolding walk_of
  walk_none a h = rw (part_none a e f h)

  pub walk_past : (prev : List ℕ) (at j m : ℕ) → e ≤ at
      → Err (refusal StringOffset p at) ≡ walk_from look m high t u p j prev (part at e f) at
  unfolding walk_from step_of on_frame
  walk_past prev at j zero h = refl
  walk_past prev at j (suc m) h = rw (part_none at e f h, ← frame_short Strict high t [] refl)

-- ---- where a walk ends. What is found lies in the area; each string that was passed has a byte of it
abbrev pub EndsIn : ℕ → Result Walked Refusal → Type 0
EndsIn e (Ok (walked.At s)) = PlaceIn e s
EndsIn e (Ok (walked.Over j)) = j ≤ e
EndsIn e (Err r) = Unit {0}

module _ (look : ℕ → List ℕ → Turn) (high : Bool) (t u : List ℕ) (p : Part) (e : ℕ) where
  from_in : (m j : ℕ) (prev l : List ℕ) (at : ℕ) → at + length l ≤ e → j ≤ at → EndsIn e (walk_from look m high t u p j prev l at)
  unfolding walk_from
  from_in zero j prev l at h c = tt
  from_in (suc m) j prev l at h c = go (step_of Strict high t u p prev l at) refl (λ o n. from_in m (j + 1) (take n (drop 2 l)) (drop o l) (at + o))
    where
      turn : (o : ℕ) (w : Turn) (more : Result Walked Refusal) → PlaceIn e (place_of t o l at) → EndsIn e more
          → EndsIn e (on_turn w (Ok (walked.At (place_of t o l at))) (Ok (walked.Over j)) more)
      turn o Here more i again = i
      turn o Gone more i again = omega arith
      turn o On more i again = again

      go : (st : Result (Option (ℕ × ℕ)) Refusal) → step_of Strict high t u p prev l at ≡ st
          → ((o n : ℕ) → at + o + length (drop o l) ≤ e → j + 1 ≤ at + o
          → EndsIn e (walk_from look m high t u p (j + 1) (take n (drop 2 l)) (drop o l) (at + o)))
          → EndsIn e (on_step st Err (Ok (walked.Over j))
          (λ o n.
          on_turn (look j (take n (drop 2 l))) (Ok (walked.At (place_of t o l at))) (Ok (walked.Over j))
          (walk_from look m high t u p (j + 1) (take n (drop 2 l)) (drop o l) (at + o))))
      go (Ok None) b again = omega arith
      go (Err r) b again = tt
      go (Ok (Some (o, n))) b again =
          let i = place_fits Strict high t l at o (next_fits Strict high t u p prev l at o n b).0 in
          let d = next_bounds Strict high t u p prev l at o n b in
          turn o (look j (take n (drop 2 l))) _ (i.inside.0, i.inside.1, i.inside.2, omega (arith, i.inside.3, i.within))
          (again o n (omega (arith, length-drop o l, d.1)) (omega (arith, d.0)))

  pub walk_in_lem : (f : List ℕ) (a : ℕ) → a ≤ e → e ≤ length f → EndsIn e (walk_of look high t u p (part a e f) a)
  unfolding walk_of
  walk_in_lem f a low fits = go (eqb (length (part a e f)) 0)
    where
      go : (w : Bool) → EndsIn e (pick w (Ok (walked.Over 0)) (walk_from look (length (part a e f)) high t u p 0 [] (part a e f) a))
      go true = omega arith
      go false = from_in (length (part a e f)) 0 [] (part a e f) a (omega (arith, length_part a e f fits)) (omega arith)
