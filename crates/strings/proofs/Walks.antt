-- Theorems on what specs/Walks defines. They stand here, as a wrong definition there is to be refused and not to be unread.
-- Assumes nothing.
use Rattle.std.proofs.Math.Path.{◌≡◌, refl}
use Rattle.std.proofs.Common.{sym, ap, ◌∙◌, length-drop, Ok, Err, Some, None, Result, Option}
use Rattle.std.specs.Prelude.{Bool, true, false, List, [], ◌∷◌, length, take, drop, ltb, eqb}
use Prim.Native.Nat.{ℕ, zero, suc, ◌+◌, ◌-◌, ◌≤◌, ◌<◌}
use native.Mathlib.Omega.{arith}
use Rattle.word.specs.Part.{part, length_part, part_drop, part_part, part_none}
use Rattle.refusal.specs.Rows.{pick}
use Rattle.refusal.specs.Table.{refusal}
use Rattle.refusal.specs.declared.Part.{Part}
use Rattle.refusal.specs.declared.Rule.{Rule}
use Rattle.refusal.specs.declared.Rule.TheVariants.{StringOffset}
use Rattle.strings.specs.declared.Place.{Place}
use Rattle.text.specs.declared.Manner.{Manner}
use Rattle.text.specs.Manner.{open_end}
use Rattle.strings.specs.Frames.{no_offset}
use Rattle.strings.specs.Strings.{body, key_len, after_key, frame_of}
use Rattle.strings.specs.Strings.{on_frame, step_of, on_step, strings_from, place_of}
use Rattle.strings.specs.Strings.{on_text, entry_of, places_from, PlaceIn}
use Rattle.strings.specs.Walks.{Fits, entry_text, gap_len_le, in_frame, judged_clear, key_len_le, length_body, next_fits, over_of, walk_step}
use Rattle.refusal.specs.Verdicts.{accepted}

pub next_bounds : (how : Manner) (high : Bool) (t u : List ℕ) (p : Part) (prev l : List ℕ) (at o n : ℕ) → step_of how high t u p prev l at ≡ Ok (Some (o, n))
    → (0 < o) × (o ≤ length l) × (2 + n ≤ o)
next_bounds how high t u p prev l at o n e =
    let b = next_fits how high t u p prev l at o n e in
    let i = in_frame how high t l o b.0 in
    let k : key_len (body t o l) ≡ n = (judged_clear how u prev (body t o l) n b.1).1 in
    let m = key_len_le (body t o l) in
    let s = length_body t o l i.low i.fit in
    (omega (arith, i.low), i.fit, omega (arith, i.low))

module _ (how : Manner) (high : Bool) (t u : List ℕ) (p : Part) (f : List ℕ) (e at k g m : ℕ) (low : at < e) (fits : e ≤ length f) (enough : e - at ≤ m) where
  pub turn_fits : (o n : ℕ) → step_of how high t u p (part k g f) (part at e f) at ≡ Ok (Some (o, n)) → (0 < o) × (at + o ≤ e) × (at + 2 + n ≤ e)
  turn_fits o n h =
      let b = next_bounds how high t u p (part k g f) (part at e f) at o n h in
      let w : length (part at e f) ≡ e - at = length_part at e f fits in
      (b.0, omega (arith, b.1), omega (arith, b.1, b.2))

  pub turn_next : (o n : ℕ) → step_of how high t u p (part k g f) (part at e f) at ≡ Ok (Some (o, n))
      → strings_from how (m - 1) high t u p (part (at + 2) (at + 2 + n) f) (part (at + o) e f) (at + o) ≡ strings_from how m high t u p (part k g f)
      (part at e f) at
  turn_next o n h =
      let b = turn_fits o n h in
      let x : drop o (part at e f) ≡ part (at + o) e f = part_drop o at e f in
      let s : at + (2 + n) ≡ at + 2 + n = omega arith in
      let r : 2 + n - 2 ≡ n = omega arith in
      let y : take n (drop 2 (part at e f)) ≡ part (at + 2) (at + 2 + n) f =
      ap (λ (j : ℕ). take j (drop 2 (part at e f))) (sym r) ∙ part_part 2 (2 + n) at e f (omega (arith, b.2)) ∙ ap (λ (j : ℕ). part (at + 2) j f) s in
      sym (walk_step how m high t u p (part k g f) (part at e f) at (omega arith) ∙ rw (h, x, y))

no_frame : (how : Manner) (high : Bool) (t : List ℕ) → frame_of how high t [] ≡ over_of how
unfolding frame_of over_of
no_frame how high t = rw (no_offset high [] refl) (go (open_end how))
  where
    go : (w : Bool) → pick {A = Result (Option ℕ) Rule} (pick w (eqb 0 1) (ltb 0 2)) (Err StringOffset) (Ok None) ≡ pick w (Ok None) (Err StringOffset)
    go true = refl
    go false = refl

pub walk_over : (how : Manner) (high : Bool) (t u : List ℕ) (p : Part) (prev f : List ℕ) (e at m : ℕ) → e ≤ at
    → pick (open_end how) accepted (Err (refusal StringOffset p at)) ≡ strings_from how m high t u p prev (part at e f) at
unfolding strings_from step_of on_frame over_of
walk_over how high t u p prev f e at zero h = refl
walk_over how high t u p prev f e at (suc m) h = rw (part_none at e f h, no_frame how high t) (go (open_end how))
  where
    go : (w : Bool) → pick w accepted (Err (refusal StringOffset p at))
        ≡ on_step (on_frame how (pick w (Ok None) (Err StringOffset)) t u prev [] p at)
        (λ o n. strings_from how m high t u p (take n (drop 2 [])) (drop o []) (at + o))
    go true = refl
    go false = refl

pub place_fits : (how : Manner) (high : Bool) (t l : List ℕ) (at o : ℕ) → frame_of how high t l ≡ Ok (Some o) → Fits at l (place_of t o l at) o
place_fits how high t l at o f =
    let i = in_frame how high t l o f in
    let low : 3 + length t ≤ o = i.low in
    let m = key_len_le (body t o l) in
    let g = gap_len_le (after_key (body t o l)) in
    let d : length (after_key (body t o l)) ≡ length (body t o l) - key_len (body t o l) = length-drop (key_len (body t o l)) (body t o l) in
    let s = length_body t o l low i.fit in
    record { some = omega arith; within = i.fit; key = refl; inside = (omega arith, omega arith, omega arith, omega arith) }

pub entry_fits : (how : Manner) (high : Bool) (t l : List ℕ) (at : ℕ) (s : Place) (o : ℕ) → entry_of how high t l at ≡ Some (s, o) → Fits at l s o
entry_fits how high t l at s o e =
    let b = entry_text how high t l at s o e in
    rw b.1 (place_fits how high t l at o b.0)

module _ (how : Manner) (high : Bool) (t f : List ℕ) (e at m : ℕ) (low : at < e) (fits : e ≤ length f) (enough : e - at ≤ m) where
  pub place_bounds : (s : Place) (o : ℕ) → entry_of how high t (part at e f) at ≡ Some (s, o)
      → (0 < o) × (at + o ≤ e) × PlaceIn e s
  place_bounds s o h =
      let b = entry_fits how high t (part at e f) at s o h in
      let w : length (part at e f) ≡ e - at = length_part at e f fits in
      let i = b.inside in
      (b.some, omega (arith, b.within), (i.0, i.1, i.2, omega (arith, b.within, i.3)))

pub place_over : (how : Manner) (high : Bool) (t f : List ℕ) (e at m : ℕ) → e ≤ at → [] ≡ places_from how m high t (part at e f) at
unfolding places_from on_text over_of
place_over how high t f e at zero h = refl
place_over how high t f e at (suc m) h = rw (part_none at e f h, no_frame how high t) (go (open_end how))
  where
    go : (w : Bool) → [] ≡ on_text (pick w (Ok None) (Err StringOffset)) [] (λ o. place_of t o [] at ∷ places_from how m high t (drop o []) (at + o))
    go true = refl
    go false = refl
