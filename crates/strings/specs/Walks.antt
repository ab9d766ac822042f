-- The walks over an area, string by string: a law for each turn of the loops that follow them. f is the file, the area
-- its part from a place up to e.
-- Assumes nothing.
use Rattle.std.proofs.Math.Path.{◌≡◌, refl}
use Rattle.std.proofs.Common.{sym, ap, ◌∙◌, length-drop, ltb-false, ne_eqb, Result, Ok, Err, Option, Some, None}
use Rattle.std.specs.Prelude.{Bool, true, false, List, [], ◌∷◌, length, take, drop, ltb, eqb}
use Prim.Native.Nat.{ℕ, zero, suc, ◌+◌, ◌-◌, ◌≤◌, ◌<◌}
use native.Mathlib.Omega.{arith}
use Rattle.std.proofs.lemmas.Bool.{not-false}
use Rattle.word.specs.Part.{part, length_part, part_drop, part_part, part_none}
use Rattle.refusal.specs.Rows.{pick, Clear, ruled_clear}
use Rattle.refusal.specs.Table.{refusal}
use Rattle.refusal.specs.declared.Part.{Part}
use Rattle.refusal.specs.declared.Refusal.{Refusal}
use Rattle.refusal.specs.declared.Rule.{Rule}
use Rattle.refusal.specs.declared.Rule.TheVariants.{StringOffset}
use Rattle.strings.specs.declared.Place.{Place}
use Rattle.text.specs.declared.Manner.{Manner}
use Rattle.chars.specs.Chars.{blank, solid}
use Rattle.text.specs.Manner.{open_end}
use Rattle.chars.specs.Runs.{run_le, same_eq}
use Rattle.strings.specs.Frames.{no_offset}
use Rattle.strings.specs.Strings.{offset, body, key_len, after_key, gap_len, frame_rows, frame_of, text_rows, judged_of}
use Rattle.strings.specs.Strings.{on_judged, on_frame, end_or_text, step_of, on_step, strings_from, strings_of, place_of}
use Rattle.strings.specs.Strings.{on_text, entry_of, places_from, PlaceIn}
use Rattle.refusal.specs.Verdicts.{pair_parts, Verdict, accepted}

-- ---- what a frame with a text has shown

pub record InFrame (high : Bool) (t l : List ℕ) (o : ℕ) : Type 0 where
  pub told : offset high l ≡ o
  pub two : 2 ≤ length l
  pub low : 3 + length t ≤ o
  pub fit : o ≤ length l
  pub ends : part (o - length t) o l ≡ t

-- a string's offset is not 0
some_text : (high : Bool) (l : List ℕ) (o : ℕ) → end_or_text high l ≡ Ok (Some o) → (eqb (offset high l) 0 ≡ false) × (offset high l ≡ o)
some_text high l o e = go (eqb (offset high l) 0) refl e
  where
    go : (w : Bool) → eqb (offset high l) 0 ≡ w → pick {A = Result (Option ℕ) Rule} w (Ok None) (Ok (Some (offset high l))) ≡ Ok (Some o) → (w ≡ false) × (offset high l ≡ o)
    go true q h = let z : ◌≡◌ {A = ℕ} 0 1 = cc in absurd (omega arith)
    go false q h = (refl, cc)

broken_text : (o : ℕ) (r : Rule) → Err r ≡ Ok (Some o) → ⊥
broken_text o r e = let z : ◌≡◌ {A = ℕ} 0 1 = cc in omega arith

pub in_frame : (how : Manner) (high : Bool) (t l : List ℕ) (o : ℕ) → frame_of how high t l ≡ Ok (Some o) → InFrame high t l o
unfolding frame_of
in_frame how high t l o e =
    let c = ruled_clear Err (Ok (Some o)) (broken_text o) (frame_rows how high t l) (end_or_text high l) e in
    let k = some_text high l o c.1 in
    let q : offset high l ≡ o = k.1 in
    let rows = rw k.0 at c.0 in
    let ends : part (offset high l - length t) (offset high l) l ≡ t = same_eq _ _ (not-false _ rows.1.1.1.0) in
    let low : 3 + length t ≤ o = rw q at (ltb-false (offset high l) (3 + length t) rows.1.0) in
    let fit : o ≤ length l = rw q at (ltb-false (length l) (offset high l) rows.1.1.0) in
    record { told = q; two = omega arith; low = low; fit = fit; ends = rw q at ends }

pub length_body : (t : List ℕ) (o : ℕ) (l : List ℕ) → 3 + length t ≤ o → o ≤ length l → length (body t o l) ≡ o - length t - 2
unfolding body
length_body t o l low fit = length_part 2 (o - length t) l (omega arith)

-- ---- the check

-- a step past a string goes past its frame, and its keyword lies there
pub next_fits : (how : Manner) (high : Bool) (t u : List ℕ) (p : Part) (prev l : List ℕ) (at o n : ℕ) → step_of how high t u p prev l at ≡ Ok (Some (o, n))
    → (frame_of how high t l ≡ Ok (Some o)) × (judged_of how u prev (body t o l) ≡ Ok n)
unfolding step_of on_frame
next_fits how high t u p prev l at o n e = frames (frame_of how high t l) refl e
  where
    judges : (j : Result ℕ Rule) (q : ℕ) → frame_of how high t l ≡ Ok (Some q) → judged_of how u prev (body t q l) ≡ j → on_judged j p at q ≡ Ok (Some (o, n))
        → (frame_of how high t l ≡ Ok (Some o)) × (judged_of how u prev (body t o l) ≡ Ok n)
    judges (Ok m) q f g h = let p : ◌≡◌ {A = ℕ × ℕ} (q, m) (o, n) = cc in let e = pair_parts p in (rw e.0 at f, rw (e.0, e.1) at g)
    judges (Err r) q f g h = let z : ◌≡◌ {A = ℕ} 0 1 = cc in absurd (omega arith)

    frames : (w : Result (Option ℕ) Rule) → frame_of how high t l ≡ w → on_frame how w t u prev l p at ≡ Ok (Some (o, n))
        → (frame_of how high t l ≡ Ok (Some o)) × (judged_of how u prev (body t o l) ≡ Ok n)
    frames (Ok None) f h = let z : ◌≡◌ {A = ℕ} 0 1 = cc in absurd (omega arith)
    frames (Err r) f h = let z : ◌≡◌ {A = ℕ} 0 1 = cc in absurd (omega arith)
    frames (Ok (Some q)) f h = judges (judged_of how u prev (body t q l)) q f refl h

-- a step to the end stands where no string does
pub done_frame : (how : Manner) (high : Bool) (t u : List ℕ) (p : Part) (prev l : List ℕ) (at : ℕ) → step_of how high t u p prev l at ≡ Ok None
    → frame_of how high t l ≡ Ok None
unfolding step_of on_frame
done_frame how high t u p prev l at e = go (frame_of how high t l) refl e
  where
    stop : (j : Result ℕ Rule) (o : ℕ) → on_judged j p at o ≡ Ok None → ⊥
    stop (Ok n) o k = let z : ◌≡◌ {A = ℕ} 0 1 = cc in omega arith
    stop (Err r) o k = let z : ◌≡◌ {A = ℕ} 0 1 = cc in omega arith

    go : (w : Result (Option ℕ) Rule) → frame_of how high t l ≡ w → on_frame how w t u prev l p at ≡ Ok None → frame_of how high t l ≡ Ok None
    go (Ok None) f h = f
    go (Err r) f h = let z : ◌≡◌ {A = ℕ} 0 1 = cc in absurd (omega arith)
    go (Ok (Some o)) f h = absurd (stop (judged_of how u prev (body t o l)) o h)

pub wrong_keyword : (n : ℕ) (r : Rule) → Err r ≡ Ok n → ⊥
wrong_keyword n r e = let z : ◌≡◌ {A = ℕ} 0 1 = cc in omega arith

-- what a text that was let through has shown
pub judged_clear : (how : Manner) (u prev b : List ℕ) (n : ℕ) → judged_of how u prev b ≡ Ok n → Clear (text_rows how u prev b) × (key_len b ≡ n)
unfolding judged_of
judged_clear how u prev b n e =
    let c = ruled_clear Err (Ok n) (wrong_keyword n) (text_rows how u prev b) (Ok (key_len b)) e in
    let k = c.1 in
    (c.0, cc)

pub key_len_le : (b : List ℕ) → key_len b ≤ length b
unfolding key_len
key_len_le b = run_le solid b

pub gap_len_le : (r : List ℕ) → gap_len r ≤ length r
unfolding gap_len
gap_len_le r = run_le blank r

abbrev pub Walk : Manner → ℕ → Bool → List ℕ → List ℕ → Part → List ℕ → List ℕ → ℕ → Verdict
Walk how m high t u p prev l at = on_step (step_of how high t u p prev l at) (λ o n. strings_from how (m - 1) high t u p (take n (drop 2 l)) (drop o l) (at + o))

pub walk_step : (how : Manner) (m : ℕ) (high : Bool) (t u : List ℕ) (p : Part) (prev l : List ℕ) (at : ℕ) → 0 < m
    → strings_from how m high t u p prev l at ≡ Walk how m high t u p prev l at
unfolding strings_from
walk_step how zero high t u p prev l at h = absurd (omega arith)
walk_step how (suc m) high t u p prev l at h = let q : suc m - 1 ≡ m = omega arith in rw q

-- a turn of the check: the keyword before is the part from k to g of the file
module _ (how : Manner) (high : Bool) (t u : List ℕ) (p : Part) (f : List ℕ) (e at k g m : ℕ) (low : at < e) (fits : e ≤ length f) (enough : e - at ≤ m) where
  pub turn_bad : (r : Refusal) → step_of how high t u p (part k g f) (part at e f) at ≡ Err r
      → Err r ≡ strings_from how m high t u p (part k g f) (part at e f) at
  turn_bad r h = sym (walk_step how m high t u p (part k g f) (part at e f) at (omega arith) ∙ rw h)

  pub turn_done : step_of how high t u p (part k g f) (part at e f) at ≡ Ok None → accepted ≡ strings_from how m high t u p (part k g f) (part at e f) at
  turn_done h = sym (walk_step how m high t u p (part k g f) (part at e f) at (omega arith) ∙ rw h)

-- the start, an empty area, and an area that ended
pub walk_start : (how : Manner) (high : Bool) (t u : List ℕ) (p : Part) (f : List ℕ) (a e : ℕ) → a < e → e ≤ length f
    → strings_from how (length (part a e f)) high t u p (part a a f) (part a e f) a ≡ strings_of how high t u p (part a e f) a
unfolding strings_of
walk_start how high t u p f a e low fits =
    let w : length (part a e f) ≡ e - a = length_part a e f fits in
    rw (ne_eqb (length (part a e f)) 0 (omega arith), part_none a a f (omega arith))

pub walk_none : (how : Manner) (high : Bool) (t u : List ℕ) (p : Part) (f : List ℕ) (a e : ℕ) → e ≤ a → accepted ≡ strings_of how high t u p (part a e f) a
unfolding strings_of
walk_none how high t u p f a e h = rw (part_none a e f h)

-- the area that ended: no offset is left, and the list ends where the manner of reading lets it
unfoldable pub over_of : Manner → Result (Option ℕ) Rule
over_of how = pick (open_end how) (Ok None) (Err StringOffset)

-- ---- the questions

pub record Fits (at : ℕ) (l : List ℕ) (s : Place) (o : ℕ) : Type 0 where
  pub some : 0 < o
  pub within : o ≤ length l
  pub key : at + 2 ≡ s.key
  pub inside : PlaceIn (at + o) s

pub entry_text : (how : Manner) (high : Bool) (t l : List ℕ) (at : ℕ) (s : Place) (o : ℕ) → entry_of how high t l at ≡ Some (s, o)
    → (frame_of how high t l ≡ Ok (Some o)) × (s ≡ place_of t o l at)
unfolding entry_of on_text
entry_text how high t l at s o e = go (frame_of how high t l) refl e
  where
    go : (w : Result (Option ℕ) Rule) → frame_of how high t l ≡ w → on_text {A = Option (Place × ℕ)} w None (λ q. Some (place_of t q l at, q)) ≡ Some (s, o) → (frame_of how high t l ≡ Ok (Some o))
        × (s ≡ place_of t o l at)
    go (Ok None) f h = let z : ◌≡◌ {A = ℕ} 0 1 = cc in absurd (omega arith)
    go (Err r) f h = let z : ◌≡◌ {A = ℕ} 0 1 = cc in absurd (omega arith)
    go (Ok (Some q)) f h =
        let p : ◌≡◌ {A = Place × ℕ} (place_of t q l at, q) (s, o) = cc in
        let e = pair_parts p in (rw e.1 at f, sym e.0 ∙ ap (λ (j : ℕ). place_of t j l at) e.1)

-- a turn of a question
module _ (how : Manner) (high : Bool) (t f : List ℕ) (e at m : ℕ) (low : at < e) (fits : e ≤ length f) (enough : e - at ≤ m) where
  pub place_next : (s : Place) (o : ℕ) → entry_of how high t (part at e f) at ≡ Some (s, o)
      → places_from how m high t (part at e f) at ≡ s ∷ places_from how (m - 1) high t (part (at + o) e f) (at + o)
  unfolding places_from on_text
  place_next s o h = go m enough
    where
      go : (j : ℕ) → e - at ≤ j → places_from how j high t (part at e f) at ≡ s ∷ places_from how (j - 1) high t (part (at + o) e f) (at + o)
      go zero q = absurd (omega arith)
      go (suc j) q =
          let b = entry_text how high t (part at e f) at s o h in
          let r : suc j - 1 ≡ j = omega arith in
          rw (b.0, r, part_drop o at e f, b.1)

  pub place_stop : entry_of how high t (part at e f) at ≡ None → [] ≡ places_from how m high t (part at e f) at
  unfolding places_from entry_of on_text
  place_stop h = go m
    where
      stops : (w : Result (Option ℕ) Rule) (A : Type 0) (x : A) (y : ℕ → A) → on_text {A = Option (Place × ℕ)} w None (λ q. Some (place_of t q (part at e f) at, q)) ≡ None → x ≡ on_text w x y
      stops (Ok None) A x y k = refl
      stops (Err r) A x y k = refl
      stops (Ok (Some q)) A x y k = let z : ◌≡◌ {A = ℕ} 0 1 = cc in absurd (omega arith)

      go : (j : ℕ) → [] ≡ places_from how j high t (part at e f) at
      go zero = refl
      go (suc j) = stops (frame_of how high t (part at e f)) (List Place) []
          (λ o. place_of t o (part at e f) at ∷ places_from how j high t (drop o (part at e f)) (at + o)) h
