-- The walks over a NOTE's lines and an area's strings: a law for each turn.
-- Assumes nothing.
use Rattle.std.proofs.Math.Path.{◌≡◌, refl, ap}
use Rattle.std.proofs.Common.{sym, ◌∙◌, le-leb, Result, Ok, Err, Option, Some, None, arith}
use Rattle.std.specs.Prelude.{Bool, false, List, [], ◌∷◌, ◌++◌, ℕ, zero, suc, ◌+◌, ◌-◌, ◌≤◌, ◌<◌}
use Rattle.std.proofs.Math.Bool.{true}
use Rattle.std.proofs.Math.ListN.{length, drop, length-drop}
use Rattle.std.proofs.Math.Seq.{drop-drop}
use Rattle.std.proofs.lemmas.Bool.{lt-leb}
use Rattle.text.specs.declared.Manner.TheVariants.{Strict}
use Rattle.word.specs.Part.{part, length_part}
use Rattle.refusal.specs.declared.Part.{Part}
use Rattle.strings.specs.declared.Place.{Place}
use Rattle.chars.specs.Runs.{same}
use Rattle.note_line.specs.NoteLine.{starts, line_len, line_ends, starts_fits}
use Rattle.note.specs.Note.{lines_of}
use Rattle.strings.specs.Strings.{PlaceIn, frame_of, place_of, on_text, entry_of, places_from, places_of, nth_of, key_in}
use Rattle.strings.specs.Strings.{value_in}
use Rattle.strings.specs.Walks.{in_frame, place_next, place_stop}
use Rattle.strings.proofs.Walks.{place_bounds}
use Rattle.strings.specs.Spelled.{strs_in}
use Rattle.lines.specs.Lines.{string_line}
use Rattle.string_lines.specs.StringLines.{lines_text, values_of, strings_text}
use Rattle.refusal.specs.declared.Rule.{Rule}

-- ---- the lines of a NOTE: e is where the line from `from` on ends
module _ (u v : List ℕ) (from e m : ℕ) (told : e ≡ from + line_len u (drop from v)) (enough : length (drop from v) ≤ m) where
  pub line_on : 0 < length u → e < length v
      → (e + length u ≤ length v) × (length (drop (e + length u) v) ≤ m - 1)
      × (lines_of m u (drop from v) ≡ part from e v ∷ lines_of (m - 1) u (drop (e + length u) v))
  unfolding lines_of
  line_on some h =
      let d = length-drop from v in
      let n : line_len u (drop from v) < length (drop from v) = omega arith in
      let q : e - from ≡ line_len u (drop from v) = omega arith in
      let s : starts u (drop e v) ≡ true = rw (told, ← drop-drop (line_len u (drop from v)) from v) (line_ends u (drop from v) n) in
      let f : length u ≤ length (drop e v) = starts_fits u (drop e v) s in
      let g = length-drop e v in
      let j = length-drop (e + length u) v in
      let k : from + (line_len u (drop from v) + length u) ≡ e + length u = omega arith in
      let w : drop (line_len u (drop from v) + length u) (drop from v) ≡ drop (e + length u) v =
      drop-drop (line_len u (drop from v) + length u) from v ∙ ap (λ (z : ℕ). drop z v) k in
      (omega arith, omega arith, go m enough n q w)
    where
      go : (m : ℕ) → length (drop from v) ≤ m → line_len u (drop from v) < length (drop from v) → e - from ≡ line_len u (drop from v)
          → drop (line_len u (drop from v) + length u) (drop from v) ≡ drop (e + length u) v
          → lines_of m u (drop from v) ≡ part from e v ∷ lines_of (m - 1) u (drop (e + length u) v)
      go zero h n q w = absurd (omega arith)
      go (suc m) h n q w =
          let r : suc m - 1 ≡ m = omega arith in
          rw (lt-leb (length (drop from v)) (line_len u (drop from v)) n, r, q, w)

  pub line_last : length v ≤ e → lines_of m u (drop from v) ≡ drop from v ∷ []
  unfolding lines_of
  line_last h = go m
    where
      go : (m : ℕ) → lines_of m u (drop from v) ≡ drop from v ∷ []
      go zero = refl
      go (suc m) =
          let d = length-drop from v in
          let n : length (drop from v) ≤ line_len u (drop from v) = omega arith in
          rw (le-leb (length (drop from v)) (line_len u (drop from v)) n)

pub lines_more : (p : Part) (key v : List ℕ) (vs : List (List ℕ)) → lines_text p key (v ∷ vs) ≡ string_line p key v ++ lines_text p key vs
unfolding lines_text
lines_more p key v vs = refl

pub lines_one : (p : Part) (key v : List ℕ) → lines_text p key (v ∷ []) ≡ string_line p key v
unfolding lines_text
lines_one p key v = mathlib.Core.List.append-nil (string_line p key v)

-- ---- the lines of a string
pub values_note : (u key v : List ℕ) → same key Rattle.chars.specs.Chars.note ≡ true → values_of u key v ≡ lines_of (length v) u v
unfolding values_of
values_note u key v h = rw h

pub values_plain : (u key v : List ℕ) → same key Rattle.chars.specs.Chars.note ≡ false → values_of u key v ≡ v ∷ []
unfolding values_of
values_plain u key v h = rw h

-- ---- the strings of an area: the first of those that are left, and where the next begins
abbrev pub text_from : Part → List ℕ → List ℕ → Bool → List ℕ → ℕ → ℕ → ℕ → List ℕ
text_from p u f high t e at m = strings_text p u (strs_in f (places_from Strict m high t (part at e f) at))

abbrev pub line_text : Part → List ℕ → List ℕ → Place → List ℕ
line_text p u f s = lines_text p (key_in f s) (values_of u (key_in f s) (value_in f s))

module _ (p : Part) (u f : List ℕ) (high : Bool) (t : List ℕ) (e at m : ℕ) (low : at < e) (fits : e ≤ length f) (enough : e - at ≤ m) where
  first_of : (s : Place) → nth_of (places_of Strict high t (part at e f) at) 0 ≡ Some s
      → (o : ℕ) × (entry_of Strict high t (part at e f) at ≡ Some (s, o)) × (s.end + length t ≡ at + o)
  unfolding places_of nth_of places_from entry_of on_text
  first_of s h = sized (length (part at e f)) (length_part at e f fits) h
    where
      go : (w : Result (Option ℕ) Rule) → frame_of Strict high t (part at e f) ≡ w → (m : ℕ)
          → nth_of (on_text w [] (λ o. place_of t o (part at e f) at ∷ places_from Strict m high t (drop o (part at e f)) (at + o))) 0 ≡ Some s
          → (o : ℕ) × (on_text {A = Option (Place × ℕ)} w None (λ o. Some (place_of t o (part at e f) at, o)) ≡ Some (s, o)) × (s.end + length t ≡ at + o)
      go (Ok None) q m k = let y : ◌≡◌ {A = ℕ} 0 1 = cc in absurd (omega arith)
      go (Err r) q m k = let y : ◌≡◌ {A = ℕ} 0 1 = cc in absurd (omega arith)
      go (Ok (Some o)) q m k =
          let y : place_of t o (part at e f) at ≡ s = cc in
          let i = in_frame Strict high t (part at e f) o q in
          let z : at + (o - length t) ≡ s.end = ap (λ (r : Place). r.end) y in
          (o, ap (λ (r : Place). Some (r, o)) y, omega (arith, i.low, z))

      sized : (n : ℕ) → n ≡ e - at → nth_of (places_from Strict n high t (part at e f) at) 0 ≡ Some s
          → (o : ℕ) × (entry_of Strict high t (part at e f) at ≡ Some (s, o)) × (s.end + length t ≡ at + o)
      sized zero q k = absurd (omega arith)
      sized (suc n) q k = go (frame_of Strict high t (part at e f)) refl n k

  pub string_in : (s : Place) → nth_of (places_of Strict high t (part at e f) at) 0 ≡ Some s
      → PlaceIn e s × (at < s.end + length t) × (s.end + length t ≤ e)
  string_in s h =
      let w = first_of s h in
      let b = place_bounds Strict high t f e at m low fits enough s w.0 w.1 in
      (b.2, omega (arith, b.0, w.2), omega (arith, b.1, w.2))

  pub string_next : (s : Place) → nth_of (places_of Strict high t (part at e f) at) 0 ≡ Some s
      → text_from p u f high t e at m ≡ line_text p u f s ++ text_from p u f high t e (s.end + length t) (m - 1)
  unfolding strings_text
  string_next s h =
      let w = first_of s h in
      ap (λ (ps : List Place). strings_text p u (strs_in f ps)) (place_next Strict high t f e at m low fits enough s w.0 w.1) ∙ rw w.2

  pub string_none : nth_of (places_of Strict high t (part at e f) at) 0 ≡ None → text_from p u f high t e at m ≡ []
  unfolding strings_text places_of nth_of places_from entry_of on_text
  string_none h = ap (λ (ps : List Place). strings_text p u (strs_in f ps))
      (sym (place_stop Strict high t f e at m low fits enough (sized (length (part at e f)) (length_part at e f fits) h)))
    where
      go : (w : Result (Option ℕ) Rule) → (m : ℕ)
          → nth_of (on_text w [] (λ o. place_of t o (part at e f) at ∷ places_from Strict m high t (drop o (part at e f)) (at + o))) 0 ≡ None
          → on_text {A = Option (Place × ℕ)} w None (λ o. Some (place_of t o (part at e f) at, o)) ≡ None
      go (Ok None) m k = refl
      go (Err r) m k = refl
      go (Ok (Some o)) m k = let y : ◌≡◌ {A = ℕ} 0 1 = cc in absurd (omega arith)

      sized : (n : ℕ) → n ≡ e - at → nth_of (places_from Strict n high t (part at e f) at) 0 ≡ None → entry_of Strict high t (part at e f) at ≡ None
      sized zero q k = absurd (omega arith)
      sized (suc n) q k = go (frame_of Strict high t (part at e f)) n k

pub strings_over : (p : Part) (u f : List ℕ) (high : Bool) (t : List ℕ) (e at m : ℕ) → e ≤ at → text_from p u f high t e at m ≡ []
unfolding strings_text
strings_over p u f high t e at m h = ap (λ (ps : List Place). strings_text p u (strs_in f ps))
    (sym (Rattle.strings.proofs.Walks.place_over Strict high t f e at m h))
