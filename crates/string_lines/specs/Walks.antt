-- What a walk has written, and what is left: of a NOTE's lines and of an area's strings.
-- Assumes nothing.
use Rattle.std.specs.Prelude.{◌≡◌, Bool, List, ◌++◌, ℕ, ◌+◌, ◌-◌, ◌≤◌, ◌<◌, length, drop, Some, None}
use Rattle.std.proofs.Math.Path.{refl}
use Rattle.std.proofs.Common.{sym, ap, ◌∙◌, le_refl, arith, length-drop}
use Rattle.std.proofs.Math.Nat.{le_of_eq}
use Rattle.text.specs.declared.Manner.TheVariants.{Strict}
use Rattle.word.specs.Part.{part, length_part, part_rest}
use Rattle.refusal.specs.declared.Part.{Part}
use Rattle.strings.specs.declared.Place.{Place}
use Rattle.note_line.specs.NoteLine.{line_len, line_len_le}
use Rattle.note.specs.Note.{lines_of}
use Rattle.strings.specs.Strings.{PlaceIn, places_of, nth_of}
use Rattle.strings.specs.Spelled.{strs_in}
use Rattle.lines.specs.Lines.{label, string_line}
use Rattle.lines.specs.Sizes.{length_line}
use Rattle.lines.specs.Spaced.{length_spaced}
use Rattle.string_lines.specs.StringLines.{lines_text, strings_text}
use Rattle.word.specs.Wrote.{Room, Wrote, Left, left_start, left_room, left_turn, left_over, left_last_room, left_last}
use Rattle.string_lines.specs.Turns.{line_on, line_last, lines_more, lines_one, text_from, line_text, string_in}
use Rattle.string_lines.specs.Turns.{string_next, string_none, strings_over}

-- ---- a NOTE: the line from `from` on ends at e
module _ (out₀ : List ℕ) (at : ℕ) (p : Part) (key u v : List ℕ) where
  abbrev pub Lining : ℕ → ℕ → ℕ → List ℕ → Type 0
  Lining from to e out =
      (e ≡ from + line_len u (drop from v)) × ((from ≤ e) × (e ≤ length v)) × (length out ≡ length out₀)
      × ((m : ℕ) × (length (drop from v) ≤ m) × Left out₀ at (lines_text p key (lines_of (length v) u v)) to (lines_text p key (lines_of m u (drop from v))) out)

  pub lining_start : (e : ℕ) → e ≡ 0 + line_len u (drop 0 v) → Lining 0 at e out₀
  lining_start e q =
      let k = line_len_le u v in
      (q, (omega arith, omega arith), refl, (length v, le_refl (length v), left_start out₀ at _))

  module _ (from to e : ℕ) (out : List ℕ) (l : Lining from to e out) where
    pub lining_fits : 0 < length u → e < length v → (from ≤ e) × (e + length u ≤ length v)
    lining_fits s h = (l.1.0, (line_on u v from e l.3.0 l.0 l.3.1 s h).0)

    rest : 0 < length u → e < length v
        → lines_text p key (lines_of l.3.0 u (drop from v))
        ≡ string_line p key (part from e v) ++ lines_text p key (lines_of (l.3.0 - 1) u (drop (e + length u) v))
    rest s h =
        ap (lines_text p key) (line_on u v from e l.3.0 l.0 l.3.1 s h).2
        ∙ lines_more p key (part from e v) (lines_of (l.3.0 - 1) u (drop (e + length u) v))

    pub lining_room : 0 < length u → e < length v → Room out₀ at (lines_text p key (lines_of (length v) u v)) → Room out to (string_line p key (part from e v))
    lining_room s h r = left_room out₀ at _ to _ out l.3.2 (string_line p key (part from e v)) _ (rest s h) r

    pub lining_turn : 0 < length u → e < length v → (r : ℕ) (new : List ℕ) → Wrote out to (string_line p key (part from e v)) r new
        → (d : ℕ) → d ≡ e + length u + line_len u (drop (e + length u) v) → Lining (e + length u) r d new
    lining_turn s h r new w d q =
        let o = line_on u v from e l.3.0 l.0 l.3.1 s h in
        let t = left_turn out₀ at _ to _ out l.3.2 (string_line p key (part from e v)) _ (rest s h) r new w in
        let k = line_len_le u (drop (e + length u) v) in
        let n = length-drop (e + length u) v in
        (q, (omega arith, omega (arith, o.0)), t.2, (l.3.0 - 1, o.1, t))

    last : length v ≤ e → lines_text p key (lines_of l.3.0 u (drop from v)) ≡ string_line p key (part from (length v) v)
    last h =
        ap (lines_text p key) (line_last u v from e l.3.0 l.0 l.3.1 h) ∙ lines_one p key (drop from v)
        ∙ ap (string_line p key) (sym (part_rest from v))

    -- there is room for the last line, and for every end of it
    pub lining_last_room : length v ≤ e → Room out₀ at (lines_text p key (lines_of (length v) u v)) → (k : ℕ) → from ≤ k
        → Room out to (string_line p key (part k (length v) v))
    lining_last_room h r k low =
        let whole = left_last_room out₀ at _ to _ out l.3.2 (string_line p key (part from (length v) v)) (last h) r in
        let long : (j : ℕ) → length (string_line p key (part j (length v) v)) ≡ length (label p key) + (length v - j + 1) =
        λ j. length_line p key (part j (length v) v) ∙ rw (length_spaced (part j (length v) v), length_part j (length v) v (le_refl (length v))) in
        omega (arith, long from, long k)

    pub lining_last : length v ≤ e → (r : ℕ) (new : List ℕ) → Wrote out to (string_line p key (part from (length v) v)) r new
        → Wrote out₀ at (lines_text p key (lines_of (length v) u v)) r new
    lining_last h r new w = left_last out₀ at _ to _ out l.3.2 (string_line p key (part from (length v) v)) (last h) r new w

-- ---- an area, from a to e of f: the next string begins at s
module _ (out₀ : List ℕ) (at : ℕ) (p : Part) (f : List ℕ) (a e : ℕ) (high : Bool) (t u : List ℕ) where
  abbrev pub Stringing : ℕ → ℕ → List ℕ → Type 0
  Stringing s to out =
      (s ≤ e) × (length out ≡ length out₀)
      × ((m : ℕ) × (e - s ≤ m) × Left out₀ at (strings_text p u (strs_in f (places_of Strict high t (part a e f) a))) to (text_from p u f high t e s m) out)

  pub stringing_start : a ≤ e → e ≤ length f → Stringing a at out₀
  unfolding places_of
  stringing_start low fits = (low, refl, (length (part a e f), le_of_eq (sym (length_part a e f fits)), left_start out₀ at _))

  module _ (s to : ℕ) (out : List ℕ) (l : Stringing s to out) where
    pub stringing_over : e ≤ s → Wrote out₀ at (strings_text p u (strs_in f (places_of Strict high t (part a e f) a))) to out
    stringing_over h = left_over out₀ at _ to _ out l.2.2 (strings_over p u f high t e s l.2.0 h)

    module _ (low : s < e) (fits : e ≤ length f) where
      pub stringing_none : nth_of (places_of Strict high t (part s e f) s) 0 ≡ None
          → Wrote out₀ at (strings_text p u (strs_in f (places_of Strict high t (part a e f) a))) to out
      stringing_none h = left_over out₀ at _ to _ out l.2.2 (string_none p u f high t e s l.2.0 low fits l.2.1 h)

      module _ (q : Place) (h : nth_of (places_of Strict high t (part s e f) s) 0 ≡ Some q) where
        pub stringing_in : PlaceIn e q × (s < q.end + length t) × (q.end + length t ≤ e)
        stringing_in = string_in p u f high t e s l.2.0 low fits l.2.1 q h

        pub stringing_room : Room out₀ at (strings_text p u (strs_in f (places_of Strict high t (part a e f) a))) → Room out to (line_text p u f q)
        stringing_room r = left_room out₀ at _ to _ out l.2.2 (line_text p u f q) _ (string_next p u f high t e s l.2.0 low fits l.2.1 q h) r

        pub stringing_turn : (r : ℕ) (new : List ℕ) → Wrote out to (line_text p u f q) r new → Stringing (q.end + length t) r new
        stringing_turn r new w =
            let i = stringing_in in
            let k = left_turn out₀ at _ to _ out l.2.2 (line_text p u f q) _ (string_next p u f high t e s l.2.0 low fits l.2.1 q h) r new w in
            (i.2, k.2, (l.2.0 - 1, omega (arith, l.2.1, i.1), k))
