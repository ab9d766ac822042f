-- The strings of a sheet as they are stored, one behind the other, before the end mark. A law for each turn of the loop:
-- what is left to store, stored, makes the whole.
-- Assumes nothing.
use Rattle.std.specs.Prelude.{◌≡◌, refl, Bool, true, false, List, [], ◌∷◌, ◌++◌, ℕ, ◌+◌, ◌-◌, ◌≤◌, ◌<◌, length, take, drop}
use Rattle.std.proofs.Common.{sym, ap, ap₂, ◌∙◌, append-nil, arith, length-append, length-drop}
use Rattle.word.specs.Part.{part, length_part}
use Rattle.word.specs.Put.{put, put_none}
use Rattle.word.specs.Round.{round4}
use Rattle.chars.specs.Chars.{key_char, note}
use Rattle.chars.specs.Runs.{run, same, same_eq}
use Rattle.strings.specs.Spelled.{Str, size_of}
use Rattle.sheet_line.specs.SheetLine.{line_len}
use Rattle.sheet.specs.Lines.{Line, lines_verdict, sheet_lines}
use Rattle.sheet.specs.Area.{area_most, str_of, note_of, joined, sheet_strings, text_size, area_size}
use Rattle.sheet.specs.Counting.{past_line}
use Rattle.sheet.specs.Paper.{bytes_of_line, accepted_lines}
use Rattle.sheet_string.specs.StringBytes.{string_bytes, length_string, put_then, Lined, Ahead, lines_over, ahead, line_at}
use Rattle.sheet_string.specs.StringBytes.{line_of, line_size, Headed}
use Rattle.refusal.specs.Verdicts.{accepted}

-- strings one behind the other, before the end mark
unfoldable pub texts_of : Bool → List ℕ → List Str → List ℕ
texts_of high t [] = []
texts_of high t (s ∷ ss) = string_bytes high t s ++ texts_of high t ss

pub texts_size : (high : Bool) (t : List ℕ) (ss : List Str) → length (texts_of high t ss) + 2 ≡ text_size t ss
unfolding texts_of text_size
texts_size high t [] = refl
texts_size high t (s ∷ ss) =
    let i = texts_size high t ss in
    let a = length-append (string_bytes high t s) (texts_of high t ss) in
    let b = length_string high t s in
    omega arith

-- ---- what the writers ask: `measure` let the sheet through, and there is room

pub record Writable (t u s : List ℕ) (room : ℕ) : Type 0 where
  pub lines : lines_verdict s ≡ accepted
  pub limit : area_size t u s ≤ area_most
  pub fits : area_size t u s ≤ room

-- ---- the strings of a sheet

pub record Strung (high : Bool) (t u s buf₀ : List ℕ) (at to : ℕ) (buf : List ℕ) : Type 0 where
  pub prev : List ℕ
  pub lined : Lined prev (drop at s)
  pub place : to + length (texts_of high t (joined u (sheet_lines (drop at s)))) ≡ length (texts_of high t (sheet_strings u s))
  pub makes : put buf to (texts_of high t (joined u (sheet_lines (drop at s)))) ≡ put buf₀ 0 (texts_of high t (sheet_strings u s))

pub strung_start : (high : Bool) (t u s buf₀ : List ℕ) (room : ℕ) → Writable t u s room → Strung high t u s buf₀ 0 0 buf₀
unfolding sheet_strings
strung_start high t u s buf₀ room w =
    let b = accepted_lines s w.lines in
    record { prev = []; lined = record { spelled = b.0; good = b.1 }; place = omega arith; makes = refl }

pub texts_room : (high : Bool) (t u s : List ℕ) (room : ℕ) → Writable t u s room
    → (length (texts_of high t (sheet_strings u s)) + 2 ≤ area_most) × (round4 (length (texts_of high t (sheet_strings u s)) + 2) ≤ room)
unfolding area_size
texts_room high t u s room w =
    let a = texts_size high t (sheet_strings u s) in
    let b : round4 (text_size t (sheet_strings u s)) ≤ area_most = w.limit in
    let c : round4 (text_size t (sheet_strings u s)) ≤ room = w.fits in
    (omega arith, omega arith)

joined_note : (u : List ℕ) (ls : List Line) (l : Line) (rest : List Line) → ls ≡ l ∷ rest → same l.key note ≡ true → joined u ls ≡ note_of u ls ∷ []
unfolding joined
joined_note u ls l rest e n = rw (e, n)

joined_line : (u : List ℕ) (ls : List Line) (l : Line) (rest : List Line) → ls ≡ l ∷ rest → same l.key note ≡ false → joined u ls ≡ str_of l ∷ joined u rest
unfolding joined
joined_line u ls l rest e n = rw (e, n)

texts_cons : (high : Bool) (t : List ℕ) (s : Str) (ss : List Str) → texts_of high t (s ∷ ss) ≡ string_bytes high t s ++ texts_of high t ss
unfolding texts_of
texts_cons high t s ss = refl

texts_one : (high : Bool) (t : List ℕ) (s : Str) → texts_of high t (s ∷ []) ≡ string_bytes high t s
unfolding texts_of
texts_one high t s = append-nil (string_bytes high t s)

pub line_fits : (high : Bool) (t u s buf₀ : List ℕ) (at to : ℕ) (buf : List ℕ) → Strung high t u s buf₀ at to buf → at < length s → (n : ℕ)
    → n ≡ line_len (drop at s) → at + n < length s
line_fits high t u s buf₀ at to buf c low n e =
    let d = length-drop at s in
    omega (arith, (ahead c.prev (drop at s) n c.lined (omega arith) e).fits)

module _ (high : Bool) (t u s buf₀ : List ℕ) (at to : ℕ) (buf : List ℕ) (c : Strung high t u s buf₀ at to buf) (low : at < length s) (n : ℕ)
    (e : n ≡ line_len (drop at s)) (w : ℕ) (f : w ≡ run key_char (part at (at + n) s)) where
  str_ahead : Ahead c.prev (drop at s) n
  str_ahead = ahead c.prev (drop at s) n c.lined (simp length-drop (omega arith)) e

  as_line_lem : part at (at + n) s ≡ bytes_of_line str_ahead.line
  as_line_lem = let q : at + n - at ≡ n = omega arith in ap (λ (j : ℕ). take j (drop at s)) q ∙ str_ahead.bytes

  w_is : w ≡ length str_ahead.line.key
  w_is = let q : at + n - at ≡ n = omega arith in f ∙ ap (λ (j : ℕ). run key_char (take j (drop at s))) q ∙ str_ahead.keys

  key_is : part at (at + w) s ≡ str_ahead.line.key
  key_is = let q : at + w - at ≡ w = omega arith in ap (λ (j : ℕ). take j (drop at s)) (q ∙ w_is) ∙ str_ahead.key

  as_string_lem : line_at w (part at (at + n) s) ≡ str_ahead.line
  as_string_lem = line_of str_ahead.line (part at (at + n) s) w as_line_lem w_is

  pub strung_fits : (w < n) × (at + n < length s) × (w < length (part at (at + n) s)) × (length (part at (at + n) s) ≡ n)
  strung_fits =
      let a = str_ahead in
      let d = length-drop at s in
      let k = w_is in
      let p : length (part at (at + n) s) ≡ at + n - at = length_part at (at + n) s (omega (arith, a.fits)) in
      (omega (arith, a.long), omega (arith, a.fits), omega (arith, a.long), omega arith)

  -- a line that is no NOTE
  module _ (o : same (part at (at + w) s) note ≡ false) where
    str_texts : texts_of high t (joined u (sheet_lines (drop at s)))
        ≡ string_bytes high t (str_of (line_at w (part at (at + n) s))) ++ texts_of high t (joined u (sheet_lines (drop (at + n + 1) s)))
    str_texts =
        let a = str_ahead in
        let d : drop (n + 1) (drop at s) ≡ drop (at + n + 1) s = past_line s at n in
        let r : sheet_lines (drop (at + n + 1) s) ≡ a.rest = ap sheet_lines (sym d) ∙ a.after in
        let m : same a.line.key note ≡ false = rw key_is at o in
        ap (texts_of high t) (joined_line u (sheet_lines (drop at s)) a.line a.rest a.read m) ∙ texts_cons high t (str_of a.line) (joined u a.rest)
        ∙ ap₂ (λ (l : Line) (x : List Line). string_bytes high t (str_of l) ++ texts_of high t (joined u x)) (sym as_string_lem) (sym r)

    pub strung_room : to + (2 + length (part at (at + n) s) + length t) ≤ length (texts_of high t (sheet_strings u s))
    strung_room =
        let m = ap length str_texts in
        let x = length-append (string_bytes high t (str_of (line_at w (part at (at + n) s)))) (texts_of high t (joined u (sheet_lines (drop (at + n + 1) s)))) in
        let y = length_string high t (str_of (line_at w (part at (at + n) s))) in
        let z = line_size t w (part at (at + n) s) strung_fits.2 in
        let p = c.place in
        omega arith

    pub strung_turn : (x : ℕ) (bs : List ℕ) → x ≡ to + (2 + length (part at (at + n) s) + length t)
        → bs ≡ put buf to (string_bytes high t (str_of (line_at w (part at (at + n) s)))) → Strung high t u s buf₀ (at + n + 1) x bs
    strung_turn x bs ex eb =
        let a = str_ahead in
        let d : drop (n + 1) (drop at s) ≡ drop (at + n + 1) s = past_line s at n in
        let sb : List ℕ = string_bytes high t (str_of (line_at w (part at (at + n) s))) in
        let r : List ℕ = texts_of high t (joined u (sheet_lines (drop (at + n + 1) s))) in
        let m = ap length str_texts in
        let k = length-append sb r in
        let y = length_string high t (str_of (line_at w (part at (at + n) s))) in
        let z = line_size t w (part at (at + n) s) strung_fits.2 in
        let p = c.place in
        record {
          prev = a.line.key;
          lined = rw d at a.next;
          place = omega arith;
          makes = rw eb (put_then buf sb r to x (omega arith)) ∙ ap (λ (l : List ℕ). put buf to l) (sym str_texts) ∙ c.makes;
        }

  -- a NOTE line: it and all behind it are one string, the last
  module _ (o : same (part at (at + w) s) note ≡ true) where
    pub strung_headed : Headed (drop at s)
    strung_headed =
        let a = str_ahead in
        let m : same a.line.key note ≡ true = rw key_is at o in
        record {
          prev = c.prev;
          lined = c.lined;
          some = simp length-drop (omega arith);
          line = a.line;
          rest = a.rest;
          read = a.read;
          noted = same_eq a.line.key note m;
        }

    note_texts : texts_of high t (joined u (sheet_lines (drop at s))) ≡ string_bytes high t (note_of u (sheet_lines (drop at s)))
    note_texts =
        let a = str_ahead in
        let m : same a.line.key note ≡ true = rw key_is at o in
        ap (texts_of high t) (joined_note u (sheet_lines (drop at s)) a.line a.rest a.read m) ∙ texts_one high t (note_of u (sheet_lines (drop at s)))

    pub strung_note_room : to + size_of t (note_of u (sheet_lines (drop at s))) ≡ length (texts_of high t (sheet_strings u s))
    strung_note_room =
        let m = ap length note_texts in
        let y = length_string high t (note_of u (sheet_lines (drop at s))) in
        let p = c.place in
        omega arith

    pub strung_note : (x : ℕ) (bs : List ℕ) → x ≡ to + size_of t (note_of u (sheet_lines (drop at s)))
        → bs ≡ put buf to (string_bytes high t (note_of u (sheet_lines (drop at s))))
        → (x ≡ length (texts_of high t (sheet_strings u s))) × (bs ≡ put buf₀ 0 (texts_of high t (sheet_strings u s)))
    strung_note x bs ex eb = (ex ∙ strung_note_room, eb ∙ ap (λ (l : List ℕ). put buf to l) (sym note_texts) ∙ c.makes)

pub strung_over : (high : Bool) (t u s buf₀ : List ℕ) (at to : ℕ) (buf : List ℕ) → Strung high t u s buf₀ at to buf → length s ≤ at
    → (to ≡ length (texts_of high t (sheet_strings u s))) × (buf ≡ put buf₀ 0 (texts_of high t (sheet_strings u s)))
unfolding texts_of joined
strung_over high t u s buf₀ at to buf c h =
    let e = lines_over s at h in
    let p = rw e at c.place in
    let m = rw e at c.makes in
    (omega arith, sym (put_none buf to) ∙ m)
