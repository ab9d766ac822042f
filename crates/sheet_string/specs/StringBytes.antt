-- One string of a sheet as it is stored: a line as a string of its own, and a NOTE line by line. A law for each function
-- that stores, and for each turn of its loop: what is left to store, stored, makes the whole.
-- Assumes nothing.
use Rattle.std.specs.Prelude.{◌≡◌, refl, Bool, true, false, set}
use Rattle.std.proofs.Math.Path.{sym, ap}
use Rattle.std.proofs.Common.{ap₂, ◌∙◌, arith, length-append, drop_of_length-le, drop-drop}
use mathlib.Core.List.{List, [], ◌∷◌, ◌++◌, append_assoc, append-nil}
use Prim.Native.Nat.{ℕ, suc, ◌+◌, ◌-◌, ◌≤◌, ◌<◌}
use Rattle.std.proofs.Math.ListN.{length, take, drop, length-drop}
use Rattle.std.proofs.Math.Seq.{length-take-le, take-append_seam, drop-append-add}
use Rattle.std.proofs.lemmas.List.{set_comm}
use Rattle.word.specs.Part.{part, drop_take, length_part}
use Rattle.word.specs.Put.{put, put_none, put_append}
use Rattle.word.specs.Word.{bytes_of}
use Rattle.word.specs.WordLaws.{length_bytes_of}
use Rattle.chars.specs.Chars.{key_char, note}
use Rattle.chars.specs.Runs.{run, same, same_eq, same_refl}
use Rattle.note.specs.Note.{with_ends}
use Rattle.strings.specs.Spelled.{Str, text_of, size_of}
use Rattle.sheet.specs.Lines.{Line, sheet_lines}
use Rattle.sheet.specs.Area.{str_of, values, note_of}
use Rattle.sheet.specs.Counting.{past_line, lines_none}
use Rattle.sheet.specs.Paper.{bytes_of_line, sheet_of, GoodLine, GoodLines, long_line, good_line, good_key, after_line_lem}
use Rattle.sheet.specs.Paper.{line_key_lem, lines_read}
use Rattle.key_order.specs.Order.{rises, rises_note}
use Rattle.sheet_line.specs.SheetLine.{line_len, continues}

-- ---- the bytes

-- one string: its size, its text and the terminator
unfoldable pub string_bytes : Bool → List ℕ → Str → List ℕ
string_bytes high t s = bytes_of 2 high (size_of t s) ++ (text_of s ++ t)

-- the further lines of a NOTE: before each the line terminator
unfoldable pub more_of : List ℕ → List Line → List ℕ
more_of u [] = []
more_of u (l ∷ ls) = u ++ (l.value ++ more_of u ls)

pub length_string : (high : Bool) (t : List ℕ) (s : Str) → length (string_bytes high t s) ≡ size_of t s
unfolding string_bytes
length_string high t s =
    let a = length-append (bytes_of 2 high (size_of t s)) (text_of s ++ t) in
    let b = length-append (text_of s) t in
    let c = length_bytes_of 2 high (size_of t s) in
    omega arith

ends_more : (u v : List ℕ) (ls : List Line) → with_ends u (v ∷ values ls) ≡ v ++ more_of u ls
unfolding with_ends more_of
ends_more u v [] = sym (append-nil v)
ends_more u v (l ∷ ls) = ap (λ (r : List ℕ). v ++ (u ++ r)) (ends_more u l.value ls)

-- ---- one store behind another, and one before it

pub put_then : (xs bs cs : List ℕ) (a c : ℕ) → c ≡ a + length bs → put (put xs a bs) c cs ≡ put xs a (bs ++ cs)
put_then xs bs cs a c e = sym (put_append bs cs xs a ∙ ap (λ (k : ℕ). put (put xs a bs) k cs) (sym e))

put_set : (cs xs : List ℕ) (at j b : ℕ) → at + length cs ≤ j → put (set xs j b) at cs ≡ set (put xs at cs) j b
unfolding put
put_set [] xs at j b h = refl
put_set (c ∷ cs) xs at j b h =
    let ne : j ≡ at → ⊥ = λ (q : j ≡ at). omega arith in
    ap (λ (r : List ℕ). put r (at + 1) cs) (set_comm xs j at b c ne) ∙ put_set cs (set xs at c) (at + 1) j b (omega arith)

-- what stands before may be stored last
pub put_before : (bs cs xs : List ℕ) (at j : ℕ) → at + length cs ≤ j → put (put xs j bs) at cs ≡ put (put xs at cs) j bs
unfolding put
put_before [] cs xs at j h = refl
put_before (b ∷ bs) cs xs at j h =
    put_before bs cs (set xs j b) at (j + 1) (omega arith) ∙ ap (λ (r : List ℕ). put r (j + 1) bs) (put_set cs xs at j b h)

-- ---- what is left of a sheet is lines

pub record Lined (prev s : List ℕ) : Type 0 where
  pub spelled : s ≡ sheet_of (sheet_lines s)
  pub good : GoodLines prev (sheet_lines s)

-- the first line of what is left: n is its length
pub record Ahead (prev s : List ℕ) (n : ℕ) : Type 0 where
  pub line : Line
  pub rest : List Line
  pub read : sheet_lines s ≡ line ∷ rest
  pub good : GoodLine prev line
  pub long : n ≡ length line.key + 1 + length line.value
  pub bytes : take n s ≡ bytes_of_line line
  pub keys : run key_char (take n s) ≡ length line.key
  pub key : take (length line.key) s ≡ line.key
  pub fits : n < length s
  pub after : sheet_lines (drop (n + 1) s) ≡ rest
  pub next : Lined line.key (drop (n + 1) s)

no_lines : sheet_lines [] ≡ []
unfolding sheet_lines
no_lines = lines_none 0 [] refl

pub lines_over : (s : List ℕ) (at : ℕ) → length s ≤ at → sheet_lines (drop at s) ≡ []
lines_over s at h = ap sheet_lines (drop_of_length-le s h) ∙ no_lines

no_sheet : sheet_of [] ≡ []
unfolding sheet_of
no_sheet = refl

a_sheet : (l : Line) (ls : List Line) → sheet_of (l ∷ ls) ≡ bytes_of_line l ++ (10 ∷ sheet_of ls)
unfolding sheet_of
a_sheet l ls = refl

pub ahead : (prev s : List ℕ) (n : ℕ) → Lined prev s → 0 < length s → n ≡ line_len s → Ahead prev s n
ahead prev s n d some e = go (sheet_lines s) refl d.spelled d.good
  where
    go : (ls : List Line) → sheet_lines s ≡ ls → s ≡ sheet_of ls → GoodLines prev ls → Ahead prev s n
    go [] q w g = absurd (let z = ap length (w ∙ no_sheet) in omega arith)
    go (l ∷ ls) q w g =
        let b : List ℕ = bytes_of_line l in
        let all_of : s ≡ b ++ (10 ∷ sheet_of ls) = w ∙ a_sheet l ls in
        let n_is : n ≡ length b = e ∙ ap line_len all_of ∙ good_line g.0 (sheet_of ls) in
        let a : length s ≡ length b + suc (length (sheet_of ls)) = ap length all_of ∙ length-append b (10 ∷ sheet_of ls) in
        let r : drop (n + 1) s ≡ sheet_of ls = ap₂ (λ (j : ℕ) (x : List ℕ). drop (j + 1) x) n_is all_of ∙ after_line_lem b (sheet_of ls) in
        let y : sheet_lines (drop (n + 1) s) ≡ ls = ap sheet_lines r ∙ lines_read l.key ls g.1 in
        let t : take n s ≡ b = ap₂ (λ (j : ℕ) (x : List ℕ). take j x) n_is all_of ∙ take-append_seam b (10 ∷ sheet_of ls) in
        record {
          line = l;
          rest = ls;
          read = q;
          good = g.0;
          long = n_is ∙ long_line g.0;
          bytes = t;
          keys = ap (run key_char) t ∙ good_key g.0;
          key = ap (λ (x : List ℕ). take (length l.key) x) all_of ∙ line_key_lem l (sheet_of ls);
          fits = omega arith;
          after = y;
          next = record { spelled = r ∙ ap sheet_of (sym y); good = rw y g.1 };
        }

-- ---- a line as a string of its own

-- keyword and value of a line whose keyword has w bytes
abbrev pub line_at : ℕ → List ℕ → Line
line_at w l = record { key = take w l; value = drop (w + 1) l }

-- a line's bytes, taken apart at its tab, are the line
pub line_of : (l : Line) (b : List ℕ) (w : ℕ) → b ≡ bytes_of_line l → w ≡ length l.key → line_at w b ≡ l
line_of l b w eb ew =
    let k : take w b ≡ l.key = ap₂ (λ (j : ℕ) (x : List ℕ). take j x) ew eb ∙ take-append_seam l.key (9 ∷ l.value) in
    let v : drop (w + 1) b ≡ l.value = ap₂ (λ (j : ℕ) (x : List ℕ). drop (j + 1) x) ew eb ∙ drop-append-add l.key (9 ∷ l.value) 1 in
    ap₂ as_one k v
  where
    as_one : List ℕ → List ℕ → Line
    as_one x y = record { key = x; value = y }

pub line_size : (t : List ℕ) (w : ℕ) (l : List ℕ) → w < length l → size_of t (str_of (line_at w l)) ≡ 2 + length l + length t
line_size t w l h =
    let a = length-append (take w l) (32 ∷ drop (w + 1) l) in
    let b : length (take w l) ≡ w = length-take-le w l (omega arith) in
    let c = length-drop (w + 1) l in
    omega arith

module _ (buf b1 b2 b3 b4 b5 : List ℕ) (high : Bool) (t l : List ℕ) (w to : ℕ) (h : w < length l) where
  pub string_written : (n a b c d : ℕ) → n ≡ 2 + length l + length t → a ≡ to + 2 → b ≡ a + w → c ≡ b + 1 → d ≡ a + length l
      → b1 ≡ put buf to (bytes_of 2 high n) → b2 ≡ put b1 a (take w l) → b3 ≡ put b2 b (32 ∷ []) → b4 ≡ put b3 c (drop (w + 1) l) → b5 ≡ put b4 d t
      → b5 ≡ put buf to (string_bytes high t (str_of (line_at w l)))
  unfolding string_bytes
  string_written n a b c d en ea eb ec ed e1 e2 e3 e4 e5 =
      let k : List ℕ = take w l in
      let v : List ℕ = drop (w + 1) l in
      let lk : length k ≡ w = length-take-le w l (omega arith) in
      let lv : length v ≡ length l - (w + 1) = length-drop (w + 1) l in
      let l2 : length (bytes_of 2 high n) ≡ 2 = length_bytes_of 2 high n in
      let size : size_of t (str_of (line_at w l)) ≡ n = line_size t w l h ∙ sym en in
      let p4 : put b4 d t ≡ put b3 c (v ++ t) = rw e4 (put_then b3 v t c d (omega arith)) in
      let p3 : put b3 c (v ++ t) ≡ put b2 b ((32 ∷ []) ++ (v ++ t)) = rw e3 (put_then b2 (32 ∷ []) (v ++ t) b c (omega arith)) in
      let p2 : put b2 b ((32 ∷ []) ++ (v ++ t)) ≡ put b1 a (k ++ (32 ∷ (v ++ t))) = rw e2 (put_then b1 k (32 ∷ (v ++ t)) a b (omega arith)) in
      let p1 : put b1 a (k ++ (32 ∷ (v ++ t))) ≡ put buf to (bytes_of 2 high n ++ (k ++ (32 ∷ (v ++ t)))) =
      rw e1 (put_then buf (bytes_of 2 high n) (k ++ (32 ∷ (v ++ t))) to a (omega arith)) in
      e5 ∙ p4 ∙ p3 ∙ p2 ∙ p1 ∙ rw (size, append_assoc k (32 ∷ v) t)

-- ---- the further lines of a NOTE

-- behind a NOTE line there are only NOTE lines
pub note_next : {prev : List ℕ} {l : Line} → same prev note ≡ true → GoodLine prev l → l.key ≡ note
unfolding continues
note_next {prev} {l} n g = same_eq l.key note (go (same l.key note) refl)
  where
    go : (w : Bool) → same l.key note ≡ w → w ≡ true
    go true e = refl
    go false e =
        let c : continues prev l.key ≡ false = rw (n, e) in
        let f : rises prev l.key ≡ true = g.follows c in
        let r : false ≡ true = sym (rises_note prev l.key n) ∙ f in
        let z : ◌≡◌ {A = ℕ} 0 1 = cc in
        absurd (omega arith)

pub record Noted (s : List ℕ) : Type 0 where
  pub prev : List ℕ
  pub noted : same prev note ≡ true
  pub lined : Lined prev s

-- where a line starts: what is left to store, stored, makes the whole
pub record Noting (u s buf₀ : List ℕ) (to₀ at to : ℕ) (buf : List ℕ) : Type 0 where
  pub left : Noted (drop at s)
  pub place : to + length (more_of u (sheet_lines (drop at s))) ≡ to₀ + length (more_of u (sheet_lines s))
  pub makes : put buf to (more_of u (sheet_lines (drop at s))) ≡ put buf₀ to₀ (more_of u (sheet_lines s))

pub noting_start : (u s buf₀ : List ℕ) (to₀ : ℕ) → Noted s → Noting u s buf₀ to₀ 0 to₀ buf₀
noting_start u s buf₀ to₀ n = record { left = n; place = refl; makes = refl }

-- the value of a NOTE line is what stands behind its first five bytes
value_part : (s : List ℕ) (at n : ℕ) (l : Line) → l.key ≡ note → take n (drop at s) ≡ bytes_of_line l → part (at + 5) (at + n) s ≡ l.value
value_part s at n l k e =
    let q : at + n - (at + 5) ≡ n - 5 = omega arith in
    ap (λ (j : ℕ). take j (drop (at + 5) s)) q ∙ ap (λ (r : List ℕ). take (n - 5) r) (sym (drop-drop 5 at s)) ∙ sym (drop_take 5 n (drop at s))
    ∙ ap (λ (r : List ℕ). drop 5 r) (e ∙ ap (λ (j : List ℕ). j ++ (9 ∷ l.value)) k)

more_cons : (u : List ℕ) (l : Line) (ls : List Line) → more_of u (l ∷ ls) ≡ u ++ (l.value ++ more_of u ls)
unfolding more_of
more_cons u l ls = refl

module _ (u s buf₀ : List ℕ) (to₀ at to : ℕ) (buf : List ℕ) (c : Noting u s buf₀ to₀ at to buf) (low : at < length s) (n : ℕ)
    (e : n ≡ line_len (drop at s)) where
  line_ahead : Ahead c.left.prev (drop at s) n
  line_ahead = ahead c.left.prev (drop at s) n c.left.lined (simp length-drop (omega arith)) e

  line_noted : line_ahead.line.key ≡ note
  line_noted = note_next c.left.noted line_ahead.good

  line_more : more_of u (sheet_lines (drop at s)) ≡ (u ++ part (at + 5) (at + n) s) ++ more_of u (sheet_lines (drop (at + n + 1) s))
  line_more =
      let a = line_ahead in
      let d : drop (n + 1) (drop at s) ≡ drop (at + n + 1) s = past_line s at n in
      let r : sheet_lines (drop (at + n + 1) s) ≡ a.rest = ap sheet_lines (sym d) ∙ a.after in
      let v : part (at + 5) (at + n) s ≡ a.line.value = value_part s at n a.line line_noted a.bytes in
      ap (more_of u) a.read ∙ more_cons u a.line a.rest ∙ rw (r, v) (sym (append_assoc u a.line.value (more_of u a.rest)))

  pub noting_fits : (5 ≤ n) × (at + n < length s) × (to + (length u + length (part (at + 5) (at + n) s)) ≤ to₀ + length (more_of u (sheet_lines s)))
  noting_fits =
      let a = line_ahead in
      let d = length-drop at s in
      let k : length a.line.key ≡ 4 = ap length line_noted in
      let m = ap length line_more in
      let x = length-append (u ++ part (at + 5) (at + n) s) (more_of u (sheet_lines (drop (at + n + 1) s))) in
      let y = length-append u (part (at + 5) (at + n) s) in
      let p = c.place in
      (omega (arith, a.long), omega (arith, a.fits), omega arith)

  pub noting_turn : (z : ℕ) (bs : List ℕ) → z ≡ to + (length u + length (part (at + 5) (at + n) s)) → bs ≡ put buf to (u ++ part (at + 5) (at + n) s)
      → Noting u s buf₀ to₀ (at + n + 1) z bs
  noting_turn z bs ez eb =
      let a = line_ahead in
      let d : drop (n + 1) (drop at s) ≡ drop (at + n + 1) s = past_line s at n in
      let m = ap length line_more in
      let x = length-append (u ++ part (at + 5) (at + n) s) (more_of u (sheet_lines (drop (at + n + 1) s))) in
      let y = length-append u (part (at + 5) (at + n) s) in
      let p = c.place in
      record {
        left = record { prev = a.line.key; noted = rw line_noted (same_refl note); lined = rw d at a.next };
        place = omega arith;
        makes = rw eb (put_then buf (u ++ part (at + 5) (at + n) s) (more_of u (sheet_lines (drop (at + n + 1) s))) to z (omega arith))
            ∙ ap (λ (r : List ℕ). put buf to r) (sym line_more) ∙ c.makes;
      }

pub noting_over : (u s buf₀ : List ℕ) (to₀ at to : ℕ) (buf : List ℕ) → Noting u s buf₀ to₀ at to buf → length s ≤ at
    → (to ≡ to₀ + length (more_of u (sheet_lines s))) × (buf ≡ put buf₀ to₀ (more_of u (sheet_lines s)))
unfolding more_of
noting_over u s buf₀ to₀ at to buf c h =
    let e = lines_over s at h in
    let p = rw e at c.place in
    let m = rw e at c.makes in
    (omega arith, sym (put_none buf to) ∙ m)

-- ---- a NOTE

-- what is left starts with a NOTE line
pub record Headed (s : List ℕ) : Type 0 where
  pub prev : List ℕ
  pub lined : Lined prev s
  pub some : 0 < length s
  pub line : Line
  pub rest : List Line
  pub read : sheet_lines s ≡ line ∷ rest
  pub noted : line.key ≡ note

-- NOTE and a space
abbrev pub note_head : List ℕ
note_head = 78 ∷ 79 ∷ 84 ∷ 69 ∷ 32 ∷ []

pub record NoteAt (u s : List ℕ) (n : ℕ) : Type 0 where
  pub low : 5 ≤ n
  pub fits : n < length s
  pub noted : Noted (drop (n + 1) s)
  pub bytes : text_of (note_of u (sheet_lines s)) ≡ note_head ++ (part 5 n s ++ more_of u (sheet_lines (drop (n + 1) s)))
  pub long : length (part 5 n s) ≡ n - 5
  pub size : length (text_of (note_of u (sheet_lines s))) ≡ n + length (more_of u (sheet_lines (drop (n + 1) s)))

pub note_at : (u s : List ℕ) (n : ℕ) → Headed s → n ≡ line_len s → NoteAt u s n
note_at u s n h e =
    let a = ahead h.prev s n h.lined h.some e in
    let r : a.line ∷ a.rest ≡ h.line ∷ h.rest = sym a.read ∙ h.read in
    let l : a.line ≡ h.line = cc in
    let k : a.line.key ≡ note = ap (λ (x : Line). x.key) l ∙ h.noted in
    let lk : length a.line.key ≡ 4 = ap length k in
    let v : part 5 n s ≡ a.line.value = sym (drop_take 5 n s) ∙ ap (λ (x : List ℕ). drop 5 x) (a.bytes ∙ ap (λ (j : List ℕ). j ++ (9 ∷ a.line.value)) k) in
    let b : with_ends u (values (sheet_lines s)) ≡ part 5 n s ++ more_of u (sheet_lines (drop (n + 1) s)) =
    ap (λ (x : List Line). with_ends u (values x)) a.read ∙ ends_more u a.line.value a.rest ∙ rw (v, a.after) in
    let x = length-append (part 5 n s) (more_of u (sheet_lines (drop (n + 1) s))) in
    let y : length (part 5 n s) ≡ n - 5 = length_part 5 n s (omega (arith, a.fits)) in
    let z = ap length b in
    record {
      low = omega (arith, a.long);
      fits = a.fits;
      noted = record { prev = a.line.key; noted = rw k (same_refl note); lined = a.next };
      bytes = ap (λ (x : List ℕ). note_head ++ x) b;
      long = y;
      size = omega (arith, a.long);
    }

-- the offset is stored last, when the lines have shown how long the NOTE is
module _ (buf b1 b2 b3 b4 b5 : List ℕ) (high : Bool) (t u s : List ℕ) (n to : ℕ) (h : NoteAt u s n) where
  pub note_written : (a b c e z : ℕ) → a ≡ to + 2 → b ≡ a + 5 → c ≡ a + n → e ≡ c + length (more_of u (sheet_lines (drop (n + 1) s)))
      → z ≡ size_of t (note_of u (sheet_lines s))
      → b1 ≡ put buf a note_head → b2 ≡ put b1 b (part 5 n s) → b3 ≡ put b2 c (more_of u (sheet_lines (drop (n + 1) s))) → b4 ≡ put b3 e t
      → b5 ≡ put b4 to (bytes_of 2 high z)
      → b5 ≡ put buf to (string_bytes high t (note_of u (sheet_lines s)))
  unfolding string_bytes
  note_written a b c e z ea eb ec ee ez e1 e2 e3 e4 e5 =
      let v : List ℕ = part 5 n s in
      let m : List ℕ = more_of u (sheet_lines (drop (n + 1) s)) in
      let lv : length v ≡ n - 5 = h.long in
      let low : 5 ≤ n = h.low in
      let l2 : length (bytes_of 2 high z) ≡ 2 = length_bytes_of 2 high z in
      let p4 : b4 ≡ put b2 c (m ++ t) = e4 ∙ rw e3 (put_then b2 m t c e ee) in
      let p3 : b4 ≡ put b1 b (v ++ (m ++ t)) = p4 ∙ rw e2 (put_then b1 v (m ++ t) b c (omega arith)) in
      let p2 : b4 ≡ put buf a (note_head ++ (v ++ (m ++ t))) = p3 ∙ rw e1 (put_then buf note_head (v ++ (m ++ t)) a b eb) in
      let text : text_of (note_of u (sheet_lines s)) ++ t ≡ note_head ++ (v ++ (m ++ t)) =
      ap (λ (x : List ℕ). x ++ t) h.bytes ∙ ap (λ (x : List ℕ). note_head ++ x) (append_assoc v m t) in
      e5 ∙ ap (λ (x : List ℕ). put x to (bytes_of 2 high z)) p2
      ∙ put_before (note_head ++ (v ++ (m ++ t))) (bytes_of 2 high z) buf to a (omega arith)
      ∙ put_then buf (bytes_of 2 high z) (note_head ++ (v ++ (m ++ t))) to a (omega arith)
      ∙ rw (text, ez)
