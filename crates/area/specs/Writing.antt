-- The bytes of an area as they are stored: the strings, then the end mark and the zeros.
-- Assumes nothing.
use Rattle.std.specs.Prelude.{◌≡◌, refl, Bool, List, [], ◌∷◌, ◌++◌, ℕ, ◌+◌, ◌-◌, ◌≤◌, length, replicate, Ok}
use Rattle.std.proofs.Common.{sym, ◌∙◌, append_assoc, arith}
use Rattle.word.specs.Put.{put}
use Rattle.word.specs.Round.{round4}
use Rattle.word.specs.Word.{bytes_of}
use Rattle.word.specs.WordLaws.{length_bytes_of}
use Rattle.strings.specs.Spelled.{Str, texts, written}
use Rattle.sheet.specs.Area.{sheet_strings, text_size, padding, area_of, area_size, measured_of}
use Rattle.area.specs.Spelling.{measured_size}
use Rattle.sheet_string.specs.StringBytes.{string_bytes, put_then}
use Rattle.sheet_texts.specs.Texts.{texts_of, texts_size, Writable}

written_texts : (high : Bool) (t : List ℕ) (ss : List Str) (rest : List ℕ) → written high t ss rest ≡ texts_of high t ss ++ (bytes_of 2 high 0 ++ rest)
unfolding texts texts_of string_bytes
written_texts high t [] rest = refl
written_texts high t (s ∷ ss) rest = rw (written_texts high t ss rest) (sym (simp append_assoc))

-- `measure` let the sheet through, and there is room: it may be written
pub writable : (t u s : List ℕ) (n room : ℕ) → measured_of t u s ≡ Ok n → n ≤ room → Writable t u s room
writable t u s n room e h =
    let b = measured_size t u s n e in
    let a : area_size t u s ≡ n = b.1 in
    record { lines = b.0; limit = omega (arith, b.2); fits = omega arith }

-- ---- the whole area: the strings, the end mark, the zeros

pub area_written : (buf b1 b2 b3 : List ℕ) (high : Bool) (t u s : List ℕ) (to a e : ℕ) → to ≡ length (texts_of high t (sheet_strings u s)) → a ≡ to + 2
    → e ≡ round4 a
    → b1 ≡ put buf 0 (texts_of high t (sheet_strings u s)) → b2 ≡ put b1 to (bytes_of 2 high 0) → b3 ≡ put b2 a (replicate (e - a) 0)
    → b3 ≡ put buf 0 (area_of high t u s)
unfolding area_of
area_written buf b1 b2 b3 high t u s to a e eto ea ee e1 e2 e3 =
    let x : List ℕ = texts_of high t (sheet_strings u s) in
    let n : text_size t (sheet_strings u s) ≡ a = sym (texts_size high t (sheet_strings u s)) ∙ (let z : length x + 2 ≡ a = omega arith in z) in
    let l2 : length (bytes_of 2 high 0) ≡ 2 = length_bytes_of 2 high 0 in
    let r : List ℕ = replicate (e - a) 0 in
    let p : padding (text_size t (sheet_strings u s)) ≡ r = rw (n, ee) in
    let p2 : put b2 a r ≡ put b1 to (bytes_of 2 high 0 ++ r) = rw e2 (put_then b1 (bytes_of 2 high 0) r to a (omega arith)) in
    let p1 : put b1 to (bytes_of 2 high 0 ++ r) ≡ put buf 0 (x ++ (bytes_of 2 high 0 ++ r)) = rw e1 (put_then buf x (bytes_of 2 high 0 ++ r) 0 to (omega arith)) in
    e3 ∙ p2 ∙ p1 ∙ rw (p, written_texts high t (sheet_strings u s) r)
