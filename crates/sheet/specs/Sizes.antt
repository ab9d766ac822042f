-- How long an area is, and how its size is counted line by line.
-- Assumes nothing.
use Rattle.std.specs.Prelude.{◌≡◌, refl, Bool, true, false, List, [], ◌∷◌, ◌++◌, ℕ, ◌+◌, ◌-◌, ◌≤◌, ◌<◌, length, ltb}
use Rattle.std.proofs.Common.{ap, arith, length-append, lt-ltb, le-ltb}
use Rattle.std.proofs.lemmas.List.{length-replicate}
use Rattle.word.specs.Round.{round4}
use Rattle.word.specs.Word.{bytes_of}
use Rattle.word.specs.WordLaws.{length_bytes_of}
use Rattle.refusal.specs.Rows.{pick}
use Rattle.chars.specs.Chars.{note}
use Rattle.chars.specs.Runs.{same, same_eq}
use Rattle.note.specs.Note.{with_ends}
use Rattle.strings.specs.Spelled.{Str, text_of, size_of, texts, written}
use Rattle.sheet.specs.Lines.{Line}
use Rattle.sheet.specs.Area.{area_most, str_of, values, note_of, joined, sheet_strings, text_size, padding, area_of}
use Rattle.sheet.specs.Area.{area_size}

-- ---- the area's length

pub length_written : (high : Bool) (t : List ℕ) (ss : List Str) (rest : List ℕ) → length (written high t ss rest) ≡ text_size t ss + length rest
unfolding texts text_size
length_written high t [] rest = simp (length-append, length_bytes_of)
length_written high t (s ∷ ss) rest =
    let i = length_written high t ss rest in
    let a = length-append (bytes_of 2 high (size_of t s)) (text_of s ++ (t ++ written high t ss rest)) in
    let b = length-append (text_of s) (t ++ written high t ss rest) in
    let c = length-append t (written high t ss rest) in
    let d = length_bytes_of 2 high (size_of t s) in
    omega arith

pub length_area : (high : Bool) (t u s : List ℕ) → length (area_of high t u s) ≡ area_size t u s
unfolding area_of area_size
length_area high t u s =
    let n : ℕ = text_size t (sheet_strings u s) in
    let a = length_written high t (sheet_strings u s) (padding n) in
    let b = length-replicate {A = ℕ} (round4 n - n) 0 in
    omega arith

pub text_size_low : (t : List ℕ) (ss : List Str) → 2 ≤ text_size t ss
unfolding text_size
text_size_low t [] = omega arith
text_size_low t (s ∷ ss) = let i = text_size_low t ss in omega arith

-- ---- the size that is still to come, line by line: in a NOTE each line costs a terminator and its value, before it a
-- string of its own

abbrev pub line_cost : List ℕ → List ℕ → Bool → ℕ → ℕ → ℕ
line_cost t u true w v = length u + v
line_cost t u false w v = 3 + w + v + length t

unfoldable pub costs : List ℕ → List ℕ → Bool → List Line → ℕ
costs t u inNote [] = 0
costs t u true (l ∷ ls) = line_cost t u true (length l.key) (length l.value) + costs t u true ls
costs t u false (l ∷ ls) = line_cost t u false (length l.key) (length l.value) + costs t u (same l.key note) ls

ends_size : (t u v : List ℕ) (ls : List Line) → length (with_ends u (v ∷ values ls)) ≡ length v + costs t u true ls
unfolding with_ends costs
ends_size t u v [] = omega arith
ends_size t u v (l ∷ ls) =
    let i = ends_size t u l.value ls in
    let a = length-append v (u ++ with_ends u (l.value ∷ values ls)) in
    let b = length-append u (with_ends u (l.value ∷ values ls)) in
    omega arith

str_size : (t : List ℕ) (l : Line) → size_of t (str_of l) ≡ line_cost t [] false (length l.key) (length l.value)
str_size t l = let a = length-append l.key (32 ∷ l.value) in omega arith

pub joined_size : (t u : List ℕ) (ls : List Line) → 2 + costs t u false ls ≡ text_size t (joined u ls)
unfolding joined text_size costs
joined_size t u [] = refl
joined_size t u (l ∷ ls) = go (same l.key note) refl (joined_size t u ls)
  where
    note_key : same l.key note ≡ true → length l.key ≡ 4
    note_key e = ap length (same_eq l.key note e)

    go : (b : Bool) → same l.key note ≡ b → 2 + costs t u false ls ≡ text_size t (joined u ls)
        → 2 + (line_cost t u false (length l.key) (length l.value) + costs t u b ls)
        ≡ text_size t (pick b (note_of u (l ∷ ls) ∷ []) (str_of l ∷ joined u ls))
    go true e i =
        let k = note_key e in
        let n = ends_size t u l.value ls in
        omega arith
    go false e i =
        let a = str_size t l in
        omega arith

-- ---- counting that stops at the limit: what is over 65,500 counts as 65,501

abbrev pub capped : ℕ → ℕ
capped x = pick (ltb area_most x) (area_most + 1) x

pub capped_le : (x : ℕ) → x ≤ area_most → capped x ≡ x
capped_le x h = rw (le-ltb area_most x h)

pub capped_over : (x : ℕ) → area_most < x → capped x ≡ (area_most + 1)
capped_over x h = rw (lt-ltb area_most x h)
