-- The strings of a part in one row of numbers: "four numbers a string", those of its place: where its keyword starts and
-- how long it is, where its value starts and how long it is. A law for each turn of the loop that fills the row.
-- Assumes nothing.
use Rattle.std.specs.Prelude.{◌≡◌, refl, List, [], ◌∷◌, ◌++◌, ℕ, zero, suc, ◌+◌, ◌-◌, ◌*◌, ◌≤◌, length, Some}
use Rattle.std.proofs.Common.{sym, ap, ◌∙◌, append-nil, arith, length-append, drop-drop}
use Rattle.word.specs.Part.{part}
use Rattle.word.specs.Put.{put, put_none, put_append, put_over}
use Rattle.strings.specs.declared.Place.{Place}
use Rattle.strings.specs.Strings.{nth_of}

abbrev pub four_of : Place → List ℕ
four_of s = s.key ∷ (s.gap - s.key) ∷ s.value ∷ (s.end - s.value) ∷ []

-- string by string
unfoldable pub numbers_of : List Place → List ℕ
numbers_of [] = []
numbers_of (s ∷ ss) = four_of s ++ numbers_of ss

pub length_numbers : (ss : List Place) → length (numbers_of ss) ≡ 4 * length ss
unfolding numbers_of
length_numbers [] = refl
length_numbers (s ∷ ss) = let e = length_numbers ss in omega (arith, e)

-- ---- the row as it is filled, from the j-th number on

pub numbers_none : (ss : List Place) (row : List ℕ) (j : ℕ) → [] ≡ ss → row ≡ put row j (numbers_of ss)
unfolding numbers_of
numbers_none ss row j e = rw (sym e) (sym (put_none row j))

pub numbers_next : (ss : List Place) (s : Place) (rest row : List ℕ) (more : List Place) (j : ℕ) → ss ≡ s ∷ more → rest ≡ put row j (four_of s)
    → put rest (j + 4) (numbers_of more) ≡ put row j (numbers_of ss)
unfolding numbers_of
numbers_next ss s rest row more j e w = rw (e, w) (sym (put_append (four_of s) (numbers_of more) row j))

-- a row of that length is filled whole
pub numbers_all : (ss : List Place) (row : List ℕ) → length row ≡ 4 * length ss → put row 0 (numbers_of ss) ≡ numbers_of ss
numbers_all ss row e =
    ap (λ (r : List ℕ). put r 0 (numbers_of ss)) (sym (append-nil row))
    ∙ put_over row (numbers_of ss) [] (e ∙ sym (length_numbers ss))
    ∙ append-nil (numbers_of ss)

-- the i-th four numbers of the row are those of the i-th string
pub numbers_nth : (ss : List Place) (i : ℕ) (s : Place) → nth_of ss i ≡ Some s → part (4 * i) (4 * i + 4) (numbers_of ss) ≡ four_of s
unfolding numbers_of nth_of
numbers_nth [] i s h = let z : ◌≡◌ {A = ℕ} 0 1 = cc in absurd (omega arith)
numbers_nth (r ∷ rs) zero s h = let e : r ≡ s = cc in rw e
numbers_nth (r ∷ rs) (suc i) s h =
    let a : 4 * suc i ≡ 4 + 4 * i = omega arith in
    let n : 4 + 4 * i + 4 - (4 + 4 * i) ≡ 4 * i + 4 - 4 * i = omega arith in
    rw (a, n, ← drop-drop (4 * i) 4 (four_of r ++ numbers_of rs)) (numbers_nth rs i s h)
