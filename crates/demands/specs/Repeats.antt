-- Document 02, §1, "Several receivers in one group": "RECEIVER_GEOMETRY and SOURCE_GEOMETRY may stand several times
-- running, in files and in sheets; all others still rise strictly. A keyword question answers the first. Demands 2 and
-- 3 read with this order."
-- Assumes nothing.
use Rattle.std.specs.Prelude.{◌≡◌, true, false, ◌↔◌, ◌⊎◌, ℕ, ◌<◌, ℤ, length, take, Ok, List, [], ◌∷◌}
use Rattle.std.proofs.Common.{sym, ap, ◌∙◌, inl, inr, ⊎_elim}
use Rattle.text.specs.declared.Manner.TheVariants.{Strict}
use Rattle.chars.specs.Runs.{all}
use Rattle.key_order.specs.Order.{before, receiver_geometry, source_geometry, rises, repeats_two, rises_so}
use Rattle.key_order.proofs.Order.{rises_again}
use Rattle.key_order.specs.Order.{rises_later}
use Rattle.strings.specs.Spelled.{Str, nth_str, value_of_key}
use Rattle.strings.specs.Paper.{keywords_once}
use Rattle.decimal.specs.Number.{number_in}
use Rattle.double.specs.Double.{double_of}
use Rattle.location.specs.Location.{location_of}
use Rattle.sheet_line.specs.SheetLine.{plain, spaced}
use Rattle.sheet.specs.Lines.{Line}
use Rattle.sheet.specs.Paper.{sheet_of}
use Rattle.reader.specs.Questions.{yes_or_no, value_there, nth_answer, find_answer, keyword_answer, value_answer, number_answer}
use Rattle.reader.specs.Questions.{double_answer, location_answer}
use Rattle.reader.specs.Listed.{Lists}
use Rattle.layout.specs.Layout.{Trace}
use Rattle.growth.specs.Answered.{AnswersBy}
use Rattle.afresh.specs.Worked.{shot}

-- one of the two
abbrev pub Geometry : List ℕ → Type 0
Geometry key = (key ≡ receiver_geometry) ⊎ (key ≡ source_geometry)

-- ---- "all others still rise strictly": 17 and 26 ask whether a keyword may follow the one before, and it may exactly
-- where it comes later (byte order, NOTE last) or is one of the two again. Rules out any other change of the order.

pub follows_exactly : (p k : List ℕ) → (rises p k ≡ true) ↔ ((before p k ≡ true) ⊎ ((p ≡ k) × Geometry k))
follows_exactly p k = (
  λ h. ⊎_elim inl (λ x. inr (x.0, (repeats_two k).0 x.1)) (rises_so p k h),
  ⊎_elim (rises_later p k) (λ x. rw x.0 (rises_again k ∙ (repeats_two k).1 x.1)),
)

-- ---- "may stand several times running": a keyword that stands twice in a part is one of the two, and every string
-- between has it too. Rules out a reader that lets another repeat, or one of the two stand in two places.

pub each_once_but_the_two : (f : List ℕ) (z : ℤ) (ss : List Str) → Lists Strict f z ss → (i j : ℕ) → i < j → j < length ss
    → (nth_str ss i).key ≡ (nth_str ss j).key
    → Geometry (nth_str ss i).key × ((k : ℕ) → i < k → k < j → (nth_str ss k).key ≡ (nth_str ss i).key)
each_once_but_the_two f z ss l i j low high e = let o = keywords_once ss i j l.spells low high e in ((repeats_two (nth_str ss i).key).0 o.0, o.1)

-- ---- "A keyword question answers the first": the string that is found is the i-th, where that has the keyword and
-- none before it has; count and i-th string have them all (`AnswersBy`). Rules out a question that answers a later one.

pub the_first_is_answered : (xs : List ℕ) (n : ℕ) (z : ℤ) (ss : List Str) → AnswersBy Strict xs n z ss → (key : List ℕ) (i : ℕ) → i < length ss
    → (nth_str ss i).key ≡ key → ((j : ℕ) → j < i → (nth_str ss j).key ≡ key → ⊥)
    → (find_answer Strict xs n z key ≡ nth_answer Strict xs n z i)
    × (keyword_answer Strict xs n z key ≡ Ok true)
    × (value_answer Strict xs n z key ≡ (nth_str ss i).value)
    × (number_answer Strict xs n z key ≡ number_in (nth_str ss i).value)
    × (double_answer Strict xs n z key ≡ double_of (nth_str ss i).value)
    × (location_answer Strict xs n z key ≡ location_of (nth_str ss i).value)
unfolding keyword_answer value_answer
the_first_is_answered xs n z ss a key i low has free =
    let t = a.nth i low in
    let f = a.first key i low has free in
    let w = f ∙ t.1 in
    let v : value_answer Strict xs n z key ≡ (nth_str ss i).value = ap (value_there (take n xs)) w ∙ t.2.value in
    let k : value_of_key Strict ss key ≡ (nth_str ss i).value = sym (a.value key) ∙ v in
    (f, ap yes_or_no w, v, a.number key ∙ ap number_in k, a.double key ∙ ap double_of k, a.location key ∙ ap location_of k)

-- ---- "in files and in sheets": a line for each value, all of one of the two keywords

abbrev pub each_line : List ℕ → List (List ℕ) → List Line
each_line key [] = []
each_line key (v ∷ vs) = record { key = key; value = v } ∷ each_line key vs

-- "Value codes are 32 to 126, not starting with a space" (document 01)
abbrev pub GoodValue : List ℕ → Type 0
GoodValue v = (all plain v ≡ true) × (spaced v ≡ false)

-- ---- "A crew with six phones per group writes RECEIVER_GEOMETRY six times in one trace block", here -5, -3, -1, 1, 3
-- and 5: it is written, byte for byte as the list's file, and reads back as six strings

abbrev pub positions : List (List ℕ)
positions = (45 ∷ 53 ∷ []) ∷ (45 ∷ 51 ∷ []) ∷ (45 ∷ 49 ∷ []) ∷ (49 ∷ []) ∷ (51 ∷ []) ∷ (53 ∷ []) ∷ []

abbrev pub phones : List Line
phones = each_line receiver_geometry positions

abbrev pub group : Trace
group = record { sheet = sheet_of phones; code = shot.code; samples = shot.samples }
