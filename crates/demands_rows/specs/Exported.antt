-- Demand 2 as a caller in another language sees it: "the value as the caller's own bytes, not a copy" leaves the
-- library as a start and a length (face_values/FaceValues), and the bytes there, in the caller's own buffer, are those
-- of the list of strings that the part spells.
-- Assumes nothing.
use Rattle.std.specs.Prelude.{◌≡◌, refl, Bool, true, false, List, ℕ, ◌≤◌, ◌<◌, ℤ, length, take, drop, Result, Ok, Err, Option, Some, None}
use Rattle.std.proofs.Common.{sym, ◌∙◌, arith}
use Rattle.text.specs.declared.Manner.TheVariants.{Strict}
use Rattle.word.specs.Part.{part_take}
use Rattle.refusal.specs.Rows.{pick}
use Rattle.strings.specs.declared.Place.{Place}
use Rattle.strings.specs.Strings.{key_in, value_in}
use Rattle.strings.specs.Spelled.{Str, nth_str, value_of_key, has_key}
use Rattle.reader.specs.Questions.{yes_or_no, value_there, nth_answer, find_answer, keyword_answer, value_answer}
use Rattle.reader.specs.Leaves.{Within}
use Rattle.reader.specs.Reach.{nth_within, find_within, value_within}
use Rattle.growth.specs.Answered.{AnswersBy}
use Rattle.face_values.specs.FaceValues.{as_string, as_value}
use Rattle.refusal.specs.declared.Refusal.{Refusal}

-- the bytes from a start on, so many of them
abbrev pub bytes_from : ℕ → ℕ → List ℕ → List ℕ
bytes_from start size xs = take size (drop start xs)

-- ---- `seg2_value`

value_in_buffer : (xs : List ℕ) (s : Result (Option Place) Refusal) → bytes_from (as_value s).value_start (as_value s).value_length xs ≡ value_there xs s
unfolding as_value
value_in_buffer xs (Ok (Some p)) = refl
value_in_buffer xs (Ok None) = refl
value_in_buffer xs (Err r) = refl

yes_or_no_lem : (s : Result (Option Place) Refusal) (w : Bool) → yes_or_no s ≡ pick w (Ok true) (Ok false)
    → ((as_value s).number ≡ 0) × (w ≡ false → ((as_value s).value_start ≡ 0) × ((as_value s).value_length ≡ 0))
unfolding as_value
yes_or_no_lem (Ok (Some p)) true e = (refl, λ h. absurd (let z : ◌≡◌ {A = ℕ} 0 1 = cc in omega arith))
yes_or_no_lem (Ok (Some p)) false e = absurd (let z : ◌≡◌ {A = ℕ} 0 1 = cc in omega arith)
yes_or_no_lem (Ok None) w e = (refl, λ h. (refl, refl))
yes_or_no_lem (Err r) true e = absurd (let z : ◌≡◌ {A = ℕ} 0 1 = cc in omega arith)
yes_or_no_lem (Err r) false e = absurd (let z : ◌≡◌ {A = ℕ} 0 1 = cc in omega arith)

-- Rules out a start or a length that is off, or that points into another string. Without the keyword it is "the empty
-- part at the start of the lent buffer".
pub exported_value_is_the_lists : (xs : List ℕ) (n : ℕ) (z : ℤ) (ss : List Str) → AnswersBy Strict xs n z ss → (key : List ℕ)
    → (bytes_from (as_value (find_answer Strict xs n z key)).value_start (as_value (find_answer Strict xs n z key)).value_length xs ≡ value_of_key Strict ss key)
    × ((as_value (find_answer Strict xs n z key)).number ≡ 0)
    × (has_key Strict ss key ≡ false → ((as_value (find_answer Strict xs n z key)).value_start ≡ 0)
    × ((as_value (find_answer Strict xs n z key)).value_length ≡ 0))
unfolding value_answer keyword_answer
exported_value_is_the_lists xs n z ss a key =
    let s = find_answer Strict xs n z key in
    let y = yes_or_no_lem s (has_key Strict ss key) (a.keyword key) in
    (value_in_buffer xs s ∙ value_within xs n s (find_within Strict xs n z key) ∙ a.value key, y.0, y.1)

-- ---- `seg2_string`

string_in_buffer : (xs : List ℕ) (n : ℕ) (s : Result (Option Place) Refusal) (p : Place) → s ≡ Ok (Some p) → Within n s
    → (bytes_from (as_string s).key_start (as_string s).key_length xs ≡ key_in (take n xs) p)
    × (bytes_from (as_string s).value_start (as_string s).value_length xs ≡ value_in (take n xs) p)
unfolding as_string
string_in_buffer xs n (Ok (Some q)) p e w =
    let same : q ≡ p = cc in
    rw (← same) (sym (part_take n q.key q.gap xs (omega (arith, w))), sym (part_take n q.value q.end xs w.3))
string_in_buffer xs n (Ok None) p e w = absurd (let z : ◌≡◌ {A = ℕ} 0 1 = cc in omega arith)
string_in_buffer xs n (Err r) p e w = absurd (let z : ◌≡◌ {A = ℕ} 0 1 = cc in omega arith)

found_there : (s : Result (Option Place) Refusal) (p : Place) → s ≡ Ok (Some p) → ((as_string s).number ≡ 0) × ((as_string s).found ≡ 1)
unfolding as_string
found_there s p e = rw e (refl, refl)

-- Rules out a keyword or a value told at another place than the i-th string's.
pub exported_string_is_the_lists : (xs : List ℕ) (n : ℕ) (z : ℤ) (ss : List Str) → AnswersBy Strict xs n z ss → (i : ℕ) → i < length ss
    → (bytes_from (as_string (nth_answer Strict xs n z i)).key_start (as_string (nth_answer Strict xs n z i)).key_length xs ≡ (nth_str ss i).key)
    × (bytes_from (as_string (nth_answer Strict xs n z i)).value_start (as_string (nth_answer Strict xs n z i)).value_length xs ≡ (nth_str ss i).value)
    × ((as_string (nth_answer Strict xs n z i)).number ≡ 0)
    × ((as_string (nth_answer Strict xs n z i)).found ≡ 1)
exported_string_is_the_lists xs n z ss a i low =
    let t = a.nth i low in
    let b = string_in_buffer xs n (nth_answer Strict xs n z i) t.0 t.1 (nth_within Strict xs n z i) in
    let f = found_there (nth_answer Strict xs n z i) t.0 t.1 in
    (b.0 ∙ t.2.key, b.1 ∙ t.2.value, f.0, f.1)

pub exported_string_past_the_last : (xs : List ℕ) (n : ℕ) (z : ℤ) (ss : List Str) → AnswersBy Strict xs n z ss → (i : ℕ) → length ss ≤ i
    → ((as_string (nth_answer Strict xs n z i)).number ≡ 0) × ((as_string (nth_answer Strict xs n z i)).found ≡ 0)
unfolding as_string
exported_string_past_the_last xs n z ss a i high = rw (a.past i high) (refl, refl)
