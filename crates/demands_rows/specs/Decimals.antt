-- Document 02 §4, "Show numbers with their own decimals": a number answer carries how many digits stood after the
-- point, and is written as text with exactly that many. Numbers are written by numeral/Numeral `numeral_answer` and
-- `numeral_left`, which the promise of `seg2_write_number` cites; `Shows` (numeral/Plain) is the same by the grammar.
-- Assumes nothing.
use Rattle.std.specs.Prelude.{◌≡◌, refl, Bool, true, false, ◌&&◌, ◌||◌, List, [], ◌∷◌, ◌↔◌, ℕ, ◌+◌, ◌^◌, ◌/◌, ◌≤◌, ℤ, pos, nat_abs, ◌+ℤ◌, length, take, drop, ltb, eqb, Result, Ok, Err, Option, Some, None}
use Rattle.std.proofs.Common.{sym, ap, ◌∙◌, arith, lt-ltb, le-ltb, ltb-true, ltb-false}
use Rattle.refusal.specs.declared.Refusal.{Refusal}
use Rattle.refusal.specs.declared.Rule.TheVariants.{NoNumber, Digits, NoRoom}
use Rattle.refusal.specs.declared.Part.TheVariants.{File}
use Rattle.refusal.specs.FirstRow.{row, first_of}
use Rattle.refusal.specs.Rows.{pick}
use Rattle.refusal.specs.Verdicts.{asked, Verdict}
use Rattle.refusal.specs.Writing.{refuse}
use Rattle.text.specs.declared.Manner.TheVariants.{Strict}
use Rattle.digits.specs.Digits.{digits, digits_few, digits_below}
use Rattle.decimal_parts.specs.declared.Decimal.{Decimal}
use Rattle.decimal_parts.specs.Grammar.{Parts, Writes, Short}
use Rattle.decimal.specs.Number.{number_in}
use Rattle.decimal.specs.Meaning.{number_means}
use Rattle.reader.specs.Questions.{on_string, find_answer, value_answer, number_answer}
use Rattle.digits.specs.LastDigits.{last_digits}
use Rattle.numeral_text.specs.NumeralText.{unless_zero}
use Rattle.numeral.specs.Numeral.{parts_for, numeral_of, numeral_answer, numeral_left}
use Rattle.numeral.specs.Answers.{count_many, count_large, count_few, after_many, after_few}
use Rattle.numeral.specs.Plain.{Plain, Shows}
use Rattle.numeral.proofs.Plain.{shown_exactly}
use Rattle.numeral.specs.Returned.{reads_back, one_text_one_number, text_there, refused_stays, given_written, longest, longest_given, least_room}
use Rattle.numeral.proofs.Returned.{typed_stays}
use Rattle.face.specs.Face.{flag}
use Rattle.face_values.specs.FaceValues.{as_given}
use Rattle.strings.specs.declared.Place.{Place}

-- ---- "The number answer should also carry how many digits stood after the point." Rules out a count of the digits
-- that are left when zeros at the end are dropped, and one that is taken from the power.

pub decimals_as_typed : (t : List ℕ) (n : Decimal) → number_in t ≡ Ok n → (p : Parts) × Writes p t × (n.decimals ≡ length p.decimals)
decimals_as_typed t n e = let m = number_means t n e in (m.0, m.1, m.2.decimals)

-- ---- "Refusals of this writing, place 0: 20 zero with minus, 21 more than 18 digits or more than 2 after E, 30 no
-- room, in that order": by the numbers given alone. More than 18 digits are the coefficient's own, or the decimals with
-- the one that stands before the point; more than 2 after E is a power of 100 or more.

unfoldable pub writing_rows : ℕ → Decimal → List Verdict
writing_rows room n =
    row (n.minus && eqb n.coefficient 0) NoNumber File 0
    ∷ row (ltb 18 (length (digits n.coefficient)) || ltb 17 n.decimals) Digits File 0
    ∷ row (ltb 99 (nat_abs (n.power +ℤ pos n.decimals))) Digits File 0
    ∷ row (ltb room (length (numeral_of n))) NoRoom File 0
    ∷ []

either_true : (a : Bool) → a || true ≡ true
either_true true = refl
either_true false = refl

or_neither : (a : Bool) → a || false ≡ a
or_neither true = refl
or_neither false = refl

digits_test : (k c : ℕ) → ltb 18 (length (digits (c / 10 ^ k)) + length (last_digits k c)) ≡ (ltb 18 (length (digits c)) || ltb 17 k)
digits_test k c = go (ltb 17 k) refl
  where
    large : (q : Bool) → ltb 999999999999999999 c ≡ q → k ≤ 17 → ltb 18 (length (digits (c / 10 ^ k)) + length (last_digits k c)) ≡ ltb 18 (length (digits c))
    large false f l =
        let s = ltb-false 999999999999999999 c f in
        let e : 10 ^ 18 ≡ 1000000000000000000 = refl in
        let d = digits_few 18 c (omega arith) (rw e (omega arith)) in
        le-ltb 18 _ (count_few k c l s) ∙ sym (le-ltb 18 (length (digits c)) d)
    large true f l = more (ltb 18 (length (digits c))) refl
      where
        more : (r : Bool) → ltb 18 (length (digits c)) ≡ r → ltb 18 (length (digits (c / 10 ^ k)) + length (last_digits k c)) ≡ r
        more true g = lt-ltb 18 _ (count_large k c l (ltb-true 999999999999999999 c f))
        more false g =
            let b = digits_below c 18 (ltb-false 18 (length (digits c)) g) in
            let e : 10 ^ 18 ≡ 1000000000000000000 = refl in
            let s = ltb-true 999999999999999999 c f in
            absurd (omega arith)

    go : (q : Bool) → ltb 17 k ≡ q → ltb 18 (length (digits (c / 10 ^ k)) + length (last_digits k c)) ≡ (ltb 18 (length (digits c)) || q)
    go true e = lt-ltb 18 _ (count_many k c (ltb-true 17 k e)) ∙ sym (either_true (ltb 18 (length (digits c))))
    go false e = large (ltb 999999999999999999 c) refl (ltb-false 17 k e) ∙ sym (or_neither (ltb 18 (length (digits c))))

after_test : (far : ℕ) → ltb 2 (length (unless_zero far)) ≡ ltb 99 far
after_test far = go (ltb 99 far) refl
  where
    go : (q : Bool) → ltb 99 far ≡ q → ltb 2 (length (unless_zero far)) ≡ q
    go true e = lt-ltb 2 _ (after_many far (ltb-true 99 far e))
    go false e = le-ltb 2 _ (after_few far (ltb-false 99 far e))

four_rows : (a b c d : Bool) (x : Result ℕ Refusal)
    → pick a (refuse NoNumber 0) (pick b (refuse Digits 0) (pick c (refuse Digits 0) (pick d (refuse NoRoom 0) x)))
    ≡ asked Err (first_of (row a NoNumber File 0 ∷ row b Digits File 0 ∷ row c Digits File 0 ∷ row d NoRoom File 0 ∷ [])) x
unfolding first_of
four_rows true b c d x = refl
four_rows false true c d x = refl
four_rows false false true d x = refl
four_rows false false false true x = refl
four_rows false false false false x = refl

-- Rules out a writer that refuses a number that it could write, writes one that it must refuse, or tells another row.
pub writing_answers_first : (room : ℕ) (n : Decimal)
    → numeral_answer room n ≡ asked Err (first_of (writing_rows room n)) (Ok (length (numeral_of n)))
unfolding numeral_answer parts_for writing_rows
writing_answers_first room n =
    rw (digits_test n.decimals n.coefficient, after_test (nat_abs (n.power +ℤ pos n.decimals)))
    (four_rows (n.minus && eqb n.coefficient 0) (ltb 18 (length (digits n.coefficient)) || ltb 17 n.decimals)
    (ltb 99 (nat_abs (n.power +ℤ pos n.decimals))) (ltb room (length (numeral_of n))) (Ok (length (numeral_of n))))

-- after a refusal nothing has changed, and after a text only its own bytes. Rules out a writer that clears the rest of
-- the lent bytes, or ends the text with a 00h.
pub refused_number_changes_nothing : (xs : List ℕ) (n : Decimal) (r : Refusal) → numeral_answer (length xs) n ≡ Err r → numeral_left xs n ≡ xs
refused_number_changes_nothing = refused_stays

pub only_the_text_changes : (xs : List ℕ) (n : Decimal) (size : ℕ) → numeral_answer (length xs) n ≡ Ok size
    → (take size (numeral_left xs n) ≡ numeral_of n) × (drop size (numeral_left xs n) ≡ drop size xs)
only_the_text_changes = text_there

-- ---- "exactly that many decimals, at least one digit before the point and otherwise no leading zero, then E with the
-- power plus the count where this is not 0": the text that is written is the one that shows the number. Rules out a
-- writer that drops a zero at the end, leaves out the digit before the point, or writes E0.

pub number_written_exactly_as_shown : (room : ℕ) (n : Decimal) (t : List ℕ)
    → ((numeral_answer room n ≡ Ok (length t)) × (numeral_of n ≡ t)) ↔ (Shows n t × (length t ≤ room))
number_written_exactly_as_shown = shown_exactly

-- ---- "Every answer that the reader gave reads back as the same answer." Rules out a writer that refuses an answer of
-- the reader, and one whose text means the same value and another precision.

pub every_answer_is_written : (t : List ℕ) (n : Decimal) → number_in t ≡ Ok n → (room : ℕ) → 24 ≤ room
    → (numeral_answer room n ≡ Ok (length (numeral_of n))) × (number_in (numeral_of n) ≡ Ok n)
every_answer_is_written = given_written

-- of a file's own questions too
from_string : (a : Result (Option Place) Refusal) (b : Result Decimal Refusal) (n : Decimal) → on_string Err a b ≡ Ok n → b ≡ Ok n
from_string (Ok (Some s)) b n e = e
from_string (Ok None) b n e = e
from_string (Err r) b n e = let z : ◌≡◌ {A = ℕ} 0 1 = cc in absurd (omega arith)

pub answers_of_a_file_are_written : (xs : List ℕ) (n : ℕ) (z : ℤ) (key : List ℕ) (d : Decimal) → number_answer Strict xs n z key ≡ Ok d
    → (room : ℕ) → 24 ≤ room → (numeral_answer room d ≡ Ok (length (numeral_of d))) × (number_in (numeral_of d) ≡ Ok d)
unfolding number_answer
answers_of_a_file_are_written xs n z key d e =
    given_written (value_answer Strict xs n z key) d (from_string (find_answer Strict xs n z key) (number_in (value_answer Strict xs n z key)) d e)

-- 24 bytes are the least: this answer of the reader does not fit 23
pub no_less_room : ((t : List ℕ) × (number_in t ≡ Ok longest)) × (numeral_answer 23 longest ≡ refuse NoRoom 0)
no_less_room = ((numeral_of longest, longest_given), least_room)

-- what is written is a number of document 01, whoever gave it: forged numbers too
pub written_is_a_number : (room : ℕ) (n : Decimal) (size : ℕ) → numeral_answer room n ≡ Ok size → number_in (numeral_of n) ≡ Ok n
written_is_a_number = reads_back

-- so what stands in the lent bytes, read from there, is the number that was given
pub lent_bytes_read_back : (xs : List ℕ) (n : Decimal) (size : ℕ) → numeral_answer (length xs) n ≡ Ok size
    → number_in (take size (numeral_left xs n)) ≡ Ok n
lent_bytes_read_back xs n size e = ap number_in (text_there xs n size e).0 ∙ reads_back (length xs) n size e

pub one_text_one_answer : (room rest : ℕ) (n m : Decimal) (size long : ℕ) → numeral_answer room n ≡ Ok size
    → numeral_answer rest m ≡ Ok long → numeral_of n ≡ numeral_of m → n ≡ m
one_text_one_answer = one_text_one_number

-- a text without needless zeros stays as it was typed: "0.250" stays "0.250"
pub typed_text_stays : (t : List ℕ) (n : Decimal) (p : Parts) → Writes p t → Short p → Plain p → number_in t ≡ Ok n → numeral_of n ≡ t
typed_text_stays = typed_stays

-- ---- across the face: a number that C was told comes back as it was. Rules out a sign that is lost on the way.
pub number_comes_back : (n : Decimal) → as_given (flag n.minus) n.coefficient n.power n.decimals ≡ n
number_comes_back n = back n.minus refl
  where
    back : (m : Bool) → n.minus ≡ m → as_given (flag m) n.coefficient n.power n.decimals ≡ n
    back true e = rw (← e)
    back false e = rw (← e)
