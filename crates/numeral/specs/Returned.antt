-- Document 02 §4: "Every answer that the reader gave reads back as the same answer." What is written is a number of
-- document 01, it is the number that was given, decimals included, and every number answer of the reader can be
-- written: 24 bytes of room are enough, and no fewer are.
-- Assumes nothing.
use Rattle.std.specs.Prelude.{◌≡◌, refl, Bool, true, false, ◌&&◌, List, ℕ, ◌+◌, ◌^◌, ◌/◌, ◌≤◌, nat_abs, negsuc, length, take, drop, ltb, eqb, Ok, Err, Result}
use Rattle.std.proofs.Common.{sym, ap, ◌∙◌, one-mul, arith, le-ltb, ltb-true, ne_eqb}
use Rattle.word.specs.Put.{put, take_put_end, drop_put_after}
use Rattle.refusal.specs.declared.Rule.TheVariants.{NoRoom}
use Rattle.refusal.specs.declared.Refusal.{Refusal}
use Rattle.refusal.specs.Rows.{Clear}
use Rattle.refusal.specs.Writing.{refuse}
use Rattle.digits.specs.Value.{value, value_le, two_digits}
use Rattle.digits.specs.Digits.{onto, digits, digits_few}
use Rattle.decimal_parts.specs.declared.Decimal.{Decimal}
use Rattle.decimal_parts.specs.Grammar.{Parts, Writes, Short}
use Rattle.decimal_parts.specs.Answer.{decimal_of}
use Rattle.decimal.specs.Number.{number_in}
use Rattle.decimal.specs.Agreed.{is_number}
use Rattle.digits.specs.LastDigits.{last_digits, last_length}
use Rattle.numeral_text.specs.NumeralText.{unless_zero, sign_text, point_text, power_text, spelling}
use Rattle.numeral.specs.Numeral.{raised, parts_for, numeral_of}
use Rattle.numeral.specs.Numeral.{numeral_rows, numeral_answer, numeral_left}
use Rattle.numeral.specs.Answers.{text_most, after_few}
use Rattle.numeral.specs.Plain.{rows_from, rows_to, rows_short, parts_number, parts_write, raised_back}
use Rattle.numeral.specs.Plain.{whole_back, far_of}

-- ---- what is written is a number of document 01, and the one that was given

rows_back : (n : Decimal) → Clear (numeral_rows n) → number_in (numeral_of n) ≡ Ok n
rows_back n c = (is_number (numeral_of n) n).1 (parts_for n, parts_write n, rows_short n c, parts_number n c.0)

pub reads_back : (room : ℕ) (n : Decimal) (size : ℕ) → numeral_answer room n ≡ Ok size → number_in (numeral_of n) ≡ Ok n
reads_back room n size e = rows_back n (rows_from room n size e).0

-- two answers with one text are one answer
pub same_is : {n m : Decimal} → ◌≡◌ {A = Result Decimal Refusal} (Ok n) (Ok m) → n ≡ m
same_is e = cc

pub one_text_one_number : (room rest : ℕ) (n m : Decimal) (size long : ℕ) → numeral_answer room n ≡ Ok size → numeral_answer rest m ≡ Ok long
    → numeral_of n ≡ numeral_of m → n ≡ m
one_text_one_number room rest n m size long a b e = same_is (sym (reads_back room n size a) ∙ ap number_in e ∙ reads_back rest m long b)

-- ---- in the lent bytes: the text stands at their start, and what is past it stays; a refusal changes nothing

pub text_there : (xs : List ℕ) (n : Decimal) (size : ℕ) → numeral_answer (length xs) n ≡ Ok size
    → (take size (numeral_left xs n) ≡ numeral_of n) × (drop size (numeral_left xs n) ≡ drop size xs)
unfolding numeral_left
text_there xs n size e =
    let r = rows_from (length xs) n size e in
    let k : size ≡ 0 + length (numeral_of n) = omega (arith, r.2) in
    rw e (
      ap (λ (i : ℕ). take i (put xs 0 (numeral_of n))) k ∙ take_put_end (numeral_of n) xs 0 (omega (arith, r.1)),
      drop_put_after size (numeral_of n) xs 0 (omega arith),
    )

pub refused_stays : (xs : List ℕ) (n : Decimal) (r : Refusal) → numeral_answer (length xs) n ≡ Err r → numeral_left xs n ≡ xs
unfolding numeral_left
refused_stays xs n r e = rw e

-- ---- every answer of the reader is written

sign_given : (m : Bool) (c : ℕ) → (m && ltb 0 c) && eqb c 0 ≡ false
sign_given false c = refl
sign_given true c = go (ltb 0 c) refl
  where
    go : (q : Bool) → ltb 0 c ≡ q → q && eqb c 0 ≡ false
    go true e = let l = ltb-true 0 c e in ne_eqb c 0 (omega arith)
    go false e = refl

pub given_clear : (t : List ℕ) (n : Decimal) → number_in t ≡ Ok n → Clear (numeral_rows n)
unfolding parts_for decimal_of
given_clear t n e =
    let w = (is_number t n).0 e in
    let p = w.0 in
    let h = w.1 in
    let s = w.2 in
    rw w.3 (
      sign_given p.minus (value (value 0 p.whole) p.decimals),
      (le-ltb 18 _ (few p t h s), (le-ltb 2 _ (near p t h s), tt)),
    )
  where
    few : (p : Parts) (t : List ℕ) → Writes p t → Short p
        → length (digits ((decimal_of p).coefficient / 10 ^ (decimal_of p).decimals)) + length (last_digits (decimal_of p).decimals (decimal_of p).coefficient) ≤ 18
    few p t h s =
        let v = value_le 0 p.whole in
        let o = one-mul (10 ^ length p.whole) in
        let f = digits_few (length p.whole) (value 0 p.whole) h.whole.some (omega arith) in
        let l : length (last_digits (decimal_of p).decimals (decimal_of p).coefficient) ≡ length p.decimals =
        last_length (decimal_of p).decimals (decimal_of p).coefficient in
        rw (whole_back p t h) (omega (arith, f, l, s.before))

    near : (p : Parts) (t : List ℕ) → Writes p t → Short p → length (unless_zero (nat_abs (raised (decimal_of p).power (decimal_of p).decimals))) ≤ 2
    near p t h s =
        let d = two_digits p.exponent s.after in
        rw (raised_back p t h, far_of p.down (value 0 p.exponent)) (after_few (value 0 p.exponent) (omega arith))

pub given_written : (t : List ℕ) (n : Decimal) → number_in t ≡ Ok n → (room : ℕ) → 24 ≤ room
    → (numeral_answer room n ≡ Ok (length (numeral_of n))) × (number_in (numeral_of n) ≡ Ok n)
unfolding numeral_of
given_written t n e room h =
    let c = given_clear t n e in
    let l = text_most (parts_for n) (rows_short n c) in
    (rows_to room n c (omega arith), rows_back n c)

-- ---- and 24 bytes are the least: "-1.23456789012345678E-99" has as many

unfoldable pub longest : Decimal
longest = record { minus = true; coefficient = 123456789012345678; power = negsuc 115; decimals = 17 }

pub longest_written : numeral_answer 24 longest ≡ Ok 24
unfolding longest numeral_answer parts_for numeral_of spelling sign_text point_text power_text digits onto last_digits
longest_written = refl

-- an answer of the reader
pub longest_given : number_in (numeral_of longest) ≡ Ok longest
longest_given = reads_back 24 longest 24 longest_written

pub least_room : numeral_answer 23 longest ≡ refuse NoRoom 0
unfolding longest numeral_answer parts_for numeral_of spelling sign_text point_text power_text digits onto last_digits
least_room = refl
