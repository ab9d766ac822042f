-- Theorems on what specs/Plain defines. They stand here, as a wrong definition there is to be refused and not to be unread.
-- Assumes nothing.
use Rattle.std.specs.Prelude.{◌≡◌, refl, Bool, true, false, ◌&&◌, List, [], ◌⊎◌, ◌↔◌, ℕ, zero, suc, ◌≤◌, ◌<◌, nat_abs, length, get_or, ltb, eqb, Ok}
use Rattle.std.proofs.Common.{sym, ap, subst, ◌∙◌, inl, inr, arith, le-ltb, ne_eqb}
use Rattle.std.proofs.lemmas.Bool.{eqb-false}
use Rattle.refusal.specs.Rows.{Clear}
use Rattle.digits.specs.Value.{value}
use Rattle.digits.specs.Digits.{digits_first}
use Rattle.decimal_parts.specs.declared.Decimal.{Decimal}
use Rattle.decimal_parts.specs.Grammar.{Writes}
use Rattle.decimal_parts.specs.Answer.{decimal_of}
use Rattle.numeral.specs.Leading.{digits_leading}
use Rattle.numeral_text.specs.NumeralText.{unless_zero, spelling}
use Rattle.numeral.specs.Numeral.{raised, parts_for, numeral_of}
use Rattle.numeral.specs.Numeral.{numeral_rows, numeral_answer}
use Rattle.numeral.specs.Plain.{Plain, Shows, coefficient_of, one_text, parts_kept, parts_number, parts_write, rows_from, rows_short, rows_to, sign_back}

unless_leading : (k : ℕ) → (unless_zero k ≡ []) ⊎ (48 < get_or (unless_zero k) 0 0)
unless_leading zero = inl refl
unless_leading (suc k) = inr (digits_first (suc k) (omega arith))

sign_plain : (m : Bool) (c : ℕ) → m && eqb c 0 ≡ false → m ≡ true → 0 < c
sign_plain m c h e = let k : eqb c 0 ≡ false = rw e at h in let z = eqb-false c 0 k in omega arith

pub parts_plain : (n : Decimal) → n.minus && eqb n.coefficient 0 ≡ false → Plain (parts_for n)
unfolding parts_for
parts_plain n h = record {
  sign = λ e. rw (coefficient_of n) (sign_plain n.minus n.coefficient h e);
  whole = digits_leading _;
  exponent = unless_leading (nat_abs (raised n.power n.decimals));
}

sign_clear : (m : Bool) (c : ℕ) → (m ≡ true → 0 < c) → m && eqb c 0 ≡ false
sign_clear false c h = refl
sign_clear true c h = let l = h refl in ne_eqb c 0 (omega arith)

shown_parts : (n : Decimal) (t : List ℕ) (s : Shows n t) → parts_for n ≡ s.parts
shown_parts n t s = ap parts_for s.number ∙ parts_kept s.parts t s.writes s.plain

shown_text : (n : Decimal) (t : List ℕ) → Shows n t → numeral_of n ≡ t
unfolding numeral_of
shown_text n t s = ap spelling (shown_parts n t s) ∙ sym (one_text s.parts t s.writes)

shown_clear : (n : Decimal) (t : List ℕ) → Shows n t → Clear (numeral_rows n)
unfolding decimal_of
shown_clear n t s =
    let p = s.parts in
    let e = shown_parts n t s in
    let m : n.minus && eqb n.coefficient 0 ≡ false =
    rw s.number (sign_clear (p.minus && ltb 0 (value (value 0 p.whole) p.decimals)) (value (value 0 p.whole) p.decimals)
    (λ k. s.plain.sign (sym (sign_back p.minus _ s.plain.sign) ∙ k))) in
    (m, (rw e (le-ltb 18 _ s.short.before), (rw e (le-ltb 2 _ s.short.after), tt)))

-- a number is written, in so much room, as exactly the text that shows it
pub shown_exactly : (room : ℕ) (n : Decimal) (t : List ℕ)
    → ((numeral_answer room n ≡ Ok (length t)) × (numeral_of n ≡ t)) ↔ (Shows n t × (length t ≤ room))
shown_exactly room n t = (
  λ w. (
      let r = rows_from room n (length t) w.0 in
      let e = w.1 in (
        record {
          parts = parts_for n;
          writes = subst (λ (s : List ℕ). Writes (parts_for n) s) e (parts_write n);
          short = rows_short n r.0;
          plain = parts_plain n r.0.0;
          number = parts_number n r.0.0;
        },
        rw e at r.1,
      )),
  λ s. (
      let e = shown_text n t s.0 in
      (rows_to room n (shown_clear n t s.0) (rw e s.1) ∙ ap (λ (q : List ℕ). Ok (length q)) e, e)),
)
