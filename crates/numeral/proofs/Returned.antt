-- Theorems on what specs/Returned defines. They stand here, as a wrong definition there is to be refused and not to be unread.
-- Assumes nothing.
use Rattle.std.specs.Prelude.{◌≡◌, refl, List, ℕ, length, Ok}
use Rattle.std.proofs.Common.{sym, ◌∙◌, arith}
use Rattle.decimal_parts.specs.declared.Decimal.{Decimal}
use Rattle.decimal_parts.specs.Grammar.{Parts, Writes, Short}
use Rattle.decimal_parts.specs.Answer.{decimal_of}
use Rattle.decimal.specs.Number.{number_in}
use Rattle.decimal.specs.Agreed.{is_number}
use Rattle.numeral.specs.Numeral.{numeral_of}
use Rattle.numeral.specs.Plain.{Plain}
use Rattle.numeral.proofs.Plain.{shown_exactly}
use Rattle.numeral.specs.Returned.{same_is}

-- ---- a text as a surveyor types it stays as it is: "0.250" stays "0.250"

pub typed_stays : (t : List ℕ) (n : Decimal) (p : Parts) → Writes p t → Short p → Plain p → number_in t ≡ Ok n → numeral_of n ≡ t
typed_stays t n p w s q e =
    let m = (is_number t (decimal_of p)).1 (p, w, s, refl) in
    let k : n ≡ decimal_of p = same_is (sym e ∙ m) in
    ((shown_exactly (length t) n t).1 (record { parts = p; writes = w; short = s; plain = q; number = k }, omega arith)).1
