-- "Two outcomes allowed by one promise are proved equal" (document 01, "What a caller may rely on"). Every promise of a
-- public function is an equation for the answer and one for each lent memory, both by a definition of the arguments
-- alone, so two outcomes are equal whatever the function is. Rules out a promise that leaves a choice.
-- Assumes nothing.
use Rattle.std.specs.Prelude.{◌≡◌, ℕ, List, ℤ, length, Result}
use Rattle.std.proofs.Common.{sym, ◌∙◌}
use Rattle.std.specs.Borrow.{Bor}
use Rattle.text.specs.declared.Manner.TheVariants.{Strict}
use Rattle.word.specs.Part.{PartOf}
use Rattle.decimal_parts.specs.declared.Decimal.{Decimal}
use Rattle.numeral.specs.Numeral.{numeral_answer, numeral_left}
use Rattle.layout.specs.Layout.{Trace}
use Rattle.start.specs.Start.{start_answer, start_left}
use Rattle.writer.specs.Answers.{add_answer, add_left}
use Rattle.reader.specs.Questions.{integers_answer, integers_left, bits_answer, patterns_left, classes_left}
use Rattle.refusal.specs.declared.Refusal.{Refusal}
use Rattle.refusal.specs.Verdicts.{Verdict}

-- an answer, or a memory
pub one_outcome : {A : Type 0} (d r s : A) → r ≡ d → s ≡ d → r ≡ s
one_outcome d r s h k = h ∙ sym k

-- a returned part: the same bytes, in the same memory, at the same place
pub one_part : {b r s : Bor (List ℕ)} {p : ℕ × ℕ} → PartOf b p r → PartOf b p s → (r.now ≡ s.now) × (r.ref_ptr.0 ≡ s.ref_ptr.0) × (r.ref_ptr.1 ≡ s.ref_ptr.1)
one_part h k = (h.bytes ∙ sym k.bytes, h.block ∙ sym k.block, h.place ∙ sym k.place)

-- the calls that are lent memory: what they answer and what they leave
pub one_start : (xs : List ℕ) (order slots : ℕ) (sheet : List ℕ) (r s : Result ℕ Refusal) (ys zs : List ℕ)
    → (r ≡ start_answer xs order slots sheet) × (ys ≡ start_left xs order slots sheet)
    → (s ≡ start_answer xs order slots sheet) × (zs ≡ start_left xs order slots sheet) → (r ≡ s) × (ys ≡ zs)
one_start xs order slots sheet r s ys zs h k = (one_outcome _ r s h.0 k.0, one_outcome _ ys zs h.1 k.1)

pub one_addition : (xs : List ℕ) (n : ℕ) (x : Trace) (r s : Result ℕ Refusal) (ys zs : List ℕ)
    → (r ≡ add_answer xs n x) × (ys ≡ add_left xs n x) → (s ≡ add_answer xs n x) × (zs ≡ add_left xs n x) → (r ≡ s) × (ys ≡ zs)
one_addition xs n x r s ys zs h k = (one_outcome _ r s h.0 k.0, one_outcome _ ys zs h.1 k.1)

pub one_number_written : (xs : List ℕ) (n : Decimal) (r s : Result ℕ Refusal) (ys zs : List ℕ) → (r ≡ numeral_answer (length xs) n) × (ys ≡ numeral_left xs n)
    → (s ≡ numeral_answer (length xs) n) × (zs ≡ numeral_left xs n) → (r ≡ s) × (ys ≡ zs)
one_number_written xs n r s ys zs h k = (one_outcome _ r s h.0 k.0, one_outcome _ ys zs h.1 k.1)

pub one_row_of_integers : (xs : List ℕ) (n : ℕ) (z : ℤ) (row : List ℤ) (r s : Verdict) (ys zs : List ℤ)
    → (r ≡ integers_answer Strict xs n z (length row)) × (ys ≡ integers_left Strict xs n z row)
    → (s ≡ integers_answer Strict xs n z (length row)) × (zs ≡ integers_left Strict xs n z row) → (r ≡ s) × (ys ≡ zs)
one_row_of_integers xs n z row r s ys zs h k = (one_outcome _ r s h.0 k.0, one_outcome _ ys zs h.1 k.1)

pub one_row_of_bits : (xs : List ℕ) (n : ℕ) (z : ℤ) (row classes : List ℕ) (r s : Verdict) (ys zs cs ds : List ℕ)
    → (r ≡ bits_answer Strict xs n z (length row) (length classes)) × (ys ≡ patterns_left Strict xs n z row classes)
    × (cs ≡ classes_left Strict xs n z row classes)
    → (s ≡ bits_answer Strict xs n z (length row) (length classes)) × (zs ≡ patterns_left Strict xs n z row classes)
    × (ds ≡ classes_left Strict xs n z row classes)
    → (r ≡ s) × (ys ≡ zs) × (cs ≡ ds)
one_row_of_bits xs n z row classes r s ys zs cs ds h k =
    (one_outcome _ r s h.0 k.0, one_outcome _ ys zs h.1 k.1, one_outcome _ cs ds h.2 k.2)
