-- All strings of a part in one row: a law for each answer, with what the code has in hand.
-- Assumes nothing.
use Rattle.std.specs.Prelude.{◌≡◌, Bool, true, false, not, List, [], ℕ, ◌+◌, ◌*◌, ◌/◌, ◌≤◌, ℤ, length, take, eqb, Result, Ok, Err}
use Rattle.std.proofs.Math.Path.{refl, sym, ap}
use Rattle.std.proofs.Common.{◌∙◌, arith, eq-eqb, ne_eqb}
use Rattle.word.specs.Part.{part}
use Rattle.refusal.specs.declared.Refusal.{Refusal}
use Rattle.refusal.specs.declared.Rule.TheVariants.{RowLength}
use Rattle.text.specs.declared.Manner.{Manner}
use Rattle.strings.specs.Strings.{places_of}
use Rattle.places.specs.Numbers.{numbers_of}
use Rattle.head_words.specs.HeadWords.{high_first}
use Rattle.head.specs.Head.{refused}
use Rattle.terminators.specs.Terminators.{string_end}
use Rattle.reader.specs.Questions.{places_in, count_answer, strings_verdict, strings_answer, numbers_in, strings_left, kept}
use Rattle.reader.specs.Leaves.{opened_of, count_opened, count_bad}
use Rattle.reader.specs.Reach.{reached}
use Rattle.refusal.specs.Verdicts.{Verdict, accepted}

-- row 32 of c strings and a row of s numbers
unfoldable pub row_verdict : ℕ → ℕ → Verdict
row_verdict c s = strings_verdict (Ok c) s

pub row_good : (c s : ℕ) → s ≡ 4 * c → row_verdict c s ≡ accepted
unfolding row_verdict
row_good c s e = rw (eq-eqb s (4 * c) e)

pub row_bad : (c s : ℕ) → (s ≡ 4 * c → ⊥) → row_verdict c s ≡ refused RowLength 0
unfolding row_verdict
row_bad c s n = rw (ne_eqb s (4 * c) n)

-- ---- the whole
module _ (how : Manner) (xs : List ℕ) (n : ℕ) (z : ℤ) (row : List ℕ) where
  pub strings_bad : (r : Refusal) → opened_of how xs n z ≡ Err r
      → (Err r ≡ strings_answer how xs n z (length row)) × (row ≡ strings_left how xs n z row)
  unfolding strings_answer strings_left
  strings_bad r o = let c = sym (count_bad how xs n z r o) in (rw c, rw c)

  module _ (a e : ℕ) (o : opened_of how xs n z ≡ Ok (a, e)) (c : ℕ) (s : c ≡ length (places_in how (take n xs) a e)) where
    counted : Ok c ≡ count_answer how xs n z
    counted = rw (← count_opened how xs n z, o, s)

    pub strings_told : (v : Verdict) → v ≡ row_verdict c (length row) → v ≡ strings_answer how xs n z (length row)
    unfolding strings_answer row_verdict
    strings_told v w = w ∙ ap (λ (q : Result ℕ Refusal). strings_verdict q (length row)) counted

    pub strings_left_lem : (new : List ℕ) → new ≡ kept (row_verdict c (length row)) (numbers_of (places_in how (take n xs) a e)) row
        → new ≡ strings_left how xs n z row
    unfolding strings_left numbers_in
    strings_left_lem new w = w ∙ rw (strings_told (row_verdict c (length row)) refl, (reached how xs n z a e o).area)
