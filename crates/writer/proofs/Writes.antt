-- Theorems on what specs/Writes defines. They stand here, as a wrong definition there is to be refused and not to be unread.
-- Assumes nothing.
use Rattle.std.specs.Prelude.{◌≡◌, List, ℕ, length, Result, Ok}
use Rattle.std.proofs.Common.{sym, ◌∙◌}
use Rattle.layout.specs.Layout.{Trace, count}
use Rattle.append.specs.Grown.{grown}
use Rattle.entry.specs.Entry.{samples_verdict}
use Rattle.writer.specs.Answers.{add_into, add_answer, add_left}
use Rattle.writer.specs.Shown.{add_left_lem}
use Rattle.writer.specs.Writes.{answer}
use Rattle.refusal.specs.declared.Refusal.{Refusal}
use Rattle.refusal.specs.Verdicts.{Verdict}

module _ (xs : List ℕ) (n : ℕ) (x : Trace) {fit : Verdict} {w : Result ℕ Refusal} (e : fit ≡ samples_verdict x.code x.samples)
    (h : w ≡ add_into (length xs) xs n x.sheet x.code (count x.samples) fit) where
  pub grown_left : {end : ℕ} {ys : List ℕ} → w ≡ Ok end → ys ≡ grown xs n x → (Ok end ≡ add_answer xs n x) × (ys ≡ add_left xs n x)
  grown_left {end} g l = (sym g ∙ (answer xs n x e h), l ∙ sym (add_left_lem xs n x end (sym (answer xs n x e h) ∙ g)))
