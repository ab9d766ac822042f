-- What rows 28 and 29 have shown, and how the code tests them.
-- Assumes nothing.
use Rattle.std.specs.Prelude.{◌≡◌, refl, Bool, true, false, not, ◌&&◌, ◌||◌, ℕ, zero, suc, ◌%◌, ◌≤◌, length, eqb, Err, Option, Some, None}
use Rattle.std.proofs.Common.{sym, ◌∙◌, arith, ne_eqb}
use Rattle.std.proofs.lemmas.Bool.{not-false}
use Rattle.refusal.specs.declared.Refusal.{Refusal}
use Rattle.refusal.specs.declared.Rule.TheVariants.{EntryCode}
use Rattle.refusal.specs.declared.Part.TheVariants.{File}
use Rattle.refusal.specs.Table.{refusal}
use Rattle.refusal.specs.Rows.{pick}
use Rattle.refusal.specs.Verdicts.{refused_not, accepted}
use Rattle.decode.specs.Sample.{integers_asked, bits_asked}
use Rattle.head.specs.Head.{refused}
use Rattle.layout.specs.Layout.{Samples, integers, patterns, count, fitting, unfit}
use Rattle.layout.specs.LayoutLaws.{Kinded, kinded, integers_kinded, bits_kinded}
use Rattle.entry.specs.Entry.{on_fit, samples_verdict, code_verdict}
use Rattle.refusal.specs.Verdicts.{Verdict}

-- ---- what is accepted

from_kind : (w : Bool) (r : Refusal) (v : Verdict) → pick w (Err r) v ≡ accepted → (w ≡ false) × (v ≡ accepted)
from_kind true r v e = absurd (refused_not r e)
from_kind false r v e = (refl, e)

from_fit : (x : Option ℕ) → on_fit x ≡ accepted → x ≡ None
from_fit None e = refl
from_fit (Some i) e = absurd (refused_not _ e)

pub samples_fit : (code : ℕ) (x : Samples) → samples_verdict code x ≡ accepted → (fitting code x ≡ true) × (unfit code x ≡ None)
unfolding samples_verdict
samples_fit code x e =
    let k = from_kind (not (fitting code x)) (refusal EntryCode File 0) (on_fit (unfit code x)) e in
    (not-false (fitting code x) k.0, from_fit (unfit code x) k.1)

-- ---- rows 28 and 29 as the code tests them

pub of_integers_lem : (code s : ℕ) → ((eqb code 1 || eqb code 2) || (eqb code 3 && eqb (s % 4) 0)) ≡ integers_asked code s
of_integers_lem zero s = refl
of_integers_lem (suc zero) s = refl
of_integers_lem (suc (suc zero)) s = refl
of_integers_lem (suc (suc (suc zero))) s = refl
of_integers_lem (suc (suc (suc (suc zero)))) s = refl
of_integers_lem (suc (suc (suc (suc (suc zero))))) s = refl
of_integers_lem (suc (suc (suc (suc (suc (suc c)))))) s =
    let k : ℕ = suc (suc (suc (suc (suc (suc c))))) in
    rw (ne_eqb k 1 (λ e. omega arith), ne_eqb k 2 (λ e. omega arith), ne_eqb k 3 (λ e. omega arith))

pub of_bits_lem : (code : ℕ) → (eqb code 4 || eqb code 5) ≡ bits_asked code
of_bits_lem zero = refl
of_bits_lem (suc zero) = refl
of_bits_lem (suc (suc zero)) = refl
of_bits_lem (suc (suc (suc zero))) = refl
of_bits_lem (suc (suc (suc (suc zero)))) = refl
of_bits_lem (suc (suc (suc (suc (suc zero))))) = refl
of_bits_lem (suc (suc (suc (suc (suc (suc c)))))) =
    let k : ℕ = suc (suc (suc (suc (suc (suc c))))) in
    rw (ne_eqb k 4 (λ e. omega arith), ne_eqb k 5 (λ e. omega arith))

module _ (code : ℕ) (samples : Samples) {asked : Bool} (e : asked ≡ fitting code samples) where
  pub of_kind : {fit : Option ℕ} {v : Verdict} → asked ≡ true → fit ≡ unfit code samples → v ≡ on_fit fit → v ≡ samples_verdict code samples
  unfolding samples_verdict
  of_kind h f v = v ∙ rw (← e, h, f)

  pub of_other : {v : Verdict} → asked ≡ false → v ≡ refused EntryCode 0 → v ≡ samples_verdict code samples
  unfolding samples_verdict
  of_other h v = v ∙ rw (← e, h)

  pub code_most : asked ≡ true → code ≤ 5
  code_most h = (kinded code samples (sym e ∙ h)).most

-- so where they are accepted the code is one of the five
pub judged : {code : ℕ} (samples : Samples) {v : Verdict} → v ≡ samples_verdict code samples → v ≡ accepted → Kinded code (count samples)
judged {code} samples e h = kinded code samples (samples_fit code samples (sym e ∙ h)).0

-- ---- the code alone

-- where it is accepted it is one of the five, with a count that it can have
pub coded : (code s : ℕ) → code_verdict code s ≡ accepted → Kinded code s
unfolding code_verdict
coded code s e = go (integers_asked code s) (bits_asked code) refl refl e
  where
    go : (a b : Bool) → integers_asked code s ≡ a → bits_asked code ≡ b
        → pick (not (a || b)) (Err (refusal EntryCode File 0)) accepted ≡ accepted → Kinded code s
    go true b h k e = (integers_kinded code s h).0
    go false true h k e = (bits_kinded code s k).0
    go false false h k e = absurd (refused_not _ e)

-- samples that are accepted have an accepted code
pub code_of_samples : (code : ℕ) (x : Samples) → samples_verdict code x ≡ accepted → code_verdict code (count x) ≡ accepted
unfolding code_verdict fitting count
code_of_samples code (integers row) e = rw (samples_fit code (integers row) e).0
code_of_samples code (patterns row) e = let b = (samples_fit code (patterns row) e).0 in go (integers_asked code (length row))
  where
    go : (a : Bool) → pick (not (a || bits_asked code)) (Err (refusal EntryCode File 0)) accepted ≡ accepted
    go true = refl
    go false = rw (samples_fit code (patterns row) e).0

-- and a code that is refused is refused with every row of samples of that count
neither_kind : (a b : Bool) (r : Refusal) → pick (not (a || b)) (Err (refusal EntryCode File 0)) accepted ≡ Err r
    → (a ≡ false) × (b ≡ false) × ◌≡◌ {A = Verdict} (Err (refusal EntryCode File 0)) (Err r)
neither_kind true b r e = absurd (refused_not r (sym e))
neither_kind false true r e = absurd (refused_not r (sym e))
neither_kind false false r e = (refl, refl, e)

pub code_refused : (code : ℕ) (x : Samples) (r : Refusal) → code_verdict code (count x) ≡ Err r → samples_verdict code x ≡ Err r
unfolding code_verdict samples_verdict fitting count
code_refused code (integers row) r e = let n = neither_kind (integers_asked code (length row)) (bits_asked code) r e in rw n.0 n.2
code_refused code (patterns row) r e = let n = neither_kind (integers_asked code (length row)) (bits_asked code) r e in rw n.1 n.2
