-- Theorems on what specs/WriterRows defines. They stand here, as a wrong definition there is to be refused and not to be unread.
-- Assumes nothing.
use Rattle.std.specs.Prelude.{◌≡◌, Bool, true, false, not, cond, List, [], ◌∷◌, ℕ, ◌+◌, length, take, Ok, Err, Some}
use Rattle.std.proofs.Common.{sym, ◌∙◌}
use Rattle.refusal.specs.Verdicts.{asked}
use Rattle.refusal.specs.declared.Rule.TheVariants.{EntryCode, SampleRange}
use Rattle.refusal.specs.declared.Part.TheVariants.{File}
use Rattle.fit.specs.Unfit.{first_from, unfit_integer, unfit_pattern, unfit_integers, unfit_patterns}
use Rattle.layout.specs.Layout.{Trace, Samples, Samples.integers, Samples.patterns, fitting, count, unfit}
use Rattle.append.specs.Grown.{new_length}
use Rattle.entry.specs.Entry.{on_fit, samples_verdict}
use Rattle.writer.specs.Answers.{add_answer}
use Rattle.refusal.specs.FirstRow.{row, first_of, first_nothing, first_row_lem}
use Rattle.demands_rows.specs.WriterRows.{add_rows, given_rows, into_answers_first, sample_rows, unfit_rows}

samples_first : {A : Type 0} (bad : A → Bool) (i : ℕ) (zs : List A) → on_fit (first_from bad i zs) ≡ first_of (sample_rows bad i zs)
unfolding first_from sample_rows
samples_first bad i [] = sym first_nothing
samples_first bad i (z ∷ zs) = go (bad z) (samples_first bad (i + 1) zs)
  where
    go : (w : Bool) → on_fit (first_from bad (i + 1) zs) ≡ first_of (sample_rows bad (i + 1) zs)
        → on_fit (cond w (Some i) (first_from bad (i + 1) zs))
        ≡ first_of (row w SampleRange File i ∷ sample_rows bad (i + 1) zs)
    go true h = sym (first_row_lem true SampleRange File i (sample_rows bad (i + 1) zs))
    go false h = h ∙ sym (first_row_lem false SampleRange File i (sample_rows bad (i + 1) zs))

unfit_first : (code : ℕ) (s : Samples) → on_fit (unfit code s) ≡ first_of (unfit_rows code s)
unfolding unfit unfit_rows unfit_integers unfit_patterns
unfit_first code (integers zs) = samples_first (unfit_integer code) 0 zs
unfit_first code (patterns zs) = samples_first (unfit_pattern code) 0 zs

given_first : (code : ℕ) (s : Samples) → samples_verdict code s ≡ first_of (given_rows code s)
unfolding samples_verdict
given_first code s = rw (unfit_first code s) (sym (first_row_lem (not (fitting code s)) EntryCode File 0 (unfit_rows code s)))

-- Rules out an addition that skips a row, takes them in another order, refuses what no row refuses, or answers another
-- length.
pub addition_answers_first : (xs : List ℕ) (n : ℕ) (x : Trace)
    → add_answer xs n x ≡ asked Err (first_of (add_rows xs n x)) (Ok (new_length (take n xs) n x))
unfolding add_answer new_length
addition_answers_first xs n x =
    into_answers_first (length xs) xs n x.sheet x.code (count x.samples) (samples_verdict x.code x.samples) (given_rows x.code x.samples)
    (given_first x.code x.samples)
