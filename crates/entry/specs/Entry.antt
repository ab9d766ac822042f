-- The samples of an addition (document 01, rows 28 and 29): a code of the entry's kind, and each sample within it.
-- Assumes nothing.
use Rattle.std.specs.Prelude.{not, ◌||◌, ℕ, Err, Option, Some, None}
use Rattle.refusal.specs.declared.Rule.TheVariants.{EntryCode, SampleRange}
use Rattle.refusal.specs.declared.Part.TheVariants.{File}
use Rattle.refusal.specs.Table.{refusal}
use Rattle.refusal.specs.Rows.{pick}
use Rattle.decode.specs.Sample.{integers_asked, bits_asked}
use Rattle.layout.specs.Layout.{Samples, fitting, unfit}
use Rattle.refusal.specs.Verdicts.{Verdict, accepted}

-- "28 code not of this entry's kind, or count not a multiple of 4 under code 3 (0), 29 sample outside code 1's range,
-- of magnitude 2^30 or more under code 3, or a pattern over 32 bits under code 4 (first index)"
abbrev pub on_fit : Option ℕ → Verdict
on_fit None = accepted
on_fit (Some i) = Err (refusal SampleRange File i)

unfoldable pub samples_verdict : ℕ → Samples → Verdict
samples_verdict code s = pick (not (fitting code s)) (Err (refusal EntryCode File 0)) (on_fit (unfit code s))

-- 28 where the samples are not there yet: the code is of neither kind, or the count no multiple of 4 under code 3
unfoldable pub code_verdict : ℕ → ℕ → Verdict
code_verdict code s = pick (not (integers_asked code s || bits_asked code)) (Err (refusal EntryCode File 0)) accepted
