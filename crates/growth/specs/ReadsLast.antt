-- The new trace is the last one, and every question on it is answered by what was given.
-- Assumes nothing.
use Rattle.std.specs.Prelude.{◌≡◌, List, ℕ, length, take}
use Rattle.std.proofs.Common.{arith, length-take-le}
use Rattle.head_limits.specs.declared.Purpose.TheVariants.{Read}
use Rattle.word.specs.Bytes.{Bytes}
use Rattle.word.specs.Round.{round4}
use Rattle.sheet.specs.Area.{area_size}
use Rattle.head_words.specs.HeadWords.{count_of}
use Rattle.terminators.specs.Terminators.{string_end, line_end}
use Rattle.image.specs.Accepted.{kept_ends}
use Rattle.layout.specs.Layout.{Trace}
use Rattle.append.specs.Grown.{grown}
use Rattle.writer.specs.Shown.{Added}
use Rattle.growth.specs.Frame.{lies}
use Rattle.growth.specs.Grows.{Grows, grown_grows}
use Rattle.growth.specs.Kept.{high_kept, string_end_kept, line_end_kept, count_grown, trace_at_new}
use Rattle.growth.specs.NewTrace.{stands_new}
use Rattle.growth.specs.TraceReads.{Standing, ReadsAs, reads_as}
