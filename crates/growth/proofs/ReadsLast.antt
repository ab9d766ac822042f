-- Theorems on what specs/ReadsLast defines. They stand here, as a wrong definition there is to be refused and not to be unread.
-- Assumes nothing.
use Rattle.std.specs.Prelude.{◌≡◌, List, ℕ, length, take}
use Rattle.std.proofs.Common.{arith, length-take-le}
use Rattle.head_limits.specs.declared.Purpose.TheVariants.{Read}
use Rattle.word.specs.Bytes.{Bytes}
use Rattle.word.specs.Round.{round4}
use Rattle.sheet.specs.Area.{area_size}
use Rattle.head_words.specs.HeadWords.{count_of}
use Rattle.terminators.specs.Terminators.{string_end, line_end}
use Rattle.image.specs.Accepted.{kept_ends}
use Rattle.layout.specs.Layout.{Trace}
use Rattle.append.specs.Grown.{grown}
use Rattle.writer.specs.Shown.{Added}
use Rattle.growth.specs.Frame.{lies}
use Rattle.growth.specs.Grows.{Grows, grown_grows}
use Rattle.growth.specs.Kept.{high_kept, string_end_kept, line_end_kept, count_grown, trace_at_new}
use Rattle.growth.specs.NewTrace.{stands_new}
use Rattle.growth.proofs.StillKeeps.{grown_accepted}
use Rattle.growth.specs.TraceReads.{Standing, ReadsAs, reads_as}

last_standing : {f g : List ℕ} {x : Trace} → Grows f g x → Standing g (count_of f) (round4 (length f)) x
last_standing {f} {g} {x} w =
    record {
      low = omega (arith, count_grown w);
      pointer = trace_at_new w;
      stands = rw (high_kept w, string_end_kept w, line_end_kept w) (stands_new w);
      size = area_size (string_end f) (line_end f) x.sheet;
      sized = rw (string_end_kept w, line_end_kept w) w.sized;
      ends = rw (line_end_kept w) (kept_ends w.old);
      kind = w.kind;
      held = w.held;
    }

pub reads_last : {xs : List ℕ} {n : ℕ} {x : Trace} {end : ℕ} → Bytes xs → Added xs n x end → ReadsAs (grown xs n x) end (count_of (take n xs)) (round4 n) x
reads_last {xs} {n} {x} {end} by h =
    let l : length (take n xs) ≡ n = length-take-le n xs (lies h).in_buffer in
    reads_as (grown_accepted Read by h) (rw l at (last_standing (grown_grows by h)))
