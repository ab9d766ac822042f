-- Theorems on what specs/AllBytes defines. They stand here, as a wrong definition there is to be refused and not to be unread.
-- Assumes nothing.
use Rattle.std.specs.Prelude.{List, ℕ, ◌-◌, replicate}
use Rattle.word.specs.Bytes.{Bytes, bytes_append}
use Rattle.word.specs.Round.{round4}
use Rattle.sheet.specs.Area.{area_size}
use Rattle.head_words.specs.HeadWords.{high_first}
use Rattle.terminators.specs.Terminators.{string_end, line_end}
use Rattle.layout.specs.Layout.{Trace}
use Rattle.layout.specs.Layout.{trace_bytes}
use Rattle.append.specs.Grown.{new_bytes, grown}
use Rattle.writer.specs.Shown.{Added}
use Rattle.growth.specs.Frame.{grown_bytes}
use Rattle.growth.specs.Grows.{Grows, grown_grows}
use Rattle.growth.specs.Ends.{keeps_terminators}
use Rattle.growth.specs.AllBytes.{trace_bytes_lem, zeros_bytes}

-- ---- the buffer after an addition, and after a start

new_bytes_lem : {f g : List ℕ} {x : Trace} (n : ℕ) → Grows f g x → Bytes (new_bytes f n x)
unfolding new_bytes
new_bytes_lem {f} {g} {x} n w =
    bytes_append (replicate (round4 n - n) 0) (trace_bytes (high_first f) (string_end f) (line_end f) x) (zeros_bytes (round4 n - n))
    (trace_bytes_lem (high_first f) (string_end f) (line_end f) x (area_size (string_end f) (line_end f) x.sheet) (keeps_terminators w.old) w.sized w.kind)

pub grown_are_bytes : {xs : List ℕ} {n : ℕ} {x : Trace} {end : ℕ} → Bytes xs → Added xs n x end → Bytes (grown xs n x)
grown_are_bytes {xs} {n} {x} {end} by h = grown_bytes h by (new_bytes_lem n (grown_grows by h))
