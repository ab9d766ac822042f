-- Theorems on what specs/StillKeeps defines. They stand here, as a wrong definition there is to be refused and not to be unread.
-- Assumes nothing.
use Rattle.std.specs.Prelude.{◌≡◌, List, ℕ, take}
use Rattle.head_limits.specs.declared.Purpose.{Purpose}
use Rattle.head_limits.specs.declared.Purpose.TheVariants.{Read}
use Rattle.text.specs.declared.Manner.TheVariants.{Strict}
use Rattle.word.specs.Bytes.{Bytes}
use Rattle.image.specs.Image.{check_of}
use Rattle.image.specs.Keeps.{Keeps}
use Rattle.image.proofs.Accepted.{keeps_accepted}
use Rattle.layout.specs.Layout.{Trace}
use Rattle.append.specs.Grown.{grown}
use Rattle.writer.specs.Shown.{Added}
use Rattle.growth.specs.Frame.{length_grown}
use Rattle.growth.specs.Grows.{grown_grows}
use Rattle.growth.specs.StillKeeps.{grows_keeps, keeps_any}
use Rattle.refusal.specs.Verdicts.{accepted}

pub grown_kept : {xs : List ℕ} {n : ℕ} {x : Trace} {end : ℕ} → Bytes xs → Added xs n x end → Keeps Strict Read (take end (grown xs n x))
grown_kept by h = grows_keeps (grown_grows by h)

-- so the reader accepts it, and the next addition
pub grown_accepted : (purpose : Purpose) {xs : List ℕ} {n : ℕ} {x : Trace} {end : ℕ} → Bytes xs → Added xs n x end
    → check_of Strict purpose (grown xs n x) end ≡ accepted
grown_accepted purpose {xs} {n} {x} {end} by h =
    keeps_accepted Strict purpose (grown xs n x) end (rw (length_grown h) h.in_buffer) (keeps_any purpose (grown_kept by h))
