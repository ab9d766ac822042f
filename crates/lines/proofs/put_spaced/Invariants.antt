use Rattle.std.proofs.Common.{◌≡◌, ◌+◌, length, drop}
use Rattle.word.specs.Put.{put}
use Rattle.lines.specs.Lines.{spaced}
use Rattle.lines.proofs.put_spaced.Given as goal

abbrev pub invariant-loop-i : goal.invariant-loop-i
invariant-loop-i l =
    (length l.out ≡ length l.initial.out) × (put l.out (l.at + l.i) (drop l.i (spaced l.v)) ≡ put l.initial.out l.at (spaced l.v))
