use Rattle.std.proofs.Common.{◌≡◌, length}
use Rattle.note.specs.Note.{lines}
use Rattle.note.proofs.walk_lines.Given as goal

abbrev pub invariant-loop-b : goal.invariant-loop-b
invariant-loop-b l =
    lines l.u 0 l.rest ≡ lines l.u 0 l.s

abbrev pub decreases-loop-b : goal.decreases-loop-b
decreases-loop-b l =
    length l.rest
