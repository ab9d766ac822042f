use Rattle.std.proofs.Common.{◌≡◌, ◌≤◌, ◌+◌, max, length, drop}
use Rattle.note_line.specs.NoteLine.{line_len}
use Rattle.note_line.proofs.line_end.Given as goal

abbrev pub invariant-loop-i : goal.invariant-loop-i
invariant-loop-i l =
    (l.i ≤ max l.from (length l.v)) × (l.i + line_len l.u (drop l.i l.v) ≡ l.from + line_len l.u (drop l.from l.v))
