use Rattle.std.proofs.Common.{◌≡◌, ◌≤◌, ◌+◌, ◌-◌, length, drop}
use Rattle.text.specs.Manner.{letter}
use Rattle.chars.specs.Runs.{run}
use Rattle.key_chars.proofs.key_run.Given as goal

abbrev pub invariant-loop-i : goal.invariant-loop-i
invariant-loop-i l = (l.i ≤ length l.s) × (l.i + run (letter l.how) (drop l.i l.s) ≡ run (letter l.how) l.s)

abbrev pub decreases-loop-i : goal.decreases-loop-i
decreases-loop-i l = length l.s - l.i
