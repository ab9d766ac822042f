use Rattle.std.proofs.Common.{◌+◌, ◌≤◌, length}
use Rattle.digits.specs.LastDigits.{StoringLast}
use Rattle.digits.proofs.put_last.Given as goal

abbrev pub invariant-loop-i : goal.invariant-loop-i
invariant-loop-i l =
    (l.at + l.k ≤ length l.out) × StoringLast l.initial.out l.at l.c l.k l.out l.left l.i
