use Rattle.std.specs.Prelude.{◌≤◌, length}
use Rattle.digits.specs.Digits.{digits}
use Rattle.digits.specs.LastDigits.{Counting}
use Rattle.digits.proofs.digit_count.Given as goal

abbrev pub invariant-loop-left : goal.invariant-loop-left
invariant-loop-left l =
    Counting l.n l.left l.k × (length (digits l.n) ≤ 20)

abbrev pub decreases-loop-left : goal.decreases-loop-left
decreases-loop-left l =
    l.left
