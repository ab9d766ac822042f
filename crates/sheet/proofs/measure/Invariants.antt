use Rattle.std.proofs.Common.{◌+◌, ◌-◌, ◌≤◌, length}
use Rattle.sheet.specs.Counting.{Counted}
use Rattle.sheet.specs.Area.{area_most}
use Rattle.sheet.proofs.measure.Given as goal

abbrev pub invariant-loop-at : goal.invariant-loop-at
invariant-loop-at l =
    (l.at ≤ length l.sheet) × (l.k ≤ l.g) × (l.g ≤ length l.sheet)
    × (l.n ≤ (area_most + 1)) × Counted l.t l.u l.sheet l.at l.k l.g l.n

abbrev pub decreases-loop-at : goal.decreases-loop-at
decreases-loop-at l =
    length l.sheet - l.at
