use Rattle.std.proofs.Common.{◌≡◌, ◌-◌, length, drop}
use Rattle.digits.specs.Value.{value, Room}
use Rattle.digits.proofs.value.Given as goal

abbrev pub invariant-loop-b : goal.invariant-loop-b
invariant-loop-b l =
    (value l.w (drop l.b-index l.s) ≡ value l.v l.s) × Room l.w (length l.s - l.b-index)
