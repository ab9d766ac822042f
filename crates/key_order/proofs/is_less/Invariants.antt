use Rattle.std.proofs.Common.{◌≡◌, drop}
use Rattle.key_order.specs.Order.{less}
use Rattle.key_order.proofs.is_less.Given as goal

abbrev pub invariant-loop-i : goal.invariant-loop-i
invariant-loop-i l = less (drop l.i l.p) (drop l.i l.k) ≡ less l.p l.k
