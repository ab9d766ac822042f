use Rattle.std.specs.Prelude.{◌≡◌, ◌-◌, ◌^◌, ◌/◌}
use Rattle.numeral_text.proofs.before_last.Given as goal

abbrev pub invariant-loop : goal.invariant-loop
invariant-loop l = l.left / 10 ^ (l.k - l.counter) ≡ l.c / 10 ^ l.k
