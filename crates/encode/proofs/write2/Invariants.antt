use Rattle.std.proofs.Common.{ℕ, drop}
use Rattle.encode.specs.Write.{flat, fixed_bytes}
use Rattle.row20.specs.RowLaws.{Writing}
use Rattle.encode.proofs.write2.Given as goal

abbrev pub invariant-loop-i : goal.invariant-loop-i
invariant-loop-i l =
    Writing (λ (k : ℕ). flat (fixed_bytes 4 l.high) (drop k l.fn.row)) 4 l.initial.part l.i l.part
