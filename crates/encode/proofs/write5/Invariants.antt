use Rattle.std.proofs.Common.{ℕ, drop}
use Rattle.word.specs.Word.{bytes_of}
use Rattle.encode.specs.Write.{flat}
use Rattle.row20.specs.RowLaws.{Writing}
use Rattle.encode.proofs.write5.Given as goal

abbrev pub invariant-loop-i : goal.invariant-loop-i
invariant-loop-i l =
    Writing (λ (k : ℕ). flat (bytes_of 8 l.high) (drop k l.fn.row)) 8 l.initial.part l.i l.part
