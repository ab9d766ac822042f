use Rattle.std.proofs.Common.{not, eqb}
use Rattle.row20.specs.RowLaws.{Writing, pairs_from}
use Rattle.row20.proofs.write_pairs.Given as goal

abbrev pub invariant-loop-k : goal.invariant-loop-k
invariant-loop-k g l = Writing (pairs_from (not (eqb g.row.HIGH 0)) l.row) 20 l.initial.part l.k l.part
