use Rattle.std.proofs.Common.{◌≡◌, ◌&&◌, false, drop}
use Rattle.note_bytes.specs.NoteBytes.{paired}
use Rattle.note_bytes.proofs.all_value_pairs.Given as goal

abbrev pub invariant-loop-c : goal.invariant-loop-c
invariant-loop-c l =
    (l.ok && paired l.a l.b l.behind (drop l.c-index l.s)) ≡ paired l.a l.b false l.s
