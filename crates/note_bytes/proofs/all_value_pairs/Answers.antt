-- `note_bytes::all_value_pairs` meets its contract. The invariant: what was found before, and what is left behind the byte
-- passed last, is the answer.
-- Assumes nothing.
use Rattle.std.proofs.Common.{◌∙◌}
use Rattle.note_bytes.specs.NoteBytes.{paired_turn, paired_through}
use Rattle.note_bytes.proofs.all_value_pairs.Goals as goal

pub loop-c-preserved : goal.loop-c-preserved
loop-c-preserved c =
    let a = c.args in
    let t = c.loop-c in
    let k = paired_turn a.a a.b a.s.now t.c-index t.ok t.behind c.loop-c-test.true in
    rw c.is.ensures k ∙ t.invariant

pub returns : goal.returns
returns c =
    let a = c.args in
    let t = c.loop-c in
    paired_through a.a a.b a.s.now t.c-index t.ok t.behind c.loop-c-test.false ∙ t.invariant
