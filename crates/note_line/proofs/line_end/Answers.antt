-- `note_line::line_end` meets its contract. The invariant: the line from here and the bytes passed make the line. Assumes
-- nothing.
use Rattle.std.proofs.Common.{◌≡◌, sym, ◌∙◌, arith}
use Rattle.word.specs.Part.{part_rest}
use Rattle.note_line.specs.NoteLine.{line_here, line_on, line_over}
use Rattle.note_line.proofs.line_end.Goals as goal

pub returns-then-is_start : goal.returns-then-is_start
returns-then-is_start c =
    line_here _ _ _ c.loop-i-test.true ((rw part_rest at (sym c.is_start.ensures)) ∙ c.if-is_start.true) ∙
    c.loop-i.invariant.1

pub loop-i-preserved : goal.loop-i-preserved
loop-i-preserved c = (
  omega arith,
  line_on _ _ _ c.loop-i-test.true ((rw part_rest at (sym c.is_start.ensures)) ∙ c.if-is_start.false) ∙
      c.loop-i.invariant.1,
)

pub returns : goal.returns
returns c =
    let e : c.max.result ≡ c.loop-i.i = omega (arith, c.max.ensures) in
    e ∙ line_over _ _ _ c.loop-i-test.false ∙ c.loop-i.invariant.1
