-- `strings::framed` meets its contract. Each answer has its law. Assumes nothing.
use mathlib.Core.Path.{sym, ◌∙◌}
use Rattle.strings.specs.Frames.{frame_short, frame_end, frame_small, frame_past, frame_open}
use Rattle.strings.proofs.Frames.{frame_none}
use Rattle.strings.specs.Frames.{frame_text}
use native.Mathlib.Omega.{arith}
use Rattle.strings.proofs.framed.Goals as goal

pub returns-then-is_cut : goal.returns-then-is_cut
returns-then-is_cut c =
    frame_short _ _ _ _ (sym c.is_cut.ensures ∙ c.if-is_cut.true)

pub returns-then-l-lt2 : goal.returns-then-l-lt2
returns-then-l-lt2 c =
    frame_none _ _ _ _ (sym c.is_cut.ensures ∙ c.if-is_cut.false) c.if-l-lt2.true

pub returns-then-o-eq0 : goal.returns-then-o-eq0
returns-then-o-eq0 c =
    frame_end _ _ _ _ _ c.word2-o.ensures.0 (omega arith) c.if-o-eq0.true

pub returns-then-o-lt3 : goal.returns-then-o-lt3
returns-then-o-lt3 c =
    frame_small _ _ _ _ _ c.word2-o.ensures.0 (omega arith) (omega arith) (omega arith)

pub returns-then-o-n : goal.returns-then-o-n
returns-then-o-n c =
    frame_small _ _ _ _ _ c.word2-o.ensures.0 (omega arith) (omega arith) (omega arith)

pub returns-then-l-o : goal.returns-then-l-o
returns-then-l-o c =
    frame_past _ _ _ _ _ c.word2-o.ensures.0 (omega arith) (omega arith) (omega arith)

pub returns-then-not-is_same : goal.returns-then-not-is_same
returns-then-not-is_same c =
    frame_open _ _ _ _ _ c.word2-o.ensures.0 (omega arith) (omega arith) (omega arith)
    (sym c.is_same.ensures ∙ c.if-not-is_same.true)

pub returns : goal.returns
returns c =
    frame_text _ _ _ _ _ c.word2-o.ensures.0 (omega arith) (omega arith) (omega arith)
    (sym c.is_same.ensures ∙ c.if-not-is_same.false)
