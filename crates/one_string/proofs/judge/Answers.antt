-- `one_string::judge` meets its contract. Each answer has its law. Assumes nothing.
use mathlib.Core.Path.{sym, ◌∙◌}
use lib.Seq.{length-take-le}
use Rattle.word.specs.Part.{part_rest}
use Rattle.strings.specs.Texts.{judged_none, judged_char, judged_value, judged_order, judged_good}
use native.Mathlib.Omega.{arith}
use Rattle.one_string.proofs.judge.Goals as goal

pub returns-then-n-eq0 : goal.returns-then-n-eq0
returns-then-n-eq0 c =
    judged_none _ _ _ _ _ c.key_run-n.ensures.0 c.if-n-eq0.true

pub returns-then-g-r : goal.returns-then-g-r
returns-then-g-r c =
    judged_char _ _ _ _ _ c.key_run-n.ensures.0 _ (rw part_rest at c.run-g.ensures.0) (rw part_rest at c.if-g-r.true)

pub slice_bounds-k-end : goal.slice_bounds-k-end
slice_bounds-k-end c =
    sym (length-take-le _ _ c.key_run-n.ensures.1)

pub returns-then-not-is_value : goal.returns-then-not-is_value
returns-then-not-is_value c =
    judged_value _ _ _ _ _ c.key_run-n.ensures.0 _ (rw part_rest at c.run-g.ensures.0) (omega arith) (rw part_rest at
    c.if-g-r.false) ((rw (part_rest, part_rest) at (sym c.is_value.ensures)) ∙ c.if-not-is_value.true)

pub returns-then-not-rising : goal.returns-then-not-rising
returns-then-not-rising c =
    judged_order _ _ _ _ _ c.key_run-n.ensures.0 _ (rw part_rest at c.run-g.ensures.0) (omega arith) (rw part_rest at
    c.if-g-r.false) ((rw (part_rest, part_rest) at (sym c.is_value.ensures)) ∙ c.if-not-is_value.false) (sym
    c.rising.ensures ∙ c.if-not-rising.true)

pub returns : goal.returns
returns c =
    judged_good _ _ _ _ _ c.key_run-n.ensures.0 _ (rw part_rest at c.run-g.ensures.0) (omega arith) (rw part_rest at
    c.if-g-r.false) ((rw (part_rest, part_rest) at (sym c.is_value.ensures)) ∙ c.if-not-is_value.false) (sym
    c.rising.ensures ∙ c.if-not-rising.false)
