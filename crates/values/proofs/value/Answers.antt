-- `values::value` meets its contract. What was found lies in the buffer. Assumes nothing.
use mathlib.Core.Path.{◌∙◌}
use lib.IntN.{ℤ}
use mir.Syntax.{w32}
use Rattle.reader.specs.Reach.{find_lent, value_told, span_told}
use Rattle.reader.specs.Questions.{find_answer}
use Rattle.word.specs.Signed.{handed}
use Rattle.values.proofs.value.Goals as goal

pub value_at-requires : goal.value_at-requires
value_at-requires c =
    rw c.find.ensures (find_lent _ _ _ _ _)

pub returns : goal.returns
returns c =
    let a = c.args in let f = c.find.ensures in
    let e = handed w32 (λ (z : ℤ). find_answer a.how a.buffer.now a.n z a.key.now) a.part c.ranges.part.sfits f in
    record {
      result_value = c.value_at.ensures.result_value ∙ value_told _ _ _ _ _ _ e;
      own = span_told _ _ _ _ _ _ e c.value_at.ensures.own;
    }
