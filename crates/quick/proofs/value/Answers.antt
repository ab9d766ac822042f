-- `quick::value` meets its contract. What was found lies in the buffer. Assumes nothing.
use mathlib.Core.Path.{◌∙◌}
use lib.IntN.{ℤ}
use mir.Syntax.{w32}
use Rattle.word.specs.Signed.{handed}
use Rattle.quick.specs.Quick.{quick_find}
use Rattle.quick.specs.QuickLaws.{find_lent, value_told, span_told}
use Rattle.quick.proofs.value.Goals as goal

pub value_at-requires : goal.value_at-requires
value_at-requires c =
    rw c.find.ensures (find_lent c.args.buffer.now c.args.n _ c.args.key.now)

pub returns : goal.returns
returns c =
    let e = handed w32 (λ (z : ℤ). quick_find c.args.buffer.now c.args.n z c.args.key.now) c.args.trace
    c.ranges.trace.sfits c.find.ensures in record {
      result_value = c.value_at.ensures.result_value ∙ value_told _ _ _ _ _ e;
      own = span_told _ _ _ _ _ e c.value_at.ensures.own;
    }
