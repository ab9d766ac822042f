-- `quick_values::number` meets its contract. What was found lies in the buffer. Assumes nothing.
use mathlib.Core.Path.{◌∙◌}
use lib.IntN.{ℤ}
use mir.Syntax.{w32}
use Rattle.word.specs.Signed.{handed}
use Rattle.decimal.specs.Number.{number_in}
use Rattle.quick.specs.Quick.{quick_find, quick_number}
use Rattle.quick.specs.QuickLaws.{find_lent, read_told}
use borrow.Author.Rules.{rules}
use Rattle.quick_values.proofs.number.Goals as goal
use Rattle.std.specs.Prelude.{Err}

pub find-requires : goal.find-requires
unfolding quick_number
find-requires c =
    search rules

pub number_of-requires : goal.number_of-requires
unfolding quick_number
number_of-requires c =
    rw c.find.ensures (find_lent _ _ _ _)

pub returns : goal.returns
unfolding quick_number
returns c =
    let args = c.args in
    c.number_of.ensures
    ∙ read_told Err number_in _ _ _ _ _
    (handed w32 (λ (z : ℤ). quick_find args.buffer.now args.n z args.key.now) args.trace c.ranges.trace.sfits
    c.find.ensures)
