-- `values::number` meets its contract. What was found lies in the buffer. Assumes nothing.
use mathlib.Core.Path.{◌∙◌}
use lib.IntN.{ℤ}
use mir.Syntax.{w32}
use Rattle.word.specs.Signed.{handed}
use Rattle.decimal.specs.Number.{number_in}
use Rattle.reader.specs.Reach.{find_lent, value_made}
use Rattle.reader.specs.Questions.{find_answer, number_answer}
use borrow.Author.Rules.{rules}
use Rattle.values.proofs.number.Goals as goal
use Rattle.std.specs.Prelude.{Err}

pub find-requires : goal.find-requires
unfolding number_answer
find-requires c =
    search rules

pub number_of-requires : goal.number_of-requires
unfolding number_answer
number_of-requires c =
    rw c.find.ensures (find_lent _ _ _ _ _)

pub returns : goal.returns
unfolding number_answer
returns c =
    let args = c.args in
    c.number_of.ensures
    ∙ value_made _ Err number_in _ _ _ _ _
    (handed w32 (λ (z : ℤ). find_answer args.how args.buffer.now args.n z args.key.now) args.part c.ranges.part.sfits
    c.find.ensures)
