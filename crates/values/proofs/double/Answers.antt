-- `values::double` meets its contract. What was found lies in the buffer. Assumes nothing.
use mathlib.Core.Path.{◌∙◌}
use lib.IntN.{ℤ}
use mir.Syntax.{w32}
use Rattle.word.specs.Signed.{handed}
use Rattle.double.specs.Double.{double_of}
use Rattle.reader.specs.Reach.{find_lent, value_made}
use Rattle.reader.specs.Questions.{find_answer, double_answer}
use borrow.Author.Rules.{rules}
use Rattle.values.proofs.double.Goals as goal
use Rattle.std.specs.Prelude.{Err}

pub find-requires : goal.find-requires
unfolding double_answer
find-requires c =
    search rules

pub double_of-requires : goal.double_of-requires
unfolding double_answer
double_of-requires c =
    rw c.find.ensures (find_lent _ _ _ _ _)

pub returns : goal.returns
unfolding double_answer
returns c =
    let args = c.args in
    c.double_of.ensures
    ∙ value_made _ Err double_of _ _ _ _ _
    (handed w32 (λ (z : ℤ). find_answer args.how args.buffer.now args.n z args.key.now) args.part c.ranges.part.sfits
    c.find.ensures)
