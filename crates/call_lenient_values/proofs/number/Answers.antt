-- `call_lenient_values::number` meets its contract: what was found lies in the buffer, and the two answers cross. Assumes
-- nothing.
use Rattle.std.proofs.Common.{ap₂, ◌∙◌}
use lib.IntN.{ℤ}
use mir.Syntax.{w32}
use Rattle.word.specs.Signed.{handed}
use Rattle.text.specs.declared.Manner.TheVariants.{Lenient}
use Rattle.decimal.specs.Number.{number_in}
use Rattle.reader.specs.Reach.{find_lent, value_made}
use Rattle.reader.specs.Questions.{find_answer, number_answer}
use Rattle.face_lenient.specs.FaceLenient.{lenient_number}
use Rattle.call_lenient_values.proofs.number.Goals as goal
use Rattle.std.specs.Prelude.{Err}

pub number_of-requires : goal.number_of-requires
unfolding number_answer
number_of-requires c =
    rw c.find.ensures (find_lent _ _ _ _ _)

pub returns : goal.returns
unfolding number_answer
returns c =
    let args = c.args in
    let own =
    c.number_of.ensures
    ∙ value_made _ Err number_in _ _ _ _ _
    (handed w32 (λ (z : ℤ). find_answer Lenient args.buffer.now args.n z args.key.now) args.part c.ranges.part.sfits
    c.find.ensures) in
    c.number_beside.ensures ∙ ap₂ lenient_number own c.strictly-strict.ensures
