-- `call_lenient_values::double` meets its contract: what was found lies in the buffer, and the two answers cross. Assumes
-- nothing.
use Rattle.std.proofs.Common.{ap₂, ◌∙◌}
use lib.IntN.{ℤ}
use mir.Syntax.{w32}
use Rattle.word.specs.Signed.{handed}
use Rattle.text.specs.declared.Manner.TheVariants.{Lenient}
use Rattle.double.specs.Double.{double_of}
use Rattle.reader.specs.Reach.{find_lent, value_made}
use Rattle.reader.specs.Questions.{find_answer, double_answer}
use Rattle.face_lenient.specs.FaceLenient.{lenient_double}
use Rattle.call_lenient_values.proofs.double.Goals as goal
use Rattle.std.specs.Prelude.{Err}

pub double_of-requires : goal.double_of-requires
unfolding double_answer
double_of-requires c =
    rw c.find.ensures (find_lent _ _ _ _ _)

pub returns : goal.returns
unfolding double_answer
returns c =
    let args = c.args in
    let own =
    c.double_of.ensures
    ∙ value_made _ Err double_of _ _ _ _ _
    (handed w32 (λ (z : ℤ). find_answer Lenient args.buffer.now args.n z args.key.now) args.part c.ranges.part.sfits
    c.find.ensures) in
    c.double_beside.ensures ∙ ap₂ lenient_double own c.strictly-strict.ensures
