-- `call_lenient_values::location` meets its contract: what was found lies in the buffer, and the two answers cross. Assumes
-- nothing.
use Rattle.std.proofs.Common.{ap₂, ◌∙◌}
use lib.IntN.{ℤ}
use mir.Syntax.{w32}
use Rattle.word.specs.Signed.{handed}
use Rattle.text.specs.declared.Manner.TheVariants.{Lenient}
use Rattle.location.specs.Location.{location_of}
use Rattle.reader.specs.Reach.{find_lent, value_made}
use Rattle.reader.specs.Questions.{find_answer, location_answer}
use Rattle.face_lenient.specs.FaceLenient.{lenient_location}
use Rattle.call_lenient_values.proofs.location.Goals as goal
use Rattle.std.specs.Prelude.{Err}

pub location_of-requires : goal.location_of-requires
unfolding location_answer
location_of-requires c =
    rw c.find.ensures (find_lent _ _ _ _ _)

pub returns : goal.returns
unfolding location_answer
returns c =
    let args = c.args in
    let own =
    c.location_of.ensures
    ∙ value_made _ Err location_of _ _ _ _ _
    (handed w32 (λ (z : ℤ). find_answer Lenient args.buffer.now args.n z args.key.now) args.part c.ranges.part.sfits
    c.find.ensures) in
    c.location_beside.ensures ∙ ap₂ lenient_location own c.strictly-strict.ensures
