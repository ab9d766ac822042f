-- `call_lenient::check` meets its contract: the answers of the two functions below it, as they cross. Assumes nothing.
use Rattle.std.proofs.Common.{ap₂, ◌∙◌}
use Rattle.face_lenient.specs.FaceLenient.{lenient_verdict}
use Rattle.call_lenient.proofs.check.Goals as goal

pub returns : goal.returns
returns c =
    let own = c.check.ensures in
    c.verdict_beside.ensures ∙ ap₂ lenient_verdict own c.strictly-strict.ensures
