-- `call_lenient::file_block` meets its contract: the answers of the two functions below it, as they cross. Assumes nothing.
use Rattle.std.proofs.Common.{ap₂, ◌∙◌}
use Rattle.face_lenient.specs.FaceLenient.{lenient_file}
use Rattle.call_lenient.proofs.file_block.Goals as goal

pub returns : goal.returns
returns c =
    let own = c.file_block.ensures in
    c.file_beside.ensures ∙ ap₂ lenient_file own c.strictly-strict.ensures
