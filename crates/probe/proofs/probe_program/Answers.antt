-- `probe::probe_program` meets its contract: the answer as a number. Assumes nothing.
use Rattle.std.proofs.Common.{ap, ◌∙◌}
use Rattle.probe.specs.Listed.{length_told}
use Rattle.probe.proofs.probe_program.Goals as goal

pub returns : goal.returns
returns c =
    record { answer = c.told.ensures ∙ ap length_told c.program.ensures.answer; left = c.program.ensures.left }
