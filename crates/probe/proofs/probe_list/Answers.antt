-- `probe::probe_list` meets its contract: the answer as a number. Assumes nothing.
use Rattle.std.proofs.Common.{ap, ◌∙◌}
use Rattle.probe.specs.Listed.{length_told}
use Rattle.probe.proofs.probe_list.Goals as goal

pub returns : goal.returns
returns c =
    record { answer = c.told.ensures ∙ ap length_told c.list.ensures.answer; left = c.list.ensures.left }
