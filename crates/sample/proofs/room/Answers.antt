-- `sample::room` meets its contract. It is the needed bytes, rounded up. Assumes nothing.
use Rattle.std.proofs.Common.{◌∙◌, ap, arith}
use Rattle.word.specs.Round.{round4}
use Rattle.sample.specs.Needed.{room}
use Rattle.sample.proofs.room.Goals as goal

pub returns : goal.returns
unfolding room
returns c =
    (c.round_up.ensures ∙ ap round4 c.needed.ensures.0, omega arith)
