use Rattle.std.proofs.Common.{◌-◌, length}
use Rattle.channel.specs.Channel.{channel_number}
use Rattle.channel_line.specs.Finding.{Walked}
use Rattle.channel_line.proofs.find.Given as goal

abbrev pub invariant-loop-at : goal.invariant-loop-at
invariant-loop-at l =
    Walked channel_number l.sheet l.at

abbrev pub decreases-loop-at : goal.decreases-loop-at
decreases-loop-at l =
    length l.sheet - l.at
