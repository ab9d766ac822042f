-- `channel::is_bad` meets its contract: a law for each answer. Assumes nothing.
use Rattle.channel.specs.Channel.{channel_none, channel_alone, channel_judged}
use Rattle.channel.proofs.is_bad.Goals as goal

pub returns-then-not-has : goal.returns-then-not-has
returns-then-not-has c =
    channel_none _ _ _ c.if-not-has.true

pub returns-then-not-with : goal.returns-then-not-with
returns-then-not-with c =
    channel_alone _ _ _ c.if-not-has.false c.if-not-with.true

pub returns : goal.returns
returns c =
    rw c.count.ensures (channel_judged _ _ _ c.if-not-has.false c.if-not-with.false)
