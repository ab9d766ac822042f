-- `opening::is_wrong_channel` meets its contract: the first sheet is free, a later one is as trace 0. Assumes nothing.
use Rattle.opening.specs.OpeningLaws.{wrong_first, wrong_later, some_there}
use Rattle.opening.proofs.is_wrong_channel.Goals as goal

pub returns-then-first : goal.returns-then-first
returns-then-first c =
    wrong_first _ _ c.requires.1 c.if-first.true c.is_bad.ensures

pub has_channel-requires : goal.has_channel-requires
has_channel-requires c =
    (c.requires.0, some_there _ c.requires.1 c.if-first.false, c.requires.2)

pub returns : goal.returns
returns c =
    wrong_later _ _ c.requires.1 c.if-first.false c.has_channel.ensures c.is_bad-2.ensures
