-- `group20::put_front` meets its contract. Two pairs of words. Assumes nothing.
use Rattle.std.proofs.Common.{◌∙◌}
use Rattle.group20.specs.GroupLaws.{put_four}
use Rattle.group20.proofs.put_front.Goals as goal

pub returns : goal.returns
returns c =
    c.put_pair-2.ensures ∙ rw c.put_pair.ensures (put_four _ _ _ _ _ _ _)
