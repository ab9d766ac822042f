-- `group20::put_back` meets its contract. Three pairs of words. Assumes nothing.
use Rattle.std.proofs.Common.{◌∙◌}
use Rattle.group20.specs.GroupLaws.{put_six}
use Rattle.group20.proofs.put_back.Goals as goal

pub returns : goal.returns
returns c =
    c.put_pair-3.ensures ∙ rw (c.put_pair-2.ensures, c.put_pair.ensures) (put_six _ _ _ _ _ _ _ _ _)
