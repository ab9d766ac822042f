-- `append::grow_bits` meets its contract. What is begun, the samples and the registered trace are the grown buffer.
-- Assumes nothing.
use Rattle.std.proofs.Common.{◌∙◌}
use Rattle.layout.specs.Layout.{patterns, count}
use Rattle.append.specs.GrownLaws.{samples_room}
use Rattle.append.proofs.GrownLaws.{still_slotted, grown_put}
use Rattle.append.proofs.grow_bits.Goals as goal

pub put_bits-requires : goal.put_bits-requires
unfolding count
put_bits-requires c =
    (samples_room (patterns c.args.row.now) c.requires.0 c.begin-b.ensures.left c.begin-b.ensures.place, c.requires.1)

pub register-requires : goal.register-requires
unfolding count
register-requires c =
    still_slotted (patterns c.args.row.now) c.requires.0 c.begin-b.ensures.left c.begin-b.ensures.place
    c.put_bits.ensures

pub returns : goal.returns
unfolding count
returns c =
    c.register.ensures ∙ grown_put _ c.requires.0 c.begin-b.ensures.left
    c.begin-b.ensures.place c.put_bits.ensures
