-- `group20::put_word` meets its contract. A word that is turned and then written low byte first has the bytes of the
-- order. Assumes nothing.
use Rattle.std.proofs.Common.{◌∙◌}
use Rattle.sample.specs.Turned.{turned_bytes}
use Rattle.group20.proofs.put_word.Goals as goal

pub returns : goal.returns
returns c =
    c.put2.ensures ∙ rw (c.turned.ensures, turned_bytes)
