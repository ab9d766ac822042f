-- `encode::put_word8` meets its contract. A word that is turned and then written low byte first has the bytes of the
-- order. Assumes nothing.
use Rattle.std.proofs.Common.{◌∙◌}
use Rattle.sample.specs.Turned.{turned_bytes}
use Rattle.encode.proofs.put_word8.Goals as goal

pub returns : goal.returns
returns c =
    c.put8.ensures ∙ rw (c.turned8.ensures, turned_bytes)
