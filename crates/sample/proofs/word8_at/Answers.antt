-- `sample::word8_at` meets its contract. A word that is read low byte first and then turned is the word of the order.
-- Assumes nothing.
use Rattle.std.proofs.Common.{ap, ◌∙◌}
use Rattle.sample.specs.Turned.{turned, turned_word}
use Rattle.sample.proofs.word8_at.Goals as goal

pub returns : goal.returns
returns c =
    c.turned8.ensures ∙ ap (turned 8 _) c.word8.ensures.0 ∙ turned_word 8 _ _ _ c.requires
    (λ i. (c.type_inv.block i).fits)
