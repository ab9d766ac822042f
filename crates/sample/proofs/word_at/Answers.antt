-- `sample::word_at` meets its contract. A word that is read low byte first and then turned is the word of the order.
-- Assumes nothing.
use Rattle.std.proofs.Common.{ap, ◌∙◌}
use Rattle.sample.specs.Turned.{turned, turned_word}
use Rattle.sample.proofs.word_at.Goals as goal

pub returns : goal.returns
returns c =
    c.turned.ensures ∙ ap (turned 2 _) c.word2.ensures.0 ∙ turned_word 2 _ _ _ c.requires
    (λ i. (c.type_inv.block i).fits)
