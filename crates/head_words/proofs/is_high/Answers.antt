-- `head_words::is_high` meets its contract. Assumes nothing.
use Rattle.std.specs.Prelude.{refl}
use Rattle.head_words.specs.HeadWords.{high_first}
use Rattle.head_words.proofs.is_high.Goals as goal

pub returns : goal.returns
unfolding high_first
returns c =
    refl
