-- Images that are alike where it counts (Images) get the same answer from the check and from every question: refusals,
-- places, strings, numbers and samples.
-- Assumes nothing.
use Rattle.std.specs.Prelude.{◌≡◌, List, ℕ, ◌<◌}
use Rattle.head_limits.specs.declared.Purpose.TheVariants.{Read}
use Rattle.text.specs.declared.Manner.TheVariants.{Strict}
use Rattle.refusal.specs.Verdicts.{accepted}
use Rattle.word.specs.Part.{part}
use Rattle.head_words.specs.HeadWords.{high_first, count_of}
use Rattle.block.specs.Block.{data_at, end_at}
use Rattle.image.specs.Image.{check_of}
use Rattle.image.specs.Keeps.{trace_at}
use Rattle.ignored.specs.Images.{Alike}

module _ {f g : List ℕ} (a : Alike f g) where
  -- ---- in an accepted image there is a trace, so the file's strings end at its pointer
  module _ (ok : Rattle.image.specs.Image.image_of Strict Read f ≡ accepted) where
    module _ (k : ℕ) (low : k < count_of f) where
      abbrev pub block : List ℕ
      block = part (data_at (high_first f) f (trace_at f k)) (end_at (high_first f) f (trace_at f k)) g
