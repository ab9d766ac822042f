-- `reader::whose_in` meets its contract. N is the word at 6, in the order of the file. Assumes nothing.
use mathlib.Core.Path.{◌∙◌}
use lib.IntN.{ℤ}
use mir.Syntax.{w32}
use Rattle.head_words.specs.HeadWords.{count_read}
use Rattle.head_words.specs.HeadWords.{count_of}
use Rattle.part_number.specs.PartNumber.{whose_of}
use Rattle.word.specs.Signed.{handed}
use Rattle.reader.proofs.whose_in.Goals as goal

pub returns : goal.returns
returns c =
    let args = c.args in
    handed w32 (λ (z : ℤ). whose_of z (count_of args.f.now)) args.part c.ranges.part.sfits
    (c.named.ensures ∙ rw (count_read _ _ c.is_high.ensures _ c.word2-n.ensures.0))
