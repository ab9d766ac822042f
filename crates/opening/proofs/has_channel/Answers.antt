-- `opening::has_channel` meets its contract: what is found in the strings of trace 0, which lie in the image. Assumes
-- nothing.
use Rattle.std.proofs.Common.{◌∙◌, arith}
use Rattle.opening.specs.OpeningLaws.{image_shown, first_lies, first_channel}
use Rattle.opening.proofs.has_channel.Goals as goal

pub pointer-p-requires : goal.pointer-p-requires
pointer-p-requires c =
    (image_shown _ c.requires.0).long

pub word2-requires : goal.word2-requires
word2-requires c =
    let l = first_lies _ c.requires.0 c.requires.1 c.requires.2 in
    omega (arith, l.block, c.pointer-p.ensures.0)

pub string_end-t-requires : goal.string_end-t-requires
string_end-t-requires c =
    let i = image_shown _ c.requires.0 in
    (omega (arith, i.long), i.strings)

pub find-requires : goal.find-requires
find-requires c =
    let l = first_lies _ c.requires.0 c.requires.1 c.requires.2 in
    let p = c.pointer-p.ensures.0 in
    let w = rw p at c.word2.ensures.0 in
    (omega (arith, l.least, p, w), omega (arith, l.fits, p, w))

pub returns : goal.returns
returns c =
    c.is_some.ensures
    ∙ first_channel _ c.requires.2 c.string_end-t.ensures.result_value c.pointer-p.ensures.0 c.word2.ensures.0
    c.find.ensures
