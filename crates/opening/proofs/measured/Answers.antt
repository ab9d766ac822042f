-- `opening::measured` meets its contract: the terminators are the image's. Assumes nothing.
use mathlib.Core.Path.{◌∙◌}
use native.Mathlib.Omega.{arith}
use Rattle.opening.specs.OpeningLaws.{image_shown}
use Rattle.opening.proofs.measured.Goals as goal

pub string_end-requires : goal.string_end-requires
string_end-requires c =
    let i = image_shown _ c.requires in (omega (arith, i.long), i.strings)

pub line_end-requires : goal.line_end-requires
line_end-requires c =
    let i = image_shown _ c.requires in (omega (arith, i.long), i.lines)

pub returns : goal.returns
returns c =
    c.measure.ensures ∙ rw (c.string_end.ensures.result_value, c.line_end.ensures.result_value)
