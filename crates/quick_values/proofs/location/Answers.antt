-- `quick_values::location` meets its contract. What was found lies in the buffer. Assumes nothing.
use mathlib.Core.Path.{◌∙◌}
use lib.IntN.{ℤ}
use mir.Syntax.{w32}
use Rattle.word.specs.Signed.{handed}
use Rattle.location.specs.Location.{location_of}
use Rattle.quick.specs.Quick.{quick_find, quick_location}
use Rattle.quick.specs.QuickLaws.{find_lent, read_told}
use borrow.Author.Rules.{rules}
use Rattle.quick_values.proofs.location.Goals as goal
use Rattle.std.specs.Prelude.{Err}

pub find-requires : goal.find-requires
unfolding quick_location
find-requires c =
    search rules

pub location_of-requires : goal.location_of-requires
unfolding quick_location
location_of-requires c =
    rw c.find.ensures (find_lent _ _ _ _)

pub returns : goal.returns
unfolding quick_location
returns c =
    let args = c.args in
    c.location_of.ensures
    ∙ read_told Err location_of _ _ _ _ _
    (handed w32 (λ (z : ℤ). quick_find args.buffer.now args.n z args.key.now) args.trace c.ranges.trace.sfits
    c.find.ensures)
