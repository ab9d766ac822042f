-- `image::check` meets its contract. The image is the first bytes of the buffer. Assumes nothing.
use mathlib.Core.Path.{sym, ◌∙◌}
use lib.ListN.{length}
use lib.Seq.{length-take-le}
use Rattle.image.specs.Image.{check_of}
use Rattle.file_length.specs.FileLength.{long_enough}
use borrow.Author.Rules.{rules}
use Rattle.image.proofs.check.Goals as goal

pub is_bad_length-requires : goal.is_bad_length-requires
unfolding check_of
is_bad_length-requires c =
    search rules

pub refusing-requires : goal.refusing-requires
unfolding check_of
refusing-requires c =
    search rules

pub returns-then-is_bad_length : goal.returns-then-is_bad_length
unfolding check_of
returns-then-is_bad_length c =
    c.refusing.ensures ∙ rw (← c.is_bad_length.ensures, c.if-is_bad_length.true)

pub slice_bounds-image-end : goal.slice_bounds-image-end
unfolding check_of
slice_bounds-image-end c =
    let args = c.args in
    let l = long_enough (length args.buffer.now) args.n (sym c.is_bad_length.ensures ∙ c.if-is_bad_length.false) in
    sym (length-take-le _ _ l.2)

pub image-requires : goal.image-requires
unfolding check_of
image-requires c =
    let args = c.args in
    let l = long_enough (length args.buffer.now) args.n (sym c.is_bad_length.ensures ∙ c.if-is_bad_length.false) in
    rw (length-take-le args.n args.buffer.now l.2) l.0

pub returns : goal.returns
unfolding check_of
returns c =
    c.image.ensures ∙ rw (← c.is_bad_length.ensures, c.if-is_bad_length.false)
