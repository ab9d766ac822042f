-- `image::image` meets its contract. What rows 2 to 7 have shown is what the rest asks. Assumes nothing.
use Rattle.std.proofs.Common.{sym, ap, refl, ◌∙◌, length, arith}
use Rattle.std.proofs.lemmas.Result.{err_from_is_err_and}
use Rattle.terminators.specs.TerminatorLaws.{good_most, length_terminator}
use Rattle.image.specs.ImageLaws.{in_words, head_bad, head_shown, head_room, head_count, head_rest}
use Rattle.image.proofs.image.Goals as goal

pub string_end-t-requires : goal.string_end-t-requires
string_end-t-requires c =
    let h = head_shown _ c.args.f.now _ (sym c.in_ok-x.ensures.0) in
    (omega arith, h.strings)

pub line_end-u-requires : goal.line_end-u-requires
line_end-u-requires c =
    let h = head_shown _ c.args.f.now _ (sym c.in_ok-x.ensures.0) in
    (omega arith, h.lines)

pub rest-requires : goal.rest-requires
rest-requires c =
    let args = c.args in
    let e = sym c.in_ok-x.ensures.0 in
    let h = head_shown _ args.f.now _ e in
    let m = head_room _ args.f.now _ e in
    let n = head_count _ args.f.now _ e in
    let g = good_most _ _ h.lines in
    let l = length_terminator args.f.now 11 (omega arith) h.lines in
    (omega (arith, h.fits, m), omega (arith, h.count, m, n), omega (arith, g.0, l, ap length c.line_end-u.ensures.result_value))

pub returns-in_err-x : goal.returns-in_err-x
returns-in_err-x c =
    let p = err_from_is_err_and c.from_residual.result c.from_residual.ensures.1 in
    rw (p.1, p.2) (head_bad _ _ c.args.f.now _ (sym c.in_err-x.ensures.0))

pub returns : goal.returns
returns c =
    let e = sym c.in_ok-x.ensures.0 in
    c.rest.ensures ∙ rw (c.string_end-t.ensures.result_value, c.line_end-u.ensures.result_value) (head_rest _ c.args.f.now _ e _)
