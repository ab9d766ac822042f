-- `group20::group_of` meets its contract. The words are those of the exponents and mantissas of the four samples. Assumes
-- nothing.
use Rattle.std.proofs.Common.{◌+◌, ◌*◌, arith, pos, get_or, w32}
use Rattle.group20.specs.GroupLaws.{fit_magnitude, words_told}
use Rattle.word.specs.Signed.{kept}
use Rattle.group20.proofs.group_of.Goals as goal

pub float20_of-a-requires : goal.float20_of-a-requires
float20_of-a-requires c =
    let args = c.args in
    let z = get_or args.row.now (4 * args.g) (pos 0) in
    rw (kept w32 z c.float20_of-arg-1.given) (fit_magnitude args.row.now c.requires.1 (4 * args.g) (omega arith))

pub float20_of-b-requires : goal.float20_of-b-requires
float20_of-b-requires c =
    let args = c.args in
    let z = get_or args.row.now (4 * args.g + 1) (pos 0) in
    rw (kept w32 z c.float20_of-arg-2-1.given) (fit_magnitude args.row.now c.requires.1 (4 * args.g + 1) (omega arith))

pub float20_of-c-requires : goal.float20_of-c-requires
float20_of-c-requires c =
    let args = c.args in
    let z = get_or args.row.now (4 * args.g + 2) (pos 0) in
    rw (kept w32 z c.float20_of-arg-3-1.given) (fit_magnitude args.row.now c.requires.1 (4 * args.g + 2) (omega arith))

pub float20_of-d-requires : goal.float20_of-d-requires
float20_of-d-requires c =
    let args = c.args in
    let z = get_or args.row.now (4 * args.g + 3) (pos 0) in
    rw (kept w32 z c.float20_of-arg-4-1.given) (fit_magnitude args.row.now c.requires.1 (4 * args.g + 3) (omega arith))

pub returns : goal.returns
returns c =
    let args = c.args in
    let g = args.g in
    let r = args.row.now in
    words_told r g _ (rw (kept w32 (get_or r (4 * g) (pos 0)) c.float20_of-arg-1.given) at c.float20_of-a.ensures)
    (rw (kept w32 (get_or r (4 * g + 1) (pos 0)) c.float20_of-arg-2-1.given) at c.float20_of-b.ensures)
    (rw (kept w32 (get_or r (4 * g + 2) (pos 0)) c.float20_of-arg-3-1.given) at c.float20_of-c.ensures)
    (rw (kept w32 (get_or r (4 * g + 3) (pos 0)) c.float20_of-arg-4-1.given) at c.float20_of-d.ensures)
    c.exponents.ensures (omega (arith, c.struct_known-1.given)) (omega (arith, c.struct_known-2-1.given))
    (omega (arith, c.struct_known-3-1.given)) (omega (arith, c.struct_known-4-1.given))
