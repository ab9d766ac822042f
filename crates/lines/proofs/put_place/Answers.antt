-- `lines::put_place` meets its contract. A 64-bit number is below ten to the 20th. Assumes nothing.
use Rattle.std.proofs.Common.{arith}
use Rattle.lines.specs.Sizes.{place_number}
use Rattle.lines.proofs.put_place.Goals as goal

pub put_ended-requires : goal.put_ended-requires
put_ended-requires c =
    let l = place_number c.args.place (omega arith) in omega (arith, l, c.requires)

pub returns : goal.returns
returns c =
    (c.put_ended.ensures, place_number c.args.place (omega arith))
