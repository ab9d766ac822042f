-- `area::write_area` meets its contract. Strings, end mark and zeros are the area. Assumes nothing.
use Rattle.std.proofs.Common.{refl, arith}
use Rattle.word.specs.Put.{length_put}
use Rattle.sheet_texts.specs.Texts.{texts_room}
use Rattle.area.specs.Writing.{area_written}
use Rattle.area.proofs.write_area.Goals as goal

pub overflow_add-a : goal.overflow_add-a
overflow_add-a c =
    let r = texts_room c.args.high _ _ _ _ c.requires in omega (arith, r.0, c.write_strings-to.ensures.0)

pub round_up-e-requires : goal.round_up-e-requires
round_up-e-requires c =
    let r = texts_room c.args.high _ _ _ _ c.requires in omega (arith, r.0, c.write_strings-to.ensures.0)

pub put2-requires : goal.put2-requires
put2-requires c =
    let r = texts_room c.args.high _ _ _ _ c.requires in
    rw (c.write_strings-to.ensures.1, length_put) (omega (arith, r.0, r.1, c.write_strings-to.ensures.0))

pub zeros-requires : goal.zeros-requires
zeros-requires c =
    let r = texts_room c.args.high _ _ _ _ c.requires in
    rw (c.put2.ensures, length_put, c.write_strings-to.ensures.1, length_put)
    (omega (arith, r.0, r.1, c.write_strings-to.ensures.0))

pub returns : goal.returns
returns c =
    area_written _ _ _ _ _ _ _ _ _ _ _ c.write_strings-to.ensures.0 refl c.round_up-e.ensures
    c.write_strings-to.ensures.1 c.put2.ensures c.zeros.ensures
