-- `numeral_room::put_fitting` meets its contract: the text against the room. Assumes nothing.
use Rattle.std.proofs.Common.{ap, arith, Err}
use Rattle.numeral_room.specs.Sizes.{room_missing, room_enough}
use Rattle.numeral_room.proofs.put_fitting.Goals as goal

pub returns-then-out-size : goal.returns-then-out-size
returns-then-out-size c =
    let e = room_missing c.args.out.now _ c.text_size-size.result _ c.text_size-size.ensures
    (omega (arith, c.if-out-size.true)) (ap Err c.of_file.ensures) in record { answer = e.0; left = e.1 }

pub returns : goal.returns
returns c =
    let e = room_enough c.args.out.now _ c.text_size-size.result _ _ c.text_size-size.ensures
    (omega (arith, c.if-out-size.false)) c.put_text.ensures in record { answer = e.0; left = e.1 }
