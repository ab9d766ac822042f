-- `seg2::seg2_bits` meets its contract: the promise of the function that it calls. Assumes nothing.
use mir.Syntax.{w32}
use mir.Facts.{to_z-of_z}
use Rattle.seg2.proofs.seg2_bits.Goals as goal

pub returns : goal.returns
returns c =
    let z = to_z-of_z {w = w32} c.ranges.trace in record {
      answer = rw z at c.bits.ensures.answer;
      row = rw z at c.bits.ensures.row;
      classes = rw z at c.bits.ensures.classes;
    }
