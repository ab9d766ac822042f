-- `bit_rows::is_bits` meets its contract. No other code is one of bits. Assumes nothing.
use Rattle.reader.specs.Leaves.{bits_none}
use Rattle.bit_rows.proofs.is_bits.Goals as goal

pub returns-in_default : goal.returns-in_default
returns-in_default c =
    let r = c.in_default.in_default-own.rest in bits_none _ r.0.1 r.1
