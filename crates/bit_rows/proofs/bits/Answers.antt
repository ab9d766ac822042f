-- `bit_rows::bits` meets its contract. A law for each answer, with the tests as premises. Assumes nothing.
use mathlib.Core.Path.{sym, ◌∙◌}
use Rattle.sample_rows.specs.Ended.{bits_kind, bits_long, classes_long, bits_done}
use Rattle.bit_rows.proofs.bits.Goals as goal

pub returns-then-not-is_bits : goal.returns-then-not-is_bits
returns-then-not-is_bits c =
    rw c.refusing.ensures (let e = bits_kind _ _ _ _ (sym c.is_bits.ensures ∙ c.if-not-is_bits.true) in record { answer = e.0; row = e.1.0; classes = e.1.1 })

pub returns-then-row-count : goal.returns-then-row-count
returns-then-row-count c =
    rw c.refusing-then-row-count.ensures
    (let e = bits_long _ _ _ _ (sym c.is_bits.ensures ∙ c.if-not-is_bits.false) c.if-row-count.true in record {
      answer = e.0;
      row = e.1.0;
      classes = e.1.1;
    })

pub returns-then-unequal : goal.returns-then-unequal
returns-then-unequal c =
    rw c.refusing-then-unequal.ensures (let e = classes_long _ _ _ _ (sym c.is_bits.ensures ∙ c.if-not-is_bits.false) c.if-row-count.false
    c.if-unequal.true in record { answer = e.0; row = e.1.0; classes = e.1.1 })

pub returns : goal.returns
returns c =
    let e = bits_done _ _ _ _ _ _ _ (sym c.is_bits.ensures ∙ c.if-not-is_bits.false) c.if-row-count.false c.if-unequal.false
    c.requires.1
    c.is_high.ensures c.read_bits.ensures.filled c.read_bits.ensures.classed in record { answer = e.0; row = e.1.0; classes = e.1.1 }
