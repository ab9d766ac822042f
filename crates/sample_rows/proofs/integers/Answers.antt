-- `sample_rows::integers` meets its contract. A law for each answer, with the tests as premises. Assumes nothing.
use mathlib.Core.Path.{sym, ◌∙◌}
use Rattle.sample_rows.specs.Ended.{integers_kind, integers_long, integers_done}
use Rattle.sample_rows.proofs.integers.Goals as goal

pub returns-then-not-is_integers : goal.returns-then-not-is_integers
returns-then-not-is_integers c =
    rw c.refusing.ensures (let e = integers_kind _ _ _ (sym c.is_integers.ensures ∙ c.if-not-is_integers.true) in record { answer = e.0; row = e.1 })

pub returns-then-unequal : goal.returns-then-unequal
returns-then-unequal c =
    rw c.refusing-then-unequal.ensures (let e = integers_long _ _ _ (sym c.is_integers.ensures ∙ c.if-not-is_integers.false)
    c.if-unequal.true in record { answer = e.0; row = e.1 })

pub returns : goal.returns
returns c =
    let e = integers_done _ _ _ _ _ (sym c.is_integers.ensures ∙ c.if-not-is_integers.false) c.if-unequal.false c.requires.1
    c.is_high.ensures c.read_integers.ensures.filled in record { answer = e.0; row = e.1 }
