-- `refusal::number` meets its contract: every number is below 100, so it is kept as a signed one and fits 32 bits.
-- Assumes nothing.
use mathlib.Core.Path.{◌≡◌, sym, ap, ◌∙◌}
use native.Mathlib.Omega.{arith}
use lib.IntN.{ℤ, pos, nat_abs}
use mir.Syntax.{w64}
use mir.Val.{to_z, of_z}
use mir.Facts.{to_z-of_z}
use Rattle.refusal.specs.Table.{number_of, Numbered}
use Rattle.refusal.specs.declared.Rule.{Rule}
use Rattle.refusal.proofs.Numbers.{below_hundred}
use Rattle.refusal.proofs.number.Goals as goal

said : (r : Rule) (z : ℤ) → Numbered r z → to_z w64 (of_z w64 z) ≡ pos (number_of r)
said r z h =
    let e : z ≡ pos (number_of r) = h.2 ∙ ap (λ (s : Rule). pos (number_of s)) (sym h.1) in
    rw e (to_z-of_z {w = w64} {z = pos (number_of r)} (record { sfits = omega (arith, below_hundred r) }))

pub overflow_cast-result : goal.overflow_cast-result
overflow_cast-result c =
    rw (said _ _ c.row.ensures) (tt, record { fits = omega (arith, below_hundred c.args.rule) })

pub returns : goal.returns
returns c =
    ap nat_abs (said _ _ c.row.ensures)
