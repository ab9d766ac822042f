-- `float20::float20_of` meets its contract. The magnitude is cut, and then the sign comes in. Assumes nothing.
use Rattle.std.proofs.Common.{◌≡◌, ap, ◌∙◌, arith, nat_abs, w32}
use Rattle.float20.specs.Float20Laws.{coded_plus}
use Rattle.float20.proofs.Float20Laws.{coded_minus}
use Rattle.word.specs.Signed.{kept, sign}
use Rattle.float20.proofs.float20_of.Goals as goal

pub exponent-e-requires : goal.exponent-e-requires
exponent-e-requires c =
    let v = c.args.v in
    let q : c.magnitude-n.result ≡ nat_abs v = c.magnitude-n.ensures ∙ ap nat_abs (kept w32 v c.ranges.v.sfits) in
    omega arith

pub returns-then-v-lt0 : goal.returns-then-v-lt0
returns-then-v-lt0 c =
    let v = c.args.v in
    let f = c.ranges.v.sfits in
    let q : c.magnitude-n.result ≡ nat_abs v = c.magnitude-n.ensures ∙ ap nat_abs (kept w32 v f) in
    coded_minus v _ _ c.requires (sign w32 v f c.if-v-lt0.true) (rw q at c.exponent-e.ensures) (rw q)

pub returns-else-v-lt0 : goal.returns-else-v-lt0
returns-else-v-lt0 c =
    let v = c.args.v in
    let f = c.ranges.v.sfits in
    let q : c.magnitude-n.result ≡ nat_abs v = c.magnitude-n.ensures ∙ ap nat_abs (kept w32 v f) in
    coded_plus v _ _ (sign w32 v f c.if-v-lt0.false) (rw q at c.exponent-e.ensures) (rw q)
