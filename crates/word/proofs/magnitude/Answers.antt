-- `word::magnitude` meets its contract. Below zero, the flipped bits are one less than the magnitude, for the least
-- number too.
-- Assumes nothing.
use mathlib.Core.Path.{sym}
use native.Mathlib.Omega.{arith}
use mir.Syntax.{w32}
use Rattle.word.specs.Signed.{kept, sign, flips, minus_size, plus_size}
use Rattle.word.proofs.magnitude.Goals as goal

pub overflow_cast-result : goal.overflow_cast-result
overflow_cast-result c =
    let z = c.args.z in
    let f = c.ranges.z.sfits in
    rw (flips w32 z f (sign w32 z f c.if-z-lt0.true)) (tt, record { fits = omega arith })

pub overflow_add-result : goal.overflow_add-result
overflow_add-result c =
    let z = c.args.z in
    let f = c.ranges.z.sfits in
    rw (flips w32 z f (sign w32 z f c.if-z-lt0.true)) (omega arith)

pub overflow_cast-result-else-z-lt0 : goal.overflow_cast-result-else-z-lt0
overflow_cast-result-else-z-lt0 c =
    let z = c.args.z in
    let f = c.ranges.z.sfits in
    rw (kept w32 z f) (plus_size w32 z f (sign w32 z f c.if-z-lt0.false))

pub returns-then-z-lt0 : goal.returns-then-z-lt0
returns-then-z-lt0 c =
    let z = c.args.z in
    let f = c.ranges.z.sfits in
    rw (flips w32 z f (sign w32 z f c.if-z-lt0.true)) (sym (minus_size z (sign w32 z f c.if-z-lt0.true)))
