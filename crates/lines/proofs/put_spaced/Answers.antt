-- `lines::put_spaced` meets its contract. The invariant: what is left to store, stored, makes the whole. Assumes
-- nothing.
use Rattle.std.proofs.Common.{◌≡◌, length, length-set, arith, refl}
use Rattle.std.proofs.Math.Nat.{add-zero}
use Rattle.lines.specs.Spaced.{length_spaced, spaced_turn, spaced_over}
use Rattle.lines.proofs.put_spaced.Goals as goal

pub loop-i-init : goal.loop-i-init
loop-i-init c = (refl, rw add-zero)

pub overflow_add-out : goal.overflow_add-out
overflow_add-out c = let l = length_spaced c.args.v.now in omega arith

pub bounds-out-at : goal.bounds-out-at
bounds-out-at c = let l = length_spaced c.args.v.now in omega (arith, c.loop-i.invariant.0)

pub loop-i-preserved : goal.loop-i-preserved
loop-i-preserved c =
    (simp length-set c.loop-i.invariant.0, spaced_turn _ _ c.loop-i.out _ c.loop-i.i c.loop-i.invariant.1 _ (omega arith) c.spaced_byte.ensures)

pub overflow_add-result : goal.overflow_add-result
overflow_add-result c = let l = length_spaced c.args.v.now in omega arith

pub shape_of-out : goal.shape_of-out
shape_of-out c = c.loop-i.invariant.0

pub returns : goal.returns
returns c =
    let whole : length c.args.v.now ≡ c.loop-i.i = omega arith in
    rw whole (spaced_over _ _ c.loop-i.out _ c.loop-i.i c.loop-i.invariant.1 (omega arith) (omega arith))
