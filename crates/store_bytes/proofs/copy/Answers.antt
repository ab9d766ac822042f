-- `store_bytes::copy` meets its contract. The invariant: what is left to store, stored, makes the whole. Assumes nothing.
use Rattle.std.proofs.Common.{◌≡◌, ◌∙◌, [], drop, drop_of_length-le}
use Rattle.word.specs.Put.{put_none, copy_turn}
use Rattle.store_bytes.proofs.copy.Goals as goal

pub loop-i-preserved : goal.loop-i-preserved
loop-i-preserved c =
    copy_turn 0 _ c.loop-i.buf _ c.loop-i.i c.loop-i-test.true ∙ c.loop-i.invariant

pub returns : goal.returns
returns c =
    let d : drop c.loop-i.i c.args.src.now ≡ [] = drop_of_length-le _ c.loop-i-test.false in
    (rw (d, put_none) at c.loop-i.invariant)
