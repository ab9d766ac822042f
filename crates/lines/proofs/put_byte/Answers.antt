-- `lines::put_byte` meets its contract. One store. Assumes nothing.
use Rattle.std.proofs.Common.{refl, arith}
use Rattle.word.specs.Put.{put}
use Rattle.lines.proofs.put_byte.Goals as goal

pub returns : goal.returns
unfolding put
returns c =
    (omega arith, refl)
