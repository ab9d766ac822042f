-- `patterns::class4` meets its contract. The class is how many of four bounds the bits behind the sign have passed.
-- Assumes nothing.
use Rattle.std.proofs.Common.{◌+◌, ◌/◌, ◌%◌, arith}
use Rattle.decode.specs.Sample.{class_of}
use Rattle.patterns.proofs.Machine.{class_passed}
use Rattle.patterns.proofs.class4.Goals as goal

pub returns : goal.returns
unfolding class_of
returns c =
    let n = c.args.pattern in
    class_passed 255 8388608 (n / 8388608 % (255 + 1)) (n % 8388608) (n % 2147483648) (omega arith) (omega arith) (omega arith) (omega arith)
