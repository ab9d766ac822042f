-- `patterns::class5` meets its contract. The class is how many of four bounds the bits behind the sign have passed.
-- Assumes nothing.
use Rattle.std.proofs.Common.{◌+◌, ◌/◌, ◌%◌, arith}
use Rattle.decode.specs.Sample.{class_of}
use Rattle.patterns.proofs.Machine.{class_passed}
use Rattle.patterns.proofs.class5.Goals as goal

pub returns : goal.returns
unfolding class_of
returns c =
    let n = c.args.pattern in
    class_passed 2047 4503599627370496 (n / 4503599627370496 % (2047 + 1)) (n % 4503599627370496) (n % 9223372036854775808) (omega arith)
    (omega arith) (omega arith) (omega arith)
