-- `float20::exponents` meets its contract. The shifted exponents share no bit, so that `|` is their sum. Assumes
-- nothing.
use Rattle.std.proofs.Common.{arith}
use Rattle.float20.specs.Float20Laws.{placed}
use Rattle.float20.proofs.exponents.Goals as goal

pub returns : goal.returns
returns c =
    placed c.args.a c.args.b c.args.c c.args.d (omega arith) (omega arith) (omega arith) (omega arith)
