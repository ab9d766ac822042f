-- `decimal_parts::judged` meets its contract: a law for each answer. Assumes nothing.
use Rattle.std.proofs.Common.{ap, ◌∙◌, arith, Ok, Err}
use Rattle.decimal_parts.specs.Answer.{long_before, long_after, within}
use Rattle.decimal_parts.proofs.judged.Goals as goal
use Rattle.decimal_parts.proofs.judged.Goals.{then-whole-gt18-via-then-whole-gt18, then-whole-gt18-via-else-whole-gt18+then-whole-decimals, then-whole-gt18-via-else-whole-gt18+else-whole-decimals+then-exponent-gt2}

pub returns-then-whole-gt18 : goal.returns-then-whole-gt18
returns-then-whole-gt18 c =
    ap Err c.of_file.ensures ∙ elim c.then-whole-gt18.branch [
      | then-whole-gt18-via-then-whole-gt18 w ↦ long_before _ _ _ _ _ (omega arith)
      | then-whole-gt18-via-else-whole-gt18+then-whole-decimals w ↦ long_before _ _ _ _ _ (omega arith)
      | then-whole-gt18-via-else-whole-gt18+else-whole-decimals+then-exponent-gt2 w ↦ long_after _ _ _ _ _ (omega arith) (omega arith)
    ]

pub returns : goal.returns
returns c =
    ap Ok c.made.ensures ∙ within _ _ _ _ _ (omega arith) (omega arith)
