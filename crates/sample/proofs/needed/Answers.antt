-- `sample::needed` meets its contract. Each arm is the row of the table that its code names. Assumes nothing.
use Rattle.std.proofs.Common.{sym, arith}
use Rattle.sample.specs.Needed.{needed, by_code_none}
use Rattle.sample.proofs.needed.Goals as goal

pub returns-in-1 : goal.returns-in-1
unfolding needed
returns-in-1 c =
    (simp c.in-1.is, omega arith)

pub returns-in-2 : goal.returns-in-2
unfolding needed
returns-in-2 c =
    (simp c.in-2.is, omega arith)

pub returns-in-3 : goal.returns-in-3
unfolding needed
returns-in-3 c =
    (simp c.in-3.is, omega arith)

pub returns-in-4 : goal.returns-in-4
unfolding needed
returns-in-4 c =
    (simp c.in-4.is, omega arith)

pub returns-in-5 : goal.returns-in-5
unfolding needed
returns-in-5 c =
    (simp c.in-5.is, omega arith)

pub returns-in_default : goal.returns-in_default
unfolding needed
returns-in_default c =
    (sym (by_code_none _ _ _ _ _ _ c.args.code (λ e. omega arith) (λ e. omega arith) (λ e. omega arith) (λ e. omega arith) (λ e. omega arith)), omega arith)
