-- `terminators::is_good` meets its contract. A terminator of one character, of two, and of any other length. Assumes nothing.
use Rattle.std.proofs.Common.{sym, ◌∙◌, arith}
use Rattle.terminators.specs.TerminatorLaws.{good_one, good_two, good_other}
use Rattle.terminators.proofs.is_good.Goals as goal

pub returns-in-1 : goal.returns-in-1
returns-in-1 c =
    c.is_control.ensures ∙ good_one c.args.f.now c.args.at c.requires c.in-1.is

pub returns-then-is_control : goal.returns-then-is_control
returns-then-is_control c =
    let e = sym c.is_control-in-2.ensures ∙ c.if-is_control.true in
    c.is_control-then-is_control.ensures ∙ (rw e at (good_two c.args.f.now c.args.at c.requires c.in-2.is))

pub returns-else-is_control : goal.returns-else-is_control
returns-else-is_control c =
    let e = sym c.is_control-in-2.ensures ∙ c.if-is_control.false in
    c.if-is_control.false ∙ (rw e at (good_two c.args.f.now c.args.at c.requires c.in-2.is))

pub returns-in_default : goal.returns-in_default
returns-in_default c =
    good_other c.args.f.now c.args.at (λ e. omega arith) (λ e. omega arith)
