-- `lines::put_rule` meets its contract. Every number of the table is below 100. Assumes nothing.
use Rattle.std.proofs.Common.{arith}
use Rattle.lines.specs.Sizes.{rule_number}
use Rattle.lines.proofs.put_rule.Goals as goal

pub put_ended-requires : goal.put_ended-requires
put_ended-requires c =
    rw c.number.ensures (let l = rule_number c.args.rule in omega (arith, l, c.requires))

pub returns : goal.returns
returns c =
    (rw (← c.number.ensures) c.put_ended.ensures, rule_number c.args.rule)
