-- `channel::count` meets its contract: a law for each answer. Assumes nothing.
use native.Mathlib.Omega.{arith}
use mathlib.Core.Path.{sym, ◌∙◌}
use Rattle.digits.specs.Value.{room_none}
use Rattle.channel.specs.Count.{count_long, count_other, count_over, count_is}
use Rattle.channel.proofs.count.Goals as goal

pub returns-then-text-gt18 : goal.returns-then-text-gt18
returns-then-text-gt18 c =
    count_long _ c.if-text-gt18.true

pub returns-then-not-all : goal.returns-then-not-all
returns-then-not-all c =
    count_other _ (omega arith) (sym c.all.ensures ∙ c.if-not-all.true)

pub value-n-requires : goal.value-n-requires
value-n-requires c =
    room_none _ (omega arith)

pub returns-then-n-gt32767 : goal.returns-then-n-gt32767
returns-then-n-gt32767 c =
    count_over _ (omega arith) (sym c.all.ensures ∙ c.if-not-all.false) (rw c.value-n.ensures at c.if-n-gt32767.true)

pub returns : goal.returns
returns c =
    let n = c.value-n.ensures in
    n ∙ count_is _ (omega arith) (sym c.all.ensures ∙ c.if-not-all.false) (omega (arith, n))
