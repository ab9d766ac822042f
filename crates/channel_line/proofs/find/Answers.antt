-- `channel_line::find` meets its contract. The invariant: what the lines that are left have is what all have. Assumes
-- nothing.
use Rattle.std.proofs.Common.{sym, ◌∙◌, arith}
use Rattle.channel_line.specs.Finding.{walk_start, walk_turn, walk_found, walk_over, line_ends}
use Rattle.channel_line.proofs.find.Goals as goal

pub loop-at-init : goal.loop-at-init
loop-at-init c =
    walk_start _ _

pub returns-then-is_channel : goal.returns-then-is_channel
returns-then-is_channel c =
    let e = walk_found _ _ _ c.loop-at.invariant c.loop-at-test.true _ (line_ends _ _ _ c.line_len.ensures.0)
    (omega arith) (sym c.is_channel.ensures ∙ c.if-is_channel.true) in record { has = e.0; value = e.1 }

pub loop-at-preserved : goal.loop-at-preserved
loop-at-preserved c =
    walk_turn _ _ _ c.loop-at.invariant c.loop-at-test.true _ (line_ends _ _ _ c.line_len.ensures.0)
    (sym c.is_channel.ensures ∙ c.if-is_channel.false)

pub returns : goal.returns
returns c =
    let e = walk_over _ _ _ c.loop-at.invariant c.loop-at-test.false in record { has = e.0; value = e.1 }
