-- `append::register` meets its contract. Two stores: the slot and N. Assumes nothing.
use Rattle.std.proofs.Common.{arith}
use Rattle.append.specs.GrownLaws.{block_count, register_put}
use Rattle.append.proofs.register.Goals as goal

pub put4-requires : goal.put4-requires
put4-requires c =
    omega (arith, block_count _ _ c.file_block-b.ensures.0, c.requires.slot)

pub overflow_add-b-2 : goal.overflow_add-b-2
overflow_add-b-2 c =
    omega (arith, block_count _ _ c.file_block-b.ensures.0, c.requires.few)

pub returns : goal.returns
returns c =
    rw (c.put2.ensures, c.put4.ensures) (register_put _ _ c.file_block-b.ensures.0 c.round_up-at.ensures)
