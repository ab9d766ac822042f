-- `encode::write5` meets its contract. The invariant: what is left to write, written, makes the whole. Assumes nothing.
use Rattle.std.proofs.Common.{refl, ◌∙◌, arith}
use Rattle.word.specs.Word.{bytes_of}
use Rattle.word.specs.WordLaws.{length_bytes_of}
use Rattle.sample.specs.Needed.{needed, room}
use Rattle.row20.specs.RowLaws.{write_start}
use Rattle.encode.specs.Write.{bits_data}
use Rattle.encode.specs.WriteLaws.{row_turn, row_end}
use Rattle.encode.proofs.write5.Goals as goal

pub loop-i-init : goal.loop-i-init
loop-i-init c = write_start _ _ _

pub put_word8-requires : goal.put_word8-requires
unfolding room needed
put_word8-requires c = omega arith

pub loop-i-preserved : goal.loop-i-preserved
loop-i-preserved c =
    row_turn (bytes_of 8 _) 0 _ (λ x. length_bytes_of 8 _ _) c.loop-i.invariant c.loop-i-test.true c.put_word8.ensures

pub fill_up-requires : goal.fill_up-requires
unfolding room needed
fill_up-requires c = omega arith

pub returns : goal.returns
unfolding bits_data
returns c =
    c.fill_up.ensures ∙ row_end (bytes_of 8 _) _ _ (λ x. length_bytes_of 8 _ _) c.loop-i.invariant c.loop-i-test.false refl
