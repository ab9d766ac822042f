-- `encode::write1` meets its contract. The invariant: what is left to write, written, makes the whole. Assumes nothing.
use Rattle.std.proofs.Common.{◌≡◌, refl, sym, ap, ◌∙◌, ℕ, ◌%◌, arith, pos, get_or, w32, of_z}
use Rattle.word.specs.Signed.{kept}
use Rattle.word.specs.WordLaws.{length_bytes_of}
use Rattle.sample.specs.Needed.{needed, room}
use Rattle.row20.specs.RowLaws.{write_start}
use Rattle.encode.specs.Write.{residue, fixed_bytes, integers_data}
use Rattle.encode.specs.WriteLaws.{residue_low, row_turn, row_end}
use Rattle.encode.proofs.Signs.{bits_residue}
use Rattle.encode.proofs.write1.Goals as goal

pub loop-i-init : goal.loop-i-init
loop-i-init c = write_start _ _ _

pub put2-requires : goal.put2-requires
unfolding room needed
put2-requires c = omega arith

pub loop-i-preserved : goal.loop-i-preserved
unfolding fixed_bytes
loop-i-preserved c =
    let z = get_or c.args.row.now c.loop-i.i (pos 0) in
    let f = c.cast_unsigned-arg-1.given in
    let b : c.cast_unsigned.result ≡ residue 4294967296 z = c.cast_unsigned.ensures ∙ ap (of_z w32) (kept w32 z f) ∙ bits_residue z f in
    let q : c.cast_unsigned.result % 65536 ≡ residue 65536 z = ap (λ (n : ℕ). n % 65536) b ∙ sym (residue_low z) in
    row_turn (fixed_bytes 2 _) (pos 0) _ (λ x. length_bytes_of 2 _ _) c.loop-i.invariant c.loop-i-test.true
    (c.put2.ensures ∙ rw q)

pub fill_up-requires : goal.fill_up-requires
unfolding room needed
fill_up-requires c = omega arith

pub returns : goal.returns
unfolding fixed_bytes integers_data
returns c =
    c.fill_up.ensures
    ∙ row_end (fixed_bytes 2 _) _ _ (λ x. length_bytes_of 2 _ _) c.loop-i.invariant c.loop-i-test.false refl
