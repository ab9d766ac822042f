-- `front_bytes::front` meets its contract. Assumes nothing.
use mathlib.Core.Path.{refl, sym, ◌∙◌}
use native.Mathlib.Omega.{arith}
use lib.Seq.{length-take-le, take_all}
use Rattle.word.specs.Part.{part_front}
use Rattle.front_bytes.proofs.front.Goals as goal

pub slice_bounds-result-end : goal.slice_bounds-result-end
slice_bounds-result-end c =
    sym (length-take-le _ _ (omega arith))

pub returns-then-n-s : goal.returns-then-n-s
returns-then-n-s c =
    let a = c.args in
    record { result_value = refl; own = record { bytes = sym (part_front a.n a.s.now); block = refl; place = omega arith } }

pub returns-else-n-s : goal.returns-else-n-s
returns-else-n-s c =
    let a = c.args in
    let e = sym (take_all a.n a.s.now (omega arith)) in
    record { result_value = e; own = record { bytes = e ∙ sym (part_front a.n a.s.now); block = refl; place = omega arith } }
