-- `front_bytes::behind` meets its contract: the part to the end is what is left behind the first n bytes. Assumes nothing.
use mathlib.Core.Path.{refl, sym, ◌∙◌}
use native.Mathlib.Omega.{arith}
use lib.ListN.{length, drop_of_length-le}
use lib.Seq.{drop-length}
use Rattle.word.specs.Part.{rest_from}
use Rattle.front_bytes.specs.Run.{rest}
use Rattle.front_bytes.proofs.behind.Goals as goal

pub returns-then-n-s : goal.returns-then-n-s
returns-then-n-s c =
    let args = c.args in
    let n = args.n in
    let e = rest n args.s.now in
    record { result_value = e; own = rest_from n (omega arith) e refl (omega arith) }

pub returns-else-n-s : goal.returns-else-n-s
returns-else-n-s c =
    let args = c.args in
    let s = args.s.now in
    let e = rest (length s) s in
    let none = drop_of_length-le s {i = args.n} (omega arith) in
    record { result_value = e ∙ drop-length s ∙ sym none; own = rest_from (length s) (omega arith) e refl (omega arith) }
