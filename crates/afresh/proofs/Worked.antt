-- Theorems on what specs/Worked defines. They stand here, as a wrong definition there is to be refused and not to be unread.
-- Assumes nothing.
use Rattle.std.specs.Prelude.{List, [], ◌∷◌, ℕ, ◌≤◌, length}
use Rattle.std.proofs.Common.{arith}
use Rattle.afresh.specs.Afresh.{Writable}
use Rattle.afresh.specs.Worked.{shot, units, worked_good, worked_sizes}

-- so it is written, and no call refused, into every buffer of 108 bytes or more (`written_afresh`, `none_refused`)
pub worked_writable : (xs : List ℕ) → 108 ≤ length xs → Writable xs 0 1 units (shot ∷ [])
worked_writable xs h =
    let s = worked_sizes.3 in
    record {
      either = omega arith;
      some = omega arith;
      few = omega arith;
      measures = worked_good.0;
      good = worked_good.1;
      slotted = omega arith;
      fits = omega arith;
      most = omega arith;
    }
