-- Theorems on what specs/Counting defines. They stand here, as a wrong definition there is to be refused and not to be unread.
-- Assumes nothing.
use Rattle.std.proofs.Math.Path.{refl}
use mathlib.Core.List.{List}
use Prim.Native.Nat.{ℕ}
use native.Mathlib.Omega.{arith}
use Rattle.std.proofs.Math.ListN.{length}
use Rattle.chars.specs.Runs.{same}
use Rattle.sheet.specs.Lines.{lines_verdict, sheet_lines_from, sheet_lines}
use Rattle.sheet.specs.Area.{sheet_strings}
use Rattle.sheet.specs.Sizes.{joined_size}
use Rattle.sheet.specs.Counting.{Counted}

pub counted_start : (t u s : List ℕ) → Counted t u s 0 0 0 2
unfolding lines_verdict sheet_strings sheet_lines same
counted_start t u s =
    record {
      fuel = length s;
      enough = omega arith;
      checked = refl;
      exact = 2;
      told = refl;
      whole = joined_size t u (sheet_lines_from (length s) s);
    }
