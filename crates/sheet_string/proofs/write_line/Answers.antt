-- `sheet_string::write_line` meets its contract. The stores, one behind the other, are the string. Assumes nothing.
use Rattle.std.proofs.Common.{refl, sym, rules, arith}
use Rattle.std.proofs.Common.{length-take-le}
use Rattle.word.specs.Part.{part_rest}
use Rattle.sheet_string.specs.StringBytes.{string_written}
use Rattle.sheet_string.proofs.write_line.Goals as goal

pub slice_bounds-copy-end : goal.slice_bounds-copy-end
slice_bounds-copy-end c =
    sym (length-take-le _ _ (omega arith))

pub copy-requires : goal.copy-requires
copy-requires c =
    let args = c.args in
    omega (arith, length-take-le args.w args.l.now (omega arith))

pub returns : goal.returns
returns c = (
  search rules,
  string_written _ _ _ _ _ _ _ _ _ _ _ c.requires.0 _ _ _ _ _ refl refl refl refl refl c.put2.ensures
      c.copy.ensures c.copy-2.ensures (rw part_rest at c.copy-3.ensures) c.copy-4.ensures,
)
