-- `entry::bits_fit` meets its contract. Row 28, then what row 29 says. Assumes nothing.
use Rattle.std.proofs.Common.{refl}
use Rattle.layout.specs.Layout.{patterns, fitting, unfit}
use Rattle.entry.specs.EntryLaws.{of_other, of_kind}
use Rattle.entry.proofs.bits_fit.Goals as goal

pub returns-then-not-is_of_bits : goal.returns-then-not-is_of_bits
unfolding fitting
returns-then-not-is_of_bits c =
    rw c.of_file.ensures (of_other _ (patterns c.args.row.now) c.is_of_bits.ensures c.if-not-is_of_bits.true refl)

pub returns : goal.returns
unfolding fitting unfit
returns c =
    of_kind _ _ c.is_of_bits.ensures c.if-not-is_of_bits.false c.unfit_bits.ensures c.fitted.ensures
