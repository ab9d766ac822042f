-- `entry::integers_fit` meets its contract. Row 28, then what row 29 says. Assumes nothing.
use Rattle.std.proofs.Common.{refl}
use Rattle.layout.specs.Layout.{integers, fitting, unfit}
use Rattle.entry.specs.EntryLaws.{of_other, of_kind}
use Rattle.entry.proofs.integers_fit.Goals as goal

pub returns-then-not-is_of_integers : goal.returns-then-not-is_of_integers
unfolding fitting
returns-then-not-is_of_integers c =
    rw c.of_file.ensures (of_other _ (integers c.args.row.now) c.is_of_integers.ensures c.if-not-is_of_integers.true refl)

pub returns : goal.returns
unfolding fitting unfit
returns c =
    of_kind _ _ c.is_of_integers.ensures c.if-not-is_of_integers.false c.unfit_integers.ensures c.fitted.ensures
