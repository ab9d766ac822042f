-- `entry::code_fits` meets its contract. Row 28 by itself. Assumes nothing.
use Rattle.std.proofs.Common.{◌≡◌, ◌||◌, ◌∙◌, sym}
use Rattle.decode.specs.Sample.{integers_asked, bits_asked}
use Rattle.entry.specs.Entry.{code_verdict}
use Rattle.entry.proofs.code_fits.Goals as goal
use Rattle.entry.proofs.code_fits.Goals.{Joined-is_of_integers, then-is_of_integers, else-is_of_integers}

-- the code is of one kind or the other
either : (c : Joined-is_of_integers)
    → (integers_asked c.args.code c.args.count || bits_asked c.args.code) ≡ c.if-is_of_integers.of_either
either c =
    elim c.if-is_of_integers.branch [
      | then-is_of_integers w ↦ rw (sym c.is_of_integers.ensures ∙ w.if-is_of_integers.true)
          (sym (w.of_either-is ∙ w.if-is_of_integers.true))
      | else-is_of_integers w ↦ rw (sym c.is_of_integers.ensures ∙ w.if-is_of_integers.false) (sym w.is_of_bits-of_either.ensures ∙ sym w.of_either-is)
    ]

pub returns-then-not-of_either : goal.returns-then-not-of_either
unfolding code_verdict
returns-then-not-of_either c =
    rw (c.of_file.ensures, either (goal.at.returns-then-not-of_either c).Joined-is_of_integers, c.if-not-of_either.true)

pub returns : goal.returns
unfolding code_verdict
returns c =
    rw (either (goal.at.returns c).Joined-is_of_integers, c.if-not-of_either.false)
