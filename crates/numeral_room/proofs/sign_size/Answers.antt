-- `numeral_room::sign_size` meets its contract. Assumes nothing.
use Rattle.std.specs.Prelude.{◌≡◌, refl, Bool, true, false}
use Rattle.std.proofs.Common.{◌∙◌}
use Rattle.std.specs.Int.{from_bool}
use Rattle.refusal.specs.Rows.{pick}
use Rattle.numeral_room.specs.Sizes.{sign_size}
use Rattle.numeral_room.proofs.sign_size.Goals as goal

counted : (m : Bool) → from_bool m ≡ pick m 1 0
counted true = refl
counted false = refl

pub returns : goal.returns
returns c =
    sign_size _ _ (c.from.ensures ∙ counted c.args.minus)
