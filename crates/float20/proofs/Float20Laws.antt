-- Theorems on what specs/Float20Laws defines. They stand here, as a wrong definition there is to be refused and not to be unread.
-- Assumes nothing.
use Rattle.std.proofs.Common.{sym, ap, ◌∙◌}
use Rattle.std.specs.Prelude.{◌≡◌, true, ℕ, ◌-◌, ◌/◌, ◌^◌, ◌<◌, ℤ, pos, nat_abs}
use Rattle.std.specs.Int.Signed.{lt_z}
use Rattle.float20.specs.Float20.{exponent_of}
use Rattle.float20.specs.Float20Laws.{Coded, Told, mantissa_minus}

pub coded_minus : (z : ℤ) (e m : ℕ) → nat_abs z < 1073741824 → lt_z z (pos 0) ≡ true → Told (nat_abs z) e → m ≡ 65535 - nat_abs z / 2 ^ e → Coded z e m
unfolding exponent_of
coded_minus z e m h t r q =
    record { exponent = r.is; small = r.small; mantissa = q ∙ ap (λ (k : ℕ). 65535 - nat_abs z / 2 ^ k) r.is ∙ sym (mantissa_minus z h t) }
