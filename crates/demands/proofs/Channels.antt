-- Theorems on what specs/Channels defines. They stand here, as a wrong definition there is to be refused and not to be unread.
-- Assumes nothing.
use Rattle.std.specs.Prelude.{◌≡◌, Bool, true, false, List, [], ◌∷◌, ℕ}
use Rattle.std.proofs.Common.{sym, ◌∙◌, ⊎_elim}
use Rattle.word.specs.Tests.{never}
use Rattle.layout.specs.Layout.{Trace}
use Rattle.afresh.specs.FileOf.{has_channel, EachHas}
use Rattle.demands.specs.GoodLists.{GoodList}
use Rattle.demands.proofs.GoodLists.{good_is_writable}
use Rattle.demands.specs.Channels.{Among}

as_all : (w : Bool) (ts : List Trace) (x : Trace) → EachHas w ts → Among x ts → has_channel x ≡ w
as_all w [] x h a = absurd a
as_all w (y ∷ ts) x h a = ⊎_elim (λ e. rw e h.0) (λ m. as_all w ts x h.1 m) a

-- one with a trace that has a channel number and another that has none cannot be written. Rules out a file
-- of which three traces of twelve have one.
pub mixed_is_not_written : (xs : List ℕ) (order slots : ℕ) (sheet : List ℕ) (ts : List Trace) (x y : Trace) → Among x ts → Among y ts → has_channel x ≡ true
    → has_channel y ≡ false
    → GoodList xs order slots sheet ts → ⊥
mixed_is_not_written xs order slots sheet ts x y p q a b g =
    ⊎_elim (λ h. never (sym b ∙ as_all true ts y h q)) (λ h. never (sym (as_all false ts x h p) ∙ a)) (good_is_writable g).good.1
