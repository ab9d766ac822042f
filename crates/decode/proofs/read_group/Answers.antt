-- `decode::read_group` meets its contract. The invariant: the first k samples of the group are stored. Assumes nothing.
use Rattle.std.proofs.Common.{◌≡◌, ◌+◌, ℕ, List, refl, sym, ◌∙◌, slice_set, w32}
use Rattle.word.specs.Put.{put, put_append}
use Rattle.word.specs.Signed.{kept}
use Rattle.sample.specs.Run.{values_from, run_append, length_run}
use Rattle.decode.specs.SampleLaws.{in_group}
use Rattle.decode.proofs.read_group.Goals as goal

-- one more value stored behind others
store_more : {A : Type 0} (f : ℕ → A) (old : List A) (i k : ℕ) {row : List A} {v : A} → row ≡ put old i (values_from f i k) → v ≡ f (i + k)
    → slice_set row (i + k) v ≡ put old i (values_from f i (k + 1))
unfolding put values_from
store_more f old i k e q = rw (e, q, run_append f i k 1, put_append, length_run)

pub loop-k-init : goal.loop-k-init
unfolding put values_from
loop-k-init c = refl

pub loop-k-preserved : goal.loop-k-preserved
loop-k-preserved c =
    store_more _ _ _ _ c.loop-k.invariant
    (kept w32 c.group_sample.result c.group_sample.type_inv ∙ c.group_sample.ensures ∙ sym (in_group _ _ _ _ _ refl c.loop-k-test.true))
