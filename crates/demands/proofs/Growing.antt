-- Theorems on what specs/Growing defines. They stand here, as a wrong definition there is to be refused and not to be unread.
-- Assumes nothing.
use Rattle.std.specs.Prelude.{◌≡◌, List, ℕ, take, Ok}
use Rattle.std.proofs.Common.{sym, ◌∙◌}
use Rattle.layout.specs.Layout.{start_size, Trace}
use Rattle.start.specs.Start.{start_answer, start_left}
use Rattle.afresh.specs.Calls.{after, answers_of, accepted_of}
use Rattle.afresh.proofs.Calls.{calls_afresh}
use Rattle.afresh.specs.Afresh.{lengths}
use Rattle.afresh.proofs.Afresh.{none_refused, image_afresh, accepted_writable}
use Rattle.demands.specs.GoodLists.{GoodList}
use Rattle.demands.proofs.GoodLists.{writable_is_good, good_is_writable}

-- "when written afresh": the accepted traces, given alone to a start in any buffer that has room for them, are all
-- accepted and leave the same image
pub written_afresh_alone : (xs : List ℕ) (order slots : ℕ) (sheet : List ℕ) (e : ℕ) → start_answer xs order slots sheet ≡ Ok e → (calls : List Trace)
    → (ys : List ℕ) → GoodList ys order slots sheet (accepted_of (start_left xs order slots sheet) e calls)
    → (answers_of (start_left ys order slots sheet) (start_size slots sheet) (accepted_of (start_left xs order slots sheet) e calls)
    ≡ lengths (start_size slots sheet) (accepted_of (start_left xs order slots sheet) e calls))
    × (take (after (start_left ys order slots sheet) (start_size slots sheet) (accepted_of (start_left xs order slots sheet) e calls)).1
    (after (start_left ys order slots sheet) (start_size slots sheet) (accepted_of (start_left xs order slots sheet) e calls)).0
    ≡ take (after (start_left xs order slots sheet) e calls).1 (after (start_left xs order slots sheet) e calls).0)
written_afresh_alone xs order slots sheet e to calls ys g =
    let w = good_is_writable g in
    let ts : List Trace = accepted_of (start_left xs order slots sheet) e calls in
    (none_refused ys order slots sheet ts w, (image_afresh ys order slots sheet ts w).0 ∙ sym (calls_afresh xs order slots sheet e to calls).0)

-- they are a good list (GoodLists: document 01's words, without the writers' verdicts), and the buffer of the calls
-- itself has room for them
pub accepted_are_writable : (xs : List ℕ) (order slots : ℕ) (sheet : List ℕ) (e : ℕ) → start_answer xs order slots sheet ≡ Ok e → (calls : List Trace)
    → GoodList xs order slots sheet (accepted_of (start_left xs order slots sheet) e calls)
accepted_are_writable xs order slots sheet e to calls = writable_is_good (accepted_writable xs order slots sheet e to calls)
