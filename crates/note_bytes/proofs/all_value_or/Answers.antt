-- `note_bytes::all_value_or` meets its contract. Assumes nothing.
use Rattle.std.proofs.Common.{◌∙◌, rules, tests, ◌&&◌, Bool, ℕ, true}
use Rattle.std.proofs.lemmas.Iterator.{YieldsList-from_slice}
use Rattle.std.proofs.lemmas.Iterator.Consumers.{fold_from_yields_List}
use Rattle.chars.specs.Runs.{all_fold}
use Rattle.note_bytes.specs.NoteBytes.{value_or}
use Rattle.note_bytes.proofs.all_value_or.Goals as goal

pub returns : goal.returns
returns c =
    let p = value_or c.args.x in
    let s = c.args.s.now in
    fold_from_yields_List _ (λ (ok : Bool) (b : ℕ). ok && p b) true _ c.fold.ensures.ran (YieldsList-from_slice s cc)
    (λ a x b q k. search (rules, tests))
    ∙ all_fold p true s
