-- `chars::all` meets its contract. Assumes nothing.
use Rattle.std.proofs.Common.{◌∙◌, rules, tests, ◌&&◌, Bool, ℕ, true}
use Rattle.std.proofs.lemmas.Iterator.{YieldsList-from_slice}
use Rattle.std.proofs.lemmas.Iterator.Consumers.{fold_from_yields_List}
use Rattle.chars.specs.Chars.{is_of}
use Rattle.chars.specs.Runs.{all_fold}
use Rattle.chars.proofs.all.Goals as goal

pub returns : goal.returns
returns c =
    let p = is_of c.args.kind in
    let s = c.args.s.now in
    fold_from_yields_List _ (λ (ok : Bool) (b : ℕ). ok && p b) true _ c.fold.ensures.ran (YieldsList-from_slice s cc)
    (λ a x b q k. search (rules, tests))
    ∙ all_fold p true s
