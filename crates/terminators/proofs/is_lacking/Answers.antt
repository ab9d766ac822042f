-- `terminators::is_lacking` meets its contract. Assumes nothing.
use Rattle.std.proofs.Common.{◌∙◌, ℕ, not, eqb, rules, tests}
use Rattle.std.proofs.lemmas.Iterator.{YieldsList-from_slice}
use Rattle.std.proofs.lemmas.Iterator.Search.{all_from_yields_List}
use Rattle.chars.specs.Runs.{all_list}
use Rattle.terminators.proofs.is_lacking.Goals as goal

pub returns : goal.returns
returns c =
    let p = λ (x : ℕ). not (eqb x c.args.b) in
    let u = c.args.u.now in
    all_from_yields_List p c.all.new.self _ _ c.all.ensures.ran (YieldsList-from_slice u cc) (λ x b q h. search (rules, tests))
    ∙ all_list p u
