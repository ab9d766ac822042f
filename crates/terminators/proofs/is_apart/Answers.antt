-- `terminators::is_apart` meets its contract. Assumes nothing.
use Rattle.std.proofs.Common.{◌∙◌, rules, tests}
use Rattle.std.proofs.lemmas.Iterator.{YieldsList-from_slice}
use Rattle.std.proofs.lemmas.Iterator.Search.{all_from_yields_List}
use Rattle.chars.specs.Runs.{all_list}
use Rattle.terminators.specs.Terminators.{lacks, apart}
use Rattle.terminators.proofs.is_apart.Goals as goal

pub returns : goal.returns
unfolding apart
returns c =
    let p = lacks c.args.u.now in
    let t = c.args.t.now in
    all_from_yields_List p c.all.new.self _ _ c.all.ensures.ran (YieldsList-from_slice t cc) (λ x b q h. search (rules, tests))
    ∙ all_list p t
