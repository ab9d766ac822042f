-- `chars::run` meets its contract: what is taken is as long as the run. Assumes nothing.
use Rattle.std.proofs.Common.{◌≡◌, ◌∙◌, ◌≤◌, length, rules, tests}
use Rattle.std.proofs.lemmas.Iterator.{YieldsList-from_slice}
use Rattle.std.proofs.lemmas.Iterator.Consumers.{count_from_yields_List}
use Rattle.std.proofs.lemmas.Iterator.Search.{YieldsList-from_take_while}
use Rattle.std.proofs.lemmas.List.Folds.{length-prefix_len}
use Rattle.chars.specs.Chars.{is_of}
use Rattle.chars.specs.Runs.{run, run_prefix, run_le}
use Rattle.chars.proofs.run.Goals as goal

pub returns : goal.returns
returns c =
    let p = is_of c.args.kind in
    let s = c.args.s.now in
    let e : c.count.result ≡ run p s =
    count_from_yields_List c.take_while.result _ c.count.ensures.ran
    (YieldsList-from_take_while _ p (YieldsList-from_slice s cc) c.take_while.ensures.closure c.take_while.ensures.done
    (λ x b q k. search (rules, tests)))
    ∙ length-prefix_len p s ∙ run_prefix p s in
    let l : run p s ≤ length s = run_le p s in
    (e, rw e l)
