-- `letters::is_same_raised` meets its contract. Assumes nothing.
use Rattle.std.proofs.Common.{◌∙◌, ℕ, eqb, ne_eqb, rules, tests}
use Rattle.std.specs.Char.{to_ascii_uppercase}
use Rattle.std.proofs.lemmas.Iterator.{YieldsList-from_slice, YieldsList-from_zip}
use Rattle.std.proofs.lemmas.Iterator.Search.{all_from_yields_List}
use Rattle.letters.specs.Upper.{raised_pairs, raised_long}
use Rattle.letters.proofs.is_same_raised.Goals as goal

pub returns-then-p-k : goal.returns-then-p-k
returns-then-p-k c =
    let p = c.args.p.now in
    let k = c.args.k.now in
    all_from_yields_List (λ (q : ℕ × ℕ). eqb (to_ascii_uppercase q.0) q.1) c.all.new.self _ _ c.all.ensures.ran
    (YieldsList-from_zip (YieldsList-from_slice p cc) (YieldsList-from_slice k cc)) (λ x b q h. search (rules, tests))
    ∙ raised_pairs p k c.if-p-k.true

pub returns-else-p-k : goal.returns-else-p-k
returns-else-p-k c =
    ne_eqb _ _ c.if-p-k.false ∙ raised_long _ _ c.if-p-k.false
