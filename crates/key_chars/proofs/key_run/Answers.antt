-- `key_chars::key_run` meets its contract. The invariant: the run from here and the bytes passed make the run from the
-- start. Assumes nothing.
use Rattle.std.proofs.Common.{◌≡◌, ◌∙◌, ◌+◌, ◌-◌, ◌&&◌, sym, refl, length, drop, drop-drop, ltb, ℕ, List, [], ◌∷◌, Bool, true, false, rules, tests, arith}
use Rattle.std.proofs.lemmas.Bool.{ltb-false, le-leb, ltb-true}
use Rattle.std.proofs.lemmas.Iterator.{YieldsList-from_slice}
use Rattle.std.proofs.lemmas.Iterator.Consumers.{count_from_yields_List}
use Rattle.std.proofs.lemmas.Iterator.Search.{YieldsList-from_take_while}
use Rattle.std.proofs.lemmas.List.Folds.{length-prefix_len}
use Rattle.word.specs.Part.{part, part_rest, length_part}
use Rattle.word.specs.Tests.{never}
use Rattle.chars.specs.Chars.{capital}
use Rattle.chars.specs.Runs.{run, run_prefix, run_le, run_more, run_end, run_none, run_part, run_stops, Stops}
use Rattle.text.specs.declared.Manner.{Manner}
use Rattle.text.specs.Manner.{letter, capital_letter, low_letter}
use Rattle.key_chars.proofs.key_run.Goals as goal

-- a keyword's character that is no capital
abbrev other : Manner → ℕ → Bool
other how b = ltb 96 b && letter how b

other_letter : (how : Manner) (b : ℕ) → other how b ≡ true → letter how b ≡ true
other_letter how b h = go (ltb 96 b) h
  where
    go : (w : Bool) → (w && letter how b) ≡ true → letter how b ≡ true
    go true e = e
    go false e = never e

-- what is a keyword's character and no capital is another
letter_other : (how : Manner) (b : ℕ) → capital b ≡ false → letter how b ≡ true → other how b ≡ true
letter_other how b n h = go (ltb 96 b) (ltb b 33) refl refl
  where
    go : (w v : Bool) → ltb 96 b ≡ w → ltb b 33 ≡ v → (w && letter how b) ≡ true
    go true v e f = h
    go false true e f = never (low_letter how b (ltb-true _ _ f) ∙ h)
    go false false e f = never (sym n ∙ rw (le-leb 33 b (ltb-false _ _ f), le-leb b 96 (ltb-false _ _ e)))

-- where neither a capital nor another stands, the run is over
over : (how : Manner) (l : List ℕ) → Stops capital l → run (other how) l ≡ 0 → run (letter how) l ≡ 0
unfolding run
over how [] s e = refl
over how (b ∷ bs) s e = go (letter how b) refl
  where
    go : (w : Bool) → letter how b ≡ w → run (letter how) (b ∷ bs) ≡ 0
    go true f =
        let z : 0 + run (other how) (b ∷ bs) ≡ 0 + 1 + run (other how) bs = run_more (other how) (b ∷ bs) 0 (omega arith) (letter_other how b s f) in
        absurd (omega (arith, z, e))
    go false f =
        let z : 0 ≡ 0 + run (letter how) (b ∷ bs) = run_end (letter how) (b ∷ bs) 0 (omega arith) f in
        omega (arith, z)

pub returns-then-others-eq0 : goal.returns-then-others-eq0
returns-then-others-eq0 c =
    let how = c.args.how in
    let s = c.args.s.now in
    let i = c.loop-i.i in
    let n = c.run-i.result in
    let m = i + n in
    let l = part m (length s) s in
    let k : n ≡ run capital (drop i s) = rw part_rest at c.run-i.ensures.0 in
    let e : c.count-others.result ≡ run (other how) l =
    count_from_yields_List c.take_while.result _ c.count-others.ensures.ran
    (YieldsList-from_take_while _ (other how) (YieldsList-from_slice l cc) c.take_while.ensures.closure c.take_while.ensures.done
    (λ x b q k. search (rules, tests)))
    ∙ length-prefix_len (other how) l ∙ run_prefix (other how) l in
    let t : Stops capital (drop m s) = rw (← k, drop-drop n i s) at (run_stops capital (drop i s)) in
    let o : run (other how) (drop m s) ≡ 0 = rw part_rest at (sym e ∙ c.if-others-eq0.true) in
    let z = over how (drop m s) t o in
    let q = run_part (letter how) capital (capital_letter how) s i n k ∙ c.loop-i.invariant.1 in
    (omega (arith, q, z), omega (arith, c.run-i.ensures.1, length_part i (length s) s (omega arith)))

pub loop-i-preserved : goal.loop-i-preserved
loop-i-preserved c =
    let how = c.args.how in
    let s = c.args.s.now in
    let i = c.loop-i.i in
    let n = c.run-i.result in
    let m = i + n in
    let l = part m (length s) s in
    let k : n ≡ run capital (drop i s) = rw part_rest at c.run-i.ensures.0 in
    let e : c.count-others.result ≡ run (other how) l =
    count_from_yields_List c.take_while.result _ c.count-others.ensures.ran
    (YieldsList-from_take_while _ (other how) (YieldsList-from_slice l cc) c.take_while.ensures.closure c.take_while.ensures.done
    (λ x b q k. search (rules, tests)))
    ∙ length-prefix_len (other how) l ∙ run_prefix (other how) l in
    let f : c.count-others.result ≡ run (other how) (drop m s) = rw part_rest at e in
    let q = run_part (letter how) capital (capital_letter how) s i n k ∙ c.loop-i.invariant.1 in
    let r = run_part (letter how) (other how) (other_letter how) s m c.count-others.result f in
    let a = length_part i (length s) s (omega arith) in
    let b : length l ≡ length s - m = length_part m (length s) s (omega (arith, a, c.run-i.ensures.1)) in
    (omega (arith, a, b, c.run-i.ensures.1, run_le (other how) l, e), r ∙ q)

pub returns : goal.returns
returns c =
    (run_none _ _ _ c.loop-i-test.false ∙ c.loop-i.invariant.1, search rules)
