-- What stands between an offset and its terminator: the keyword, the separators and the value, and the laws of rows 16
-- and 17.
-- Assumes nothing.
use Rattle.std.specs.Prelude.{◌≡◌, Bool, not, ◌&&◌, List, [], ◌∷◌, ℕ, suc, ◌-◌, ◌<◌, length, take, drop, ltb, eqb, Ok, Err}
use Rattle.std.proofs.Math.Path.{refl}
use Rattle.std.proofs.Common.{sym, ap, ◌∙◌, arith, take-append-drop, length-take-le}
use Rattle.std.proofs.Math.Bool.{true, false}
use borrow.Author.Tests.{eq-eqb, ne_eqb, lt-ltb}
use Rattle.refusal.specs.Rows.{pick, ruled}
use Rattle.refusal.specs.declared.Rule.TheVariants.{Character, KeywordOrder}
use Rattle.text.specs.declared.Manner.{Manner}
use Rattle.chars.specs.Chars.{blank, solid}
use Rattle.chars.specs.Runs.{run, all, Stops, run_le, run_all, run_append, all_weaker}
use Rattle.note.specs.Note.{value_ok}
use Rattle.text.specs.Manner.{letter, letter_solid, named, follows}
use Rattle.strings.specs.Strings.{key_len, key_of, gap_len, value_of, judged_of}

-- the first byte is there and is no separator
abbrev Solid : List ℕ → Type 0
Solid [] = ⊥
Solid (x ∷ xs) = solid x ≡ true

-- where the run of keyword characters ends at another character that is no separator, the keyword has that character
key_bad : (how : Manner) (b : List ℕ) → Solid (drop (run (letter how) b) b) → all (letter how) (key_of b) ≡ false
unfolding run all key_len
key_bad how [] s = absurd s
key_bad how (x ∷ bs) s = go (letter how x) refl s (key_bad how bs)
  where
    go : (w : Bool) → letter how x ≡ w → Solid (drop (pick w (suc (run (letter how) bs)) 0) (x ∷ bs))
        → (Solid (drop (run (letter how) bs) bs) → all (letter how) (take (run solid bs) bs) ≡ false)
        → all (letter how) (take (pick (solid x) (suc (run solid bs)) 0) (x ∷ bs)) ≡ false
    go true e h i = rw (letter_solid how x e, e) (i h)
    go false e h i = rw (h, e)

-- where it ends at a separator or at the end, it is the keyword
key_good : (how : Manner) (b : List ℕ) → Stops solid (drop (run (letter how) b) b) → key_len b ≡ run (letter how) b
unfolding key_len
key_good how b s =
    let n : ℕ = run (letter how) b in
    let a : all solid (take n b) ≡ true = all_weaker (letter how) solid (letter_solid how) (take n b) (run_all (letter how) b) in
    ap (run solid) (sym (take-append-drop n b)) ∙ run_append solid (take n b) (drop n b) a s ∙ length-take-le n b (run_le (letter how) b)

-- the code's test of what follows the run: g separators follow it, and something does
meets : (r : List ℕ) → (eqb (run blank r) 0 && ltb 0 (length r)) ≡ true → Solid r
unfolding run
meets [] h = absurd (let z : ◌≡◌ {A = ℕ} 0 1 = cc in omega arith)
meets (x ∷ xs) h = go (blank x) refl h
  where
    go : (w : Bool) → blank x ≡ w → (eqb (pick w (suc (run blank xs)) 0) 0 && ltb 0 (suc (length xs))) ≡ true → solid x ≡ true
    go true e k = absurd (let y = rw (ne_eqb (suc (run blank xs)) 0 (omega arith)) at k in let z : ◌≡◌ {A = ℕ} 0 1 = cc in omega arith)
    go false e k = rw e

parted : (r : List ℕ) → (eqb (run blank r) 0 && ltb 0 (length r)) ≡ false → Stops solid r
unfolding run
parted [] h = tt
parted (x ∷ xs) h = go (blank x) refl h
  where
    go : (w : Bool) → blank x ≡ w → (eqb (pick w (suc (run blank xs)) 0) 0 && ltb 0 (suc (length xs))) ≡ false → solid x ≡ false
    go true e k = rw e
    go false e k = absurd (let y = rw (lt-ltb 0 (suc (length xs)) (omega arith)) at k in let z : ◌≡◌ {A = ℕ} 0 1 = cc in omega arith)

-- ---- which answer it is, from the tests as the code makes them
module _ (how : Manner) (u prev b : List ℕ) where
  wrong_key : all (letter how) (key_of b) ≡ false → Err Character ≡ judged_of how u prev b
  unfolding judged_of
  wrong_key h = go (eqb (key_len b) 0)
    where
      go : (w : Bool) → Err Character ≡ pick w (Err Character)
          (ruled
          ((not (all (letter how) (key_of b)), Character)
          ∷ (not (value_ok u (named how (key_of b)) (value_of b)), Character)
          ∷ (not (follows how prev (key_of b)), KeywordOrder)
          ∷ [])
          Err (Ok (key_len b)))
      go true = refl
      go false = rw h

  no_key : key_len b ≡ 0 → Err Character ≡ judged_of how u prev b
  unfolding judged_of
  no_key h = rw (eq-eqb (key_len b) 0 h)

  module _ (n : ℕ) (e : n ≡ run (letter how) b) where
    pub judged_none : n ≡ 0 → Err Character ≡ judged_of how u prev b
    judged_none z = go b refl
      where
        none_run : run (letter how) b ≡ 0
        none_run = sym e ∙ z

        here : (x : ℕ) (xs : List ℕ) → b ≡ x ∷ xs → (w : Bool) → solid x ≡ w → Err Character ≡ judged_of how u prev b
        here x xs q true s = wrong_key (key_bad how b (rw (none_run, q) s))
        here x xs q false s = no_key (key_good how b (rw (none_run, q) s) ∙ none_run)

        go : (l : List ℕ) → b ≡ l → Err Character ≡ judged_of how u prev b
        go [] q = no_key (key_good how b (rw (none_run, q) tt) ∙ none_run)
        go (x ∷ xs) q = here x xs q (solid x) refl

    module _ (g : ℕ) (f : g ≡ run blank (drop n b)) where
      pub judged_char : (eqb g 0 && ltb 0 (length (drop n b))) ≡ true → Err Character ≡ judged_of how u prev b
      judged_char h = wrong_key (key_bad how b (rw e at (meets (drop n b) (rw f at h))))

      pub is_key : (eqb g 0 && ltb 0 (length (drop n b))) ≡ false → key_len b ≡ n
      is_key h = key_good how b (rw e at (parted (drop n b) (rw f at h))) ∙ sym e

      keys : key_len b ≡ n → all (letter how) (key_of b) ≡ true
      keys k = rw (k, e) (run_all (letter how) b)

      pub judged_value : 0 < n → (eqb g 0 && ltb 0 (length (drop n b))) ≡ false → value_ok u (named how (take n b)) (drop g (drop n b)) ≡ false
          → Err Character ≡ judged_of how u prev b
      unfolding judged_of gap_len
      judged_value s h v = let k = is_key h in let a = rw k at (keys k) in rw (k, ne_eqb n 0 (omega arith), a, ← f, v)

      pub judged_order : 0 < n → (eqb g 0 && ltb 0 (length (drop n b))) ≡ false → value_ok u (named how (take n b)) (drop g (drop n b)) ≡ true
          → follows how prev (take n b) ≡ false → Err KeywordOrder ≡ judged_of how u prev b
      unfolding judged_of gap_len
      judged_order s h v o = let k = is_key h in let a = rw k at (keys k) in rw (k, ne_eqb n 0 (omega arith), a, ← f, v, o)

      pub judged_good : 0 < n → (eqb g 0 && ltb 0 (length (drop n b))) ≡ false → value_ok u (named how (take n b)) (drop g (drop n b)) ≡ true
          → follows how prev (take n b) ≡ true → Ok n ≡ judged_of how u prev b
      unfolding judged_of gap_len
      judged_good s h v o = let k = is_key h in let a = rw k at (keys k) in rw (k, ne_eqb n 0 (omega arith), a, ← f, v, o)
