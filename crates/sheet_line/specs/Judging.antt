-- The rows of one line: a law for each answer, with the tests as the code makes them as premises, and what a line that
-- was let through has shown.
-- Assumes nothing.
use Rattle.std.specs.Prelude.{◌≡◌, refl, Bool, true, false, not, ◌&&◌, ◌||◌, List, [], ◌∷◌, ℕ, zero, suc, ◌+◌, ◌≤◌, ◌<◌, length, get_or, take, drop, leb, Result, Ok, Err}
use Rattle.std.proofs.Common.{arith}
use Rattle.std.proofs.Math.ListN.{get_or-eq_default}
use borrow.Author.Tests.{le-leb, lt-leb, leb-false, eq-eqb, ne_eqb, eqb-true, eqb-false, not-false}
use Rattle.refusal.specs.Rows.{pick, ruled_clear}
use Rattle.strings.specs.Walks.{wrong_keyword}
use Rattle.refusal.specs.Table.{refusal}
use Rattle.refusal.specs.Verdicts.{pair_parts}
use Rattle.refusal.specs.declared.Rule.{Rule}
use Rattle.refusal.specs.declared.Rule.TheVariants.{SheetLine, SheetOrder}
use Rattle.refusal.specs.declared.Part.TheVariants.{File}
use Rattle.chars.specs.Chars.{key_char}
use Rattle.chars.specs.Runs.{run, all}
use Rattle.key_order.specs.Order.{rises}
use Rattle.sheet_line.specs.SheetLine.{plain, line_len, line_key_len, spaced, continues, line_rows, line_judged, on_line_judged}
use Rattle.sheet_line.specs.SheetLine.{line_step}

-- ---- which answer it is: n is the number of keyword characters at the line's start
module _ (prev l : List ℕ) (n : ℕ) (e : n ≡ run key_char l) where
  pub judged_none : n ≡ 0 → Err SheetLine ≡ line_judged prev l
  unfolding line_judged line_key_len
  judged_none z = rw (← e, eq-eqb n 0 z)

  pub judged_short : 0 < n → length l ≤ n → Err SheetLine ≡ line_judged prev l
  unfolding line_judged line_key_len
  judged_short s h = rw (← e, ne_eqb n 0 (omega arith), get_or-eq_default l 0 h)

  pub judged_other : 0 < n → (get_or l n 0 ≡ 9 → ⊥) → Err SheetLine ≡ line_judged prev l
  unfolding line_judged line_key_len
  judged_other s h = rw (← e, ne_eqb n 0 (omega arith), ne_eqb (get_or l n 0) 9 h)

  pub judged_value : 0 < n → get_or l n 0 ≡ 9 → all plain (drop (n + 1) l) ≡ false → Err SheetLine ≡ line_judged prev l
  unfolding line_judged line_key_len
  judged_value s t v = rw (← e, ne_eqb n 0 (omega arith), eq-eqb (get_or l n 0) 9 t, v)

  pub judged_space : 0 < n → get_or l n 0 ≡ 9 → all plain (drop (n + 1) l) ≡ true → (spaced (drop (n + 1) l) && not (continues prev (take n l))) ≡ true
      → Err SheetLine ≡ line_judged prev l
  unfolding line_judged line_key_len
  judged_space s t v w = rw (← e, ne_eqb n 0 (omega arith), eq-eqb (get_or l n 0) 9 t, v, w)

  pub judged_order : 0 < n → get_or l n 0 ≡ 9 → all plain (drop (n + 1) l) ≡ true → (spaced (drop (n + 1) l) && not (continues prev (take n l))) ≡ false
      → (continues prev (take n l) || rises prev (take n l)) ≡ false → Err SheetOrder ≡ line_judged prev l
  unfolding line_judged line_key_len
  judged_order s t v w o = rw (← e, ne_eqb n 0 (omega arith), eq-eqb (get_or l n 0) 9 t, v, w, o)

  pub judged_good : 0 < n → get_or l n 0 ≡ 9 → all plain (drop (n + 1) l) ≡ true → (spaced (drop (n + 1) l) && not (continues prev (take n l))) ≡ false
      → (continues prev (take n l) || rises prev (take n l)) ≡ true → Ok n ≡ line_judged prev l
  unfolding line_judged line_key_len
  judged_good s t v w o = rw (← e, ne_eqb n 0 (omega arith), eq-eqb (get_or l n 0) 9 t, v, w, o)

-- ---- what a line that was let through has shown

pub record Told (prev l : List ℕ) (w : ℕ) : Type 0 where
  pub long : line_key_len l ≡ w
  pub some : 0 < w
  pub tab : get_or l w 0 ≡ 9
  pub plains : all plain (drop (w + 1) l) ≡ true
  pub opens : (spaced (drop (w + 1) l) && not (continues prev (take w l))) ≡ false
  pub follows : (continues prev (take w l) || rises prev (take w l)) ≡ true
  pub within : w < length l

tab_within : (l : List ℕ) (w : ℕ) → get_or l w 0 ≡ 9 → w < length l
tab_within [] w h = absurd (omega arith)
tab_within (b ∷ l) zero h = omega arith
tab_within (b ∷ l) (suc w) h = let i = tab_within l w h in omega arith

pub judged_told : (prev l : List ℕ) (w : ℕ) → line_judged prev l ≡ Ok w → Told prev l w
unfolding line_judged
judged_told prev l w e =
    let c = ruled_clear Err (Ok w) (wrong_keyword w) (line_rows prev l) (Ok (line_key_len l)) e in
    let k = c.1 in
    let q : line_key_len l ≡ w = cc in
    let some = eqb-false (line_key_len l) 0 c.0.0 in
    let t : get_or l (line_key_len l) 0 ≡ 9 = eqb-true _ _ (not-false _ c.0.1.0) in
    let p : all plain (drop (line_key_len l + 1) l) ≡ true = not-false _ c.0.1.1.0 in
    let o : (spaced (drop (line_key_len l + 1) l) && not (continues prev (take (line_key_len l) l))) ≡ false = c.0.1.1.1.0 in
    let f : (continues prev (take (line_key_len l) l) || rises prev (take (line_key_len l) l)) ≡ true = not-false _ c.0.1.1.1.1.0 in
    record {
      long = q;
      some = omega (arith, ne_zero (line_key_len l) some);
      tab = rw q at t;
      plains = rw q at p;
      opens = rw q at o;
      follows = rw q at f;
      within = tab_within l w (rw q at t);
    }
  where
    ne_zero : (n : ℕ) → (n ≡ 0 → ⊥) → 0 < n
    ne_zero zero h = absurd (h refl)
    ne_zero (suc n) h = omega arith

-- ---- a step: s is what is left of the sheet, n the length of its first line
module _ (prev s : List ℕ) (at n : ℕ) (e : n ≡ line_len s) where
  pub step_open : length s ≤ n → Err (refusal SheetLine File at) ≡ line_step prev s at
  unfolding line_step
  step_open h = rw (← e, le-leb (length s) n h)

  pub step_good : n < length s → (w : ℕ) → line_judged prev (take n s) ≡ Ok w → Ok (n, w) ≡ line_step prev s at
  unfolding line_step
  step_good h w j = rw (← e, lt-leb (length s) n h, j)

  pub step_bad : n < length s → (r : Rule) → line_judged prev (take n s) ≡ Err r → Err (refusal r File at) ≡ line_step prev s at
  unfolding line_step
  step_bad h r j = rw (← e, lt-leb (length s) n h, j)

-- a step past a line has a whole line, with its keyword
pub next_told : (prev s : List ℕ) (at n w : ℕ) → line_step prev s at ≡ Ok (n, w)
    → (line_len s ≡ n) × (n < length s) × (line_judged prev (take n s) ≡ Ok w) × Told prev (take n s) w
unfolding line_step
next_told prev s at n w h = go (leb (length s) (line_len s)) refl h
  where
    judges : (j : Result ℕ Rule) → line_judged prev (take (line_len s) s) ≡ j → on_line_judged j at (line_len s) ≡ Ok (n, w) → line_len s < length s
        → (line_len s ≡ n) × (n < length s) × (line_judged prev (take n s) ≡ Ok w) × Told prev (take n s) w
    judges (Ok k) q g l =
        let p : ◌≡◌ {A = ℕ × ℕ} (line_len s, k) (n, w) = cc in
        let (a, b) = pair_parts p in
        let j : line_judged prev (take n s) ≡ Ok w = rw (a, b) at q in
        (a, rw a at l, j, judged_told prev (take n s) w j)
    judges (Err r) q g l = let z : ◌≡◌ {A = ℕ} 0 1 = cc in absurd (omega arith)

    go : (b : Bool) → leb (length s) (line_len s) ≡ b
        → pick b (Err (refusal SheetLine File at)) (on_line_judged (line_judged prev (take (line_len s) s)) at (line_len s)) ≡ Ok (n, w)
        → (line_len s ≡ n) × (n < length s) × (line_judged prev (take n s) ≡ Ok w) × Told prev (take n s) w
    go true q g = let z : ◌≡◌ {A = ℕ} 0 1 = cc in absurd (omega arith)
    go false q g = judges (line_judged prev (take (line_len s) s)) refl g (leb-false (length s) (line_len s) q)
