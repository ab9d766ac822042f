-- A sheet without any order of checking: the bytes that a list of lines is, and which lists of lines may be given
-- (document 01, "What we write"). Theorems: a sheet passes 25 and 26 exactly where it is such a list's bytes, and that
-- list is the one that is read off it.
-- Assumes nothing.
use Rattle.std.specs.Prelude.{◌≡◌, Bool, true, false, not, ◌&&◌, ◌||◌, List, [], ◌∷◌, ◌++◌, ℕ, zero, suc, ◌+◌, ◌≤◌, ◌<◌, length, get_or, take, drop, eqb, Result, Ok, Err}
use Rattle.std.proofs.Math.Path.{refl}
use Rattle.std.proofs.Common.{sym, ap, ap₂, ◌∙◌, append_assoc, le_refl, add-one, arith, length-append, length-drop, take-append-drop, length-take-le, drop-cons, take-take, eqb-true}
use Rattle.std.proofs.Math.Seq.{take-append_seam, drop-append-add, get_or-append_seam, split_at}
use Rattle.std.proofs.lemmas.Bool.{not-false}
use Rattle.chars.specs.Chars.{in_line, key_char}
use Rattle.chars.specs.Runs.{run, all, Stops, all_append, all_weaker, run_all, run_stops, run_append}
use Rattle.key_order.specs.Order.{rises}
use Rattle.sheet_line.specs.SheetLine.{plain, line_len, line_key_len, spaced, continues, line_judged, line_step}
use Rattle.sheet.specs.Lines.{Line, on_line_step, check_from, lines_verdict, sheet_lines_from, sheet_lines}
use Rattle.sheet_line.specs.Judging.{Told, judged_good, step_good, next_told}
use Rattle.sheet.specs.Counting.{check_step, check_none, lines_none, lines_step}
use Rattle.refusal.specs.declared.Refusal.{Refusal}
use Rattle.refusal.specs.Verdicts.{accepted}

-- "keyword (as above), tab, value", and 0Ah behind each
abbrev pub bytes_of_line : Line → List ℕ
bytes_of_line l = l.key ++ (9 ∷ l.value)

unfoldable pub sheet_of : List Line → List ℕ
sheet_of [] = []
sheet_of (l ∷ ls) = bytes_of_line l ++ (10 ∷ sheet_of ls)

-- a line that may be given behind a line with the keyword prev
pub record GoodLine (prev : List ℕ) (l : Line) : Type 0 where
  pub some : 0 < length l.key
  pub keys : all key_char l.key ≡ true
  pub plains : all plain l.value ≡ true
  -- only a further line of a NOTE may start with a space, and only it need not rise
  pub opens : continues prev l.key ≡ false → spaced l.value ≡ false
  pub follows : continues prev l.key ≡ false → rises prev l.key ≡ true

abbrev pub GoodLines : List ℕ → List Line → Type 0
GoodLines prev [] = Unit {0}
GoodLines prev (l ∷ ls) = GoodLine prev l × GoodLines l.key ls

-- ---- a good line is read as it is

key_in_line : (b : ℕ) → key_char b ≡ true → in_line b ≡ true
key_in_line b h = go (eqb b 10) refl
  where
    go : (w : Bool) → eqb b 10 ≡ w → not w ≡ true
    go false e = refl
    go true e =
        let q : b ≡ 10 = eqb-true b 10 e in
        let k : false ≡ true = rw q at h in
        let z : ◌≡◌ {A = ℕ} 0 1 = cc in
        absurd (omega arith)

plain_in_line : (b : ℕ) → plain b ≡ true → in_line b ≡ true
plain_in_line b h = go (eqb b 10) refl
  where
    go : (w : Bool) → eqb b 10 ≡ w → not w ≡ true
    go false e = refl
    go true e =
        let q : b ≡ 10 = eqb-true b 10 e in
        let k : false ≡ true = rw q at h in
        let z : ◌≡◌ {A = ℕ} 0 1 = cc in
        absurd (omega arith)

opens_so : (a b : Bool) → (b ≡ false → a ≡ false) → (a && not b) ≡ false
opens_so true true h = refl
opens_so true false h = let z : ◌≡◌ {A = ℕ} 0 1 = cc (h refl) in absurd (omega arith)
opens_so false b h = refl

follows_so : (a b : Bool) → (a ≡ false → b ≡ true) → (a || b) ≡ true
follows_so true b h = refl
follows_so false b h = h refl

opens_back : (a b : Bool) → (a && not b) ≡ false → b ≡ false → a ≡ false
opens_back true true h k = let z : ◌≡◌ {A = ℕ} 0 1 = cc in absurd (omega arith)
opens_back true false h k = h
opens_back false b h k = refl

follows_back : (a b : Bool) → (a || b) ≡ true → a ≡ false → b ≡ true
follows_back true b h k = let z : ◌≡◌ {A = ℕ} 0 1 = cc in absurd (omega arith)
follows_back false b h k = h

module _ {prev : List ℕ} {l : Line} (good : GoodLine prev l) where
  pub long_line : length (bytes_of_line l) ≡ length l.key + 1 + length l.value
  long_line = let a = length-append l.key (9 ∷ l.value) in omega arith

  line_in : all in_line (bytes_of_line l) ≡ true
  unfolding all
  line_in =
      all_append in_line l.key (9 ∷ l.value) (all_weaker key_char in_line key_in_line l.key good.keys)
      (all_weaker plain in_line plain_in_line l.value good.plains)

  pub good_line : (r : List ℕ) → line_len (bytes_of_line l ++ (10 ∷ r)) ≡ length (bytes_of_line l)
  unfolding line_len
  good_line r = run_append in_line (bytes_of_line l) (10 ∷ r) line_in refl

  pub good_key : run key_char (bytes_of_line l) ≡ length l.key
  good_key = run_append key_char l.key (9 ∷ l.value) good.keys refl

  pub key_back : take (length l.key) (bytes_of_line l) ≡ l.key
  key_back = take-append_seam l.key (9 ∷ l.value)

  pub value_back : drop (length l.key + 1) (bytes_of_line l) ≡ l.value
  value_back = drop-append-add l.key (9 ∷ l.value) 1

  good_judged : line_judged prev (bytes_of_line l) ≡ Ok (length l.key)
  good_judged =
      sym
      (judged_good prev (bytes_of_line l) (length l.key) (sym good_key) good.some
      (get_or-append_seam l.key 9 l.value 0)
      (rw value_back good.plains)
      (rw (value_back, key_back) (opens_so (spaced l.value) (continues prev l.key) good.opens))
      (rw key_back (follows_so (continues prev l.key) (rises prev l.key) good.follows)))

  pub good_step : (r : List ℕ) (at : ℕ) → line_step prev (bytes_of_line l ++ (10 ∷ r)) at ≡ Ok (length (bytes_of_line l), length l.key)
  good_step r at =
      let b : List ℕ = bytes_of_line l in
      let a = length-append b (10 ∷ r) in
      sym
      (step_good prev (b ++ (10 ∷ r)) at (length b) (sym (good_line r)) (omega arith) (length l.key)
      (rw (take-append_seam b (10 ∷ r)) good_judged))

-- what stands behind a line, and its keyword
pub after_line_lem : (b r : List ℕ) → drop (length b + 1) (b ++ (10 ∷ r)) ≡ r
after_line_lem b r = drop-append-add b (10 ∷ r) 1

pub line_key_lem : (l : Line) (r : List ℕ) → take (length l.key) (bytes_of_line l ++ (10 ∷ r)) ≡ l.key
line_key_lem l r = rw (append_assoc l.key (9 ∷ l.value) (10 ∷ r)) (take-append_seam l.key (9 ∷ (l.value ++ (10 ∷ r))))

line_value_lem : (l : Line) (r : List ℕ) → drop (length l.key + 1) (take (length (bytes_of_line l)) (bytes_of_line l ++ (10 ∷ r))) ≡ l.value
line_value_lem l r = rw (take-append_seam (bytes_of_line l) (10 ∷ r)) (drop-append-add l.key (9 ∷ l.value) 1)

-- ---- good lines are accepted, and read off again

good_from : (m : ℕ) (prev : List ℕ) (ls : List Line) (at : ℕ) → GoodLines prev ls → length (sheet_of ls) ≤ m
    → (check_from m prev (sheet_of ls) at ≡ accepted) × (sheet_lines_from m (sheet_of ls) ≡ ls)
unfolding sheet_of
good_from m prev [] at g h = (check_none m prev [] at refl, lines_none m [] refl)
good_from zero prev (l ∷ ls) at g h = absurd (let a = length-append (bytes_of_line l) (10 ∷ sheet_of ls) in omega arith)
good_from (suc m) prev (l ∷ ls) at g h =
    let b : List ℕ = bytes_of_line l in
    let a : length (b ++ (10 ∷ sheet_of ls)) ≡ length b + suc (length (sheet_of ls)) = length-append b (10 ∷ sheet_of ls) in
    let s : line_step prev (b ++ (10 ∷ sheet_of ls)) at ≡ Ok (length b, length l.key) = good_step g.0 (sheet_of ls) at in
    let i = good_from m l.key ls (at + length b + 1) g.1 (omega arith) in (
      check_step m prev (b ++ (10 ∷ sheet_of ls)) at (omega arith) ∙ rw (s, line_key_lem l (sheet_of ls), after_line_lem b (sheet_of ls)) i.0,
      lines_step m prev (b ++ (10 ∷ sheet_of ls)) at (length b) (length l.key) s
          ∙ rw (line_key_lem l (sheet_of ls), line_value_lem l (sheet_of ls), after_line_lem b (sheet_of ls), i.1),
    )

pub good_accepted : (ls : List Line) → GoodLines [] ls → lines_verdict (sheet_of ls) ≡ accepted
unfolding lines_verdict
good_accepted ls g = (good_from (length (sheet_of ls)) [] ls 0 g (le_refl (length (sheet_of ls)))).0

pub lines_read : (prev : List ℕ) (ls : List Line) → GoodLines prev ls → sheet_lines (sheet_of ls) ≡ ls
unfolding sheet_lines
lines_read prev ls g = (good_from (length (sheet_of ls)) prev ls 0 g (le_refl (length (sheet_of ls)))).1

-- ---- what is accepted is good lines

-- a line that was let through is its keyword, a tab and its value, with 0Ah behind
next_line : (prev s : List ℕ) (at n w : ℕ) → line_step prev s at ≡ Ok (n, w)
    → (s ≡ bytes_of_line (record { key = take w s; value = drop (w + 1) (take n s) }) ++ (10 ∷ drop (n + 1) s))
    × GoodLine prev (record { key = take w s; value = drop (w + 1) (take n s) })
unfolding line_len line_key_len
next_line prev s at n w h =
    let b = next_told prev s at n w h in
    let t : Told prev (take n s) w = b.3 in
    let n_is : run in_line s ≡ n = b.0 in
    let w_is : run key_char (take n s) ≡ w = t.long in
    let low : n < length s = b.1 in
    let l : length (take n s) ≡ n = length-take-le n s (omega arith) in
    let wn : w < length (take n s) = t.within in
    let k : take w (take n s) ≡ take w s = take-take w n s (omega arith) in
    let lk : length (take w s) ≡ w = length-take-le w s (omega arith) in
    let ended : Stops in_line (drop n s) = rw n_is at (run_stops in_line s) in
    let stop : in_line (get_or s n 0) ≡ false = rw (drop-cons s n 0 low) at ended in
    let ten : get_or s n 0 ≡ 10 = eqb-true (get_or s n 0) 10 (not-false (eqb (get_or s n 0) 10) stop) in
    let tail : drop n s ≡ 10 ∷ drop (n + 1) s = drop-cons s n 0 low ∙ ap₂ (λ (x : ℕ) (j : ℕ). x ∷ drop j s) ten (sym (add-one n)) in
    let mid : take n s ≡ take w s ++ (9 ∷ drop (w + 1) (take n s)) =
    split_at (take n s) w 0 wn ∙ rw (k, t.tab, add-one w) in
    let keys : all key_char (take w (take n s)) ≡ true = rw w_is at (run_all key_char (take n s)) in
    let opens : (spaced (drop (w + 1) (take n s)) && not (continues prev (take w s))) ≡ false = rw k at t.opens in
    let follows : (continues prev (take w s) || rises prev (take w s)) ≡ true = rw k at t.follows in (
      sym (take-append-drop n s) ∙ ap₂ (λ (x y : List ℕ). x ++ y) mid tail,
      record {
        some = omega (arith, t.some);
        keys = rw k at keys;
        plains = t.plains;
        opens = opens_back (spaced (drop (w + 1) (take n s))) (continues prev (take w s)) opens;
        follows = follows_back (continues prev (take w s)) (rises prev (take w s)) follows;
      },
    )

lined_from : (m : ℕ) (prev s : List ℕ) (at : ℕ) → length s ≤ m → check_from m prev s at ≡ accepted
    → (s ≡ sheet_of (sheet_lines_from m s)) × GoodLines prev (sheet_lines_from m s)
unfolding sheet_of sheet_lines_from
lined_from zero prev [] at h e = (refl, tt)
lined_from zero prev (b ∷ s) at h e = absurd (omega arith)
lined_from (suc m) prev [] at h e = (refl, tt)
lined_from (suc m) prev (b ∷ bs) at h e =
    go (line_step prev (b ∷ bs) at) refl (sym (check_step m prev (b ∷ bs) at (omega arith)) ∙ e) (λ q r j d k. lined_from m q r j d k)
  where
    go : (st : Result (ℕ × ℕ) Refusal) → line_step prev (b ∷ bs) at ≡ st
        → on_line_step st (λ n w. check_from m (take w (b ∷ bs)) (drop (n + 1) (b ∷ bs)) (at + n + 1)) ≡ accepted
        → ((q r : List ℕ) (j : ℕ) → length r ≤ m → check_from m q r j ≡ accepted → (r ≡ sheet_of (sheet_lines_from m r)) × GoodLines q (sheet_lines_from m r))
        → (b ∷ bs ≡ sheet_of (sheet_lines_from (suc m) (b ∷ bs))) × GoodLines prev (sheet_lines_from (suc m) (b ∷ bs))
    go (Err r) q k again = let z : ◌≡◌ {A = ℕ} 0 1 = cc in absurd (omega arith)
    go (Ok (n, w)) q k again =
        let d = length-drop (n + 1) (b ∷ bs) in
        let i = again (take w (b ∷ bs)) (drop (n + 1) (b ∷ bs)) (at + n + 1) (omega arith) k in
        let p = next_line prev (b ∷ bs) at n w q in
        let ls = lines_step m prev (b ∷ bs) at n w q in
        let l : Line = record { key = take w (b ∷ bs); value = drop (w + 1) (take n (b ∷ bs)) } in
        rw ls (p.0 ∙ ap (λ (r : List ℕ). bytes_of_line l ++ (10 ∷ r)) i.0, (p.1, i.1))

pub accepted_lines : (s : List ℕ) → lines_verdict s ≡ accepted → (s ≡ sheet_of (sheet_lines s)) × GoodLines [] (sheet_lines s)
unfolding lines_verdict sheet_lines
accepted_lines s e = lined_from (length s) [] s 0 (le_refl (length s)) e

-- one list only
pub sheet_lines_once : (s : List ℕ) (ls ms : List Line) → s ≡ sheet_of ls → s ≡ sheet_of ms → GoodLines [] ls → GoodLines [] ms → ls ≡ ms
sheet_lines_once s ls ms a b g h = sym (lines_read [] ls g) ∙ ap sheet_lines (sym a ∙ b) ∙ lines_read [] ms h
