-- The walk that checks a sheet and counts its area: what holds where a line starts, and a law for each turn.
-- Assumes nothing.
use Rattle.std.specs.Prelude.{◌≡◌, Bool, ◌&&◌, ◌||◌, take, drop, Ok, Err}
use Rattle.std.proofs.Math.Path.{refl, sym}
use Rattle.std.proofs.Common.{ap, ◌∙◌, length-take-le, take-take, drop-drop}
use Rattle.std.proofs.Math.Bool.{true, false}
use mathlib.Core.List.{List, [], ◌∷◌}
use Prim.Native.Nat.{ℕ, zero, suc, ◌+◌, ◌-◌, ◌≤◌, ◌<◌}
use native.Mathlib.Omega.{arith}
use Rattle.std.proofs.Math.ListN.{length, length-drop}
use Rattle.std.proofs.Math.Dec.{ltb}
use borrow.Author.Tests.{lt-ltb, le-ltb, ltb-true, ne_eqb, eq-eqb}
use Rattle.word.specs.Part.{part}
use Rattle.word.specs.Round.{round4}
use Rattle.refusal.specs.Verdicts.{asked, accepted}
use Rattle.refusal.specs.Rows.{pick}
use Rattle.refusal.specs.Table.{refusal}
use Rattle.refusal.specs.declared.Refusal.{Refusal}
use Rattle.refusal.specs.declared.Rule.TheVariants.{AreaSize}
use Rattle.refusal.specs.declared.Part.TheVariants.{File}
use Rattle.chars.specs.Chars.{note}
use Rattle.chars.specs.Runs.{same}
use Rattle.key_order.specs.Order.{rises, rises_note}
use Rattle.sheet_line.specs.SheetLine.{line_len, line_key_len, continues, line_step}
use Rattle.sheet.specs.Lines.{Line, on_line_step, check_from, lines_verdict, sheet_lines_from}
use Rattle.sheet.specs.Area.{area_most, sheet_strings, text_size, area_size, sized, measured_of}
use Rattle.sheet_line.specs.Judging.{next_told}
use Rattle.sheet.specs.Sizes.{line_cost, costs, capped}

-- ---- one line of a walk

-- behind the line of n bytes that starts at a place
pub past_line : (s : List ℕ) (at n : ℕ) → drop (n + 1) (drop at s) ≡ drop (at + n + 1) s
past_line s at n = let q : at + (n + 1) ≡ at + n + 1 = omega arith in drop-drop (n + 1) at s ∙ ap (λ (j : ℕ). drop j s) q

pub check_step : (m : ℕ) (prev s : List ℕ) (at : ℕ) → 0 < length s
    → check_from (suc m) prev s at ≡ on_line_step (line_step prev s at) (λ n w. check_from m (take w s) (drop (n + 1) s) (at + n + 1))
unfolding check_from
check_step m prev s at h = rw (ne_eqb (length s) 0 (omega arith))

pub check_none : (m : ℕ) (prev s : List ℕ) (at : ℕ) → length s ≡ 0 → check_from m prev s at ≡ accepted
unfolding check_from
check_none zero prev s at h = refl
check_none (suc m) prev s at h = rw (eq-eqb (length s) 0 h)

pub lines_none : (m : ℕ) (s : List ℕ) → length s ≡ 0 → sheet_lines_from m s ≡ []
unfolding sheet_lines_from
lines_none zero s h = refl
lines_none (suc m) s h = rw (eq-eqb (length s) 0 h)

-- a step past a line takes it off the list of lines
pub lines_step : (m : ℕ) (prev s : List ℕ) (at n w : ℕ) → line_step prev s at ≡ Ok (n, w)
    → sheet_lines_from (suc m) s ≡ record { key = take w s; value = drop (w + 1) (take n s) } ∷ sheet_lines_from m (drop (n + 1) s)
unfolding sheet_lines_from
lines_step m prev s at n w h =
    let b = next_told prev s at n w h in
    let n_is : line_len s ≡ n = b.0 in
    let k : line_key_len (take n s) ≡ w = b.3.long in
    let i : w < length (take n s) = b.3.within in
    let l : length (take n s) ≡ n = length-take-le n s (omega (arith, b.1)) in
    rw (ne_eqb (length s) 0 (omega (arith, b.1)), n_is, k, take-take w n s (omega arith))

-- what a line costs depends on whether it continues a NOTE
pub costs_step : (t u prev : List ℕ) (l : Line) (ls : List Line) → (continues prev l.key || rises prev l.key) ≡ true
    → costs t u (same prev note) (l ∷ ls) ≡ line_cost t u (continues prev l.key) (length l.key) (length l.value) + costs t u (same l.key note) ls
unfolding continues costs
costs_step t u prev l ls h = go (same prev note) (same l.key note) refl refl h
  where
    go : (a b : Bool) → same prev note ≡ a → same l.key note ≡ b → ((a && b) || rises prev l.key) ≡ true
        → costs t u a (l ∷ ls) ≡ line_cost t u (a && b) (length l.key) (length l.value) + costs t u b ls
    go true true d e k = refl
    go true false d e k = let r = rises_note prev l.key d in let z : ◌≡◌ {A = ℕ} 0 1 = cc in absurd (omega arith)
    go false b d e k = ap (λ (x : Bool). line_cost t u false (length l.key) (length l.value) + costs t u x ls) e

pub capped_again : (n x m : ℕ) → n ≡ capped x → capped (n + m) ≡ capped (x + m)
capped_again n x m e = go (ltb area_most x) refl e
  where
    go : (b : Bool) → ltb area_most x ≡ b → n ≡ pick b (area_most + 1) x → capped (n + m) ≡ capped (x + m)
    go true q k = let l = ltb-true area_most x q in rw (lt-ltb area_most (n + m) (omega arith), lt-ltb area_most (x + m) (omega arith))
    go false q k = rw k

-- ---- where a line starts: the check from here answers as the whole check, and what was counted with what is to come
-- makes the whole

pub record Counted (t u s : List ℕ) (at k g n : ℕ) : Type 0 where
  pub fuel : ℕ
  pub enough : length s - at ≤ fuel
  pub checked : check_from fuel (part k g s) (drop at s) at ≡ lines_verdict s
  pub exact : ℕ
  pub told : n ≡ capped exact
  pub whole : exact + costs t u (same (part k g s) note) (sheet_lines_from fuel (drop at s)) ≡ text_size t (sheet_strings u s)

pub turn_fits : (prev s : List ℕ) (at o w : ℕ) → at < length s → line_step prev (drop at s) at ≡ Ok (o, w) → (w < o) × (at + o < length s)
turn_fits prev s at o w low h =
    let b = next_told prev (drop at s) at o w h in
    let i : w < length (take o (drop at s)) = b.3.within in
    let d = length-drop at s in
    let l : length (take o (drop at s)) ≡ o = length-take-le o (drop at s) (omega (arith, b.1)) in
    (omega arith, omega (arith, b.1))

module _ (t u s : List ℕ) (at k g n : ℕ) (c : Counted t u s at k g n) where
  pub counted_turn : at < length s → (o w x : ℕ) → line_step (part k g s) (drop at s) at ≡ Ok (o, w)
      → x ≡ capped (n + line_cost t u (continues (part k g s) (part at (at + w) s)) w (o - w - 1)) → Counted t u s (at + o + 1) at (at + w) x
  counted_turn low o w x h e = go c.fuel c.enough c.checked c.whole
    where
      go : (m : ℕ) → length s - at ≤ m → check_from m (part k g s) (drop at s) at ≡ lines_verdict s
          → c.exact + costs t u (same (part k g s) note) (sheet_lines_from m (drop at s)) ≡ text_size t (sheet_strings u s)
          → Counted t u s (at + o + 1) at (at + w) x
      go zero a b d = absurd (omega arith)
      go (suc m) a b d =
          let f = turn_fits (part k g s) s at o w low h in
          let long : length (drop at s) ≡ length s - at = length-drop at s in
          let told = (next_told (part k g s) (drop at s) at o w h).3 in
          let line : length (take o (drop at s)) ≡ o = length-take-le o (drop at s) (omega (arith, f.1)) in
          let q : at + w - at ≡ w = omega arith in
          let key : take w (drop at s) ≡ part at (at + w) s = ap (λ (j : ℕ). take j (drop at s)) (sym q) in
          let rest : drop (o + 1) (drop at s) ≡ drop (at + o + 1) s = past_line s at o in
          let same_key : take w (take o (drop at s)) ≡ part at (at + w) s = take-take w o (drop at s) (omega (arith, f.0)) ∙ key in
          let long_key : length (part at (at + w) s) ≡ w = ap length (sym key) ∙ length-take-le w (drop at s) (omega (arith, f.0, f.1)) in
          let behind = length-drop (w + 1) (take o (drop at s)) in
          let long_value : length (drop (w + 1) (take o (drop at s))) ≡ o - w - 1 = omega arith in
          let cont : Bool = continues (part k g s) (part at (at + w) s) in
          let l : Line = record { key = part at (at + w) s; value = drop (w + 1) (take o (drop at s)) } in
          let ls : List Line = sheet_lines_from m (drop (at + o + 1) s) in
          let cut : sheet_lines_from (suc m) (drop at s) ≡ l ∷ ls = lines_step m (part k g s) (drop at s) at o w h ∙ rw (key, rest) in
          let cost : costs t u (same (part k g s) note) (l ∷ ls) ≡ line_cost t u cont w (o - w - 1) + costs t u (same (part at (at + w) s) note) ls =
          costs_step t u (part k g s) l ls (rw same_key at told.follows) ∙ rw (long_key, long_value) in
          let sum : costs t u (same (part k g s) note) (sheet_lines_from (suc m) (drop at s)) ≡ line_cost t u cont w (o - w - 1) + costs t u
          (same (part at (at + w) s) note) ls =
          ap (λ (z : List Line). costs t u (same (part k g s) note) z) cut ∙ cost in
          record {
            fuel = m;
            enough = omega arith;
            checked = sym (check_step m (part k g s) (drop at s) at (omega arith) ∙ rw (h, key, rest)) ∙ b;
            exact = c.exact + line_cost t u cont w (o - w - 1);
            told = e ∙ capped_again n c.exact (line_cost t u cont w (o - w - 1)) c.told;
            whole = omega arith;
          }

  pub counted_bad : at < length s → (r : Refusal) → line_step (part k g s) (drop at s) at ≡ Err r → Err r ≡ measured_of t u s
  unfolding measured_of
  counted_bad low r h = go c.fuel c.enough c.checked
    where
      go : (m : ℕ) → length s - at ≤ m → check_from m (part k g s) (drop at s) at ≡ lines_verdict s
          → Err r ≡ asked Err (lines_verdict s) (sized (area_size t u s))
      go zero a b = absurd (omega arith)
      go (suc m) a b =
          let long : length (drop at s) ≡ length s - at = length-drop at s in
          let v : lines_verdict s ≡ Err r = sym b ∙ check_step m (part k g s) (drop at s) at (omega arith) ∙ rw h in
          rw v

  -- where no line is left all is counted
  counted_all : length s ≤ at → (lines_verdict s ≡ accepted) × (text_size t (sheet_strings u s) ≡ c.exact)
  unfolding costs
  counted_all h =
      let none : length (drop at s) ≡ 0 = length-drop at s ∙ (let z : length s - at ≡ 0 = omega arith in z) in (
        sym c.checked ∙ check_none c.fuel (part k g s) (drop at s) at none,
        sym c.whole ∙ rw (lines_none c.fuel (drop at s) none) (no_more (same (part k g s) note)),
      )
    where
      no_more : (b : Bool) → c.exact + costs t u b [] ≡ c.exact
      no_more true = omega arith
      no_more false = omega arith

  pub counted_large : length s ≤ at → area_most < round4 n → Err (refusal AreaSize File 0) ≡ measured_of t u s
  unfolding measured_of area_size
  counted_large h l =
      let a = counted_all h in
      rw (a.0, a.1, lt-ltb area_most (round4 c.exact) (go (ltb area_most c.exact) refl c.told))
    where
      go : (b : Bool) → ltb area_most c.exact ≡ b → n ≡ pick b (area_most + 1) c.exact → area_most < round4 c.exact
      go true q e = let m = ltb-true area_most c.exact q in omega arith
      go false q e = omega arith

  pub counted_size : length s ≤ at → round4 n ≤ area_most → Ok (round4 n) ≡ measured_of t u s
  unfolding measured_of area_size
  counted_size h l =
      let a = counted_all h in
      let e : c.exact ≡ n = go (ltb area_most c.exact) c.told in
      rw (a.0, a.1, e, le-ltb area_most (round4 n) l)
    where
      go : (b : Bool) → n ≡ pick b (area_most + 1) c.exact → c.exact ≡ n
      go true k = absurd (omega arith)
      go false k = sym k

-- a line's cost, added piece by piece
pub grown_note : (n lu v a b : ℕ) → a ≡ capped (n + lu) → b ≡ capped (a + v) → b ≡ capped (n + (lu + v))
grown_note n lu v a b d e = let q : n + lu + v ≡ n + (lu + v) = omega arith in e ∙ capped_again a (n + lu) v d ∙ ap (λ (z : ℕ). capped z) q

pub grown_string : (n w v lt a b c d : ℕ) → a ≡ capped (n + 3) → b ≡ capped (a + w) → c ≡ capped (b + v) → d ≡ capped (c + lt)
    → d ≡ capped (n + (3 + w + v + lt))
grown_string n w v lt a b c d ea eb ec ed =
    let q : n + (3 + w) + v + lt ≡ n + (3 + w + v + lt) = omega arith in
    let b_is : b ≡ capped (n + (3 + w)) = grown_note n 3 w a b ea eb in
    let c_is : c ≡ capped (n + (3 + w) + v) = ec ∙ capped_again b (n + (3 + w)) v b_is in
    ed ∙ capped_again c (n + (3 + w) + v) lt c_is ∙ ap (λ (z : ℕ). capped z) q
