-- The walk along a sheet to its first line with a keyword: what holds where a line starts, and a law for each turn.
-- Assumes nothing.
use Rattle.std.specs.Prelude.{◌≡◌, refl, true, false, ℕ, zero, suc, ◌+◌, ◌-◌, ◌≤◌, ◌<◌, drop, ltb}
use Rattle.std.proofs.Common.{ap, ◌∙◌, lt-ltb, ne_eqb}
use mathlib.Core.List.{List, [], ◌∷◌}
use native.Mathlib.Omega.{arith}
use Rattle.std.proofs.Math.ListN.{length, length-drop}
use Rattle.word.specs.Part.{part, part_rest}
use Rattle.chars.specs.Runs.{run, none, same, same_eq}
use Rattle.sheet_line.specs.SheetLine.{line_len, line_key_len, line_key, line_value}
use Rattle.sheet.specs.Lines.{as_line, sheet_lines_from, sheet_lines}
use Rattle.sheet.specs.Counting.{past_line, lines_none}
use Rattle.channel_line.specs.ChannelLine.{has_line, value_of_line}

-- ---- the walk

-- where a line starts: what the lines from here on have is what all have
pub record Walked (key s : List ℕ) (at : ℕ) : Type 0 where
  pub fuel : ℕ
  pub enough : length s - at ≤ fuel
  pub has : has_line (sheet_lines_from fuel (drop at s)) key ≡ has_line (sheet_lines s) key
  pub value : value_of_line (sheet_lines_from fuel (drop at s)) key ≡ value_of_line (sheet_lines s) key

-- l is the line that was looked for, or no byte where there is none
abbrev pub IsLine : List ℕ → List ℕ → List ℕ → Type 0
IsLine key s l = (ltb 0 (length l) ≡ has_line (sheet_lines s) key) × (line_value l ≡ value_of_line (sheet_lines s) key)

pub walk_start : (key s : List ℕ) → Walked key s 0
unfolding sheet_lines
walk_start key s = record { fuel = length s; enough = omega arith; has = refl; value = refl }

-- a line that is not empty, since its keyword is not
some_line : (key l : List ℕ) → 0 < length key → same (line_key l) key ≡ true → 0 < length l
unfolding line_key_len run
some_line key [] some h = let e = ap length (same_eq [] key h) in absurd (omega arith)
some_line key (b ∷ l) some h = omega arith

-- where the line at a place ends
pub line_ends : (s : List ℕ) (at n : ℕ) → n ≡ line_len (part at (length s) s) → at + n ≡ at + line_len (drop at s)
line_ends s at n h = ap (λ (m : ℕ). at + m) (rw part_rest at h)

module _ (key s : List ℕ) (at : ℕ) (w : Walked key s at) where
  pub walk_over : length s ≤ at → IsLine key s []
  unfolding has_line value_of_line line_key_len run
  walk_over h =
      let n : sheet_lines_from w.fuel (drop at s) ≡ [] = lines_none w.fuel (drop at s) (ap length (none s at h)) in
      (rw n at w.has, rw n at w.value)

  -- a line is taken off, as the walk cuts it out, and with it one of the number that bounds the lines
  module _ (low : at < length s) (e : ℕ) (q : e ≡ at + line_len (drop at s)) where
    lines_first : (m : ℕ) → sheet_lines_from (suc m) (drop at s) ≡ as_line (part at e s) ∷ sheet_lines_from m (drop (e + 1) s)
    unfolding sheet_lines_from
    lines_first m =
        let d = length-drop at s in
        let n : e - at ≡ line_len (drop at s) = omega arith in
        rw (ne_eqb (length (drop at s)) 0 (omega arith), n, past_line s at (line_len (drop at s)), q)

    -- so what it and those behind it have is what all have
    abbrev Ahead : Type 0
    Ahead =
        (m : ℕ) × (length s - at ≤ suc m)
        × (has_line (as_line (part at e s) ∷ sheet_lines_from m (drop (e + 1) s)) key ≡ has_line (sheet_lines s) key)
        × (value_of_line (as_line (part at e s) ∷ sheet_lines_from m (drop (e + 1) s)) key ≡ value_of_line (sheet_lines s) key)

    ahead : Ahead
    ahead = go w.fuel w.enough w.has w.value
      where
        go : (m : ℕ) → length s - at ≤ m → has_line (sheet_lines_from m (drop at s)) key ≡ has_line (sheet_lines s) key
            → value_of_line (sheet_lines_from m (drop at s)) key ≡ value_of_line (sheet_lines s) key → Ahead
        go zero r h v = absurd (omega arith)
        go (suc m) r h v = (m, r, rw (lines_first m) at h, rw (lines_first m) at v)

    pub walk_turn : same (line_key (part at e s)) key ≡ false → Walked key s (e + 1)
    unfolding has_line value_of_line
    walk_turn k = let a = ahead in record { fuel = a.0; enough = omega (arith, a.1); has = rw k at a.2; value = rw k at a.3 }

    pub walk_found : 0 < length key → same (line_key (part at e s)) key ≡ true → IsLine key s (part at e s)
    unfolding has_line value_of_line
    walk_found some k =
        let a = ahead in
        (lt-ltb 0 (length (part at e s)) (some_line key (part at e s) some k) ∙ (rw k at a.2), rw k at a.3)
