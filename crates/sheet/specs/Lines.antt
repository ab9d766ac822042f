-- The lines of a sheet, and the check of them (document 01, "What we write"; rows 25 and 26), by the line's own in
-- sheet_line/SheetLine. A sheet is the list of its bytes; every definition is on the bytes that are left of it, and a
-- place is carried along only for refusals.
-- Assumes nothing.
use Rattle.std.specs.Prelude.{List, [], ◌∷◌, ℕ, zero, suc, ◌+◌, length, take, drop, eqb, Result, Ok, Err}
use Rattle.refusal.specs.Rows.{pick}
use Rattle.sheet_line.specs.SheetLine.{line_of, after_line, line_key, line_value, line_step}
use Rattle.refusal.specs.declared.Refusal.{Refusal}
use Rattle.refusal.specs.Verdicts.{Verdict, accepted}

-- ---- a whole sheet, "line by line, 25 first"

abbrev pub on_line_step : Result (ℕ × ℕ) Refusal → (ℕ → ℕ → Verdict) → Verdict
on_line_step (Ok (n, w)) next = next n w
on_line_step (Err r) next = Err r

-- the lines from s on. The number bounds how many there are; the length of s is enough, for each has a byte
unfoldable pub check_from : ℕ → List ℕ → List ℕ → ℕ → Verdict
check_from zero prev s at = accepted
check_from (suc m) prev s at =
    pick (eqb (length s) 0) accepted (on_line_step (line_step prev s at) (λ n w. check_from m (take w s) (drop (n + 1) s) (at + n + 1)))

unfoldable pub lines_verdict : List ℕ → Verdict
lines_verdict s = check_from (length s) [] s 0

-- ---- the lines themselves

pub record Line : Type 0 where
  pub key : List ℕ
  pub value : List ℕ

-- a line, taken apart
abbrev pub as_line : List ℕ → Line
as_line l = record { key = line_key l; value = line_value l }

unfoldable pub sheet_lines_from : ℕ → List ℕ → List Line
sheet_lines_from zero s = []
sheet_lines_from (suc m) s = pick (eqb (length s) 0) [] (as_line (line_of s) ∷ sheet_lines_from m (after_line s))

-- "a sheet without lines is an empty list"
unfoldable pub sheet_lines : List ℕ → List Line
sheet_lines s = sheet_lines_from (length s) s
