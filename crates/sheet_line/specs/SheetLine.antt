-- A line of a sheet, and the check of it: "Strings come as a sheet, lines of text ended by 0Ah: keyword (as above), tab,
-- value" (document 01, "What we write"; rows 25 and 26). Every definition is on the bytes that are left of the sheet, and
-- a place is carried along only for refusals.
-- Assumes nothing.
use Rattle.std.specs.Prelude.{Bool, not, ◌&&◌, ◌||◌, List, [], ◌∷◌, ℕ, ◌+◌, length, get_or, take, drop, leb, eqb, Result, Ok, Err}
use Rattle.refusal.specs.declared.Rule.{Rule}
use Rattle.refusal.specs.declared.Rule.TheVariants.{SheetLine, SheetOrder}
use Rattle.refusal.specs.declared.Part.TheVariants.{File}
use Rattle.refusal.specs.Table.{refusal}
use Rattle.refusal.specs.Rows.{Rows, pick, ruled}
use Rattle.chars.specs.Chars.{key_char, in_line, printed, note}
use Rattle.chars.specs.Runs.{run, all, same}
use Rattle.key_order.specs.Order.{rises}
use Rattle.refusal.specs.declared.Refusal.{Refusal}

-- "Value codes are 32 to 126": no tab and no other control character
abbrev pub plain : ℕ → Bool
plain b = printed b

-- the length of the first line, the line, and what follows its 0Ah
unfoldable pub line_len : List ℕ → ℕ
line_len s = run in_line s

abbrev pub line_of : List ℕ → List ℕ
line_of s = take (line_len s) s

abbrev pub after_line : List ℕ → List ℕ
after_line s = drop (line_len s + 1) s

-- the keyword of a line, and behind the one byte that follows it the value
unfoldable pub line_key_len : List ℕ → ℕ
line_key_len l = run key_char l

abbrev pub line_key : List ℕ → List ℕ
line_key l = take (line_key_len l) l

abbrev pub line_value : List ℕ → List ℕ
line_value l = drop (line_key_len l + 1) l

-- a value "starting with a space"; an empty one does not
abbrev pub spaced : List ℕ → Bool
spaced v = eqb (get_or v 0 0) 32

-- "Consecutive NOTE lines at the end are lines of one NOTE": the line with the keyword k continues the one before it,
-- whose keyword is prev
unfoldable pub continues : List ℕ → List ℕ → Bool
continues prev k = same prev note && same k note

-- ---- the rows of the table for one line: a test and the rule that it breaks, and the first whose test holds answers

-- 25 "bad sheet line": an empty line or no keyword; no tab behind the keyword (a line that ends there has none); a
-- value's character; a value that starts with a space, where the line does not continue a NOTE. 26 "sheet order":
-- `text`'s own order, but for a NOTE that is continued. prev is the keyword before, the empty one before the first line
abbrev pub line_rows : List ℕ → List ℕ → Rows Rule
line_rows prev l =
    (eqb (line_key_len l) 0, SheetLine)
    ∷ (not (eqb (get_or l (line_key_len l) 0) 9), SheetLine)
    ∷ (not (all plain (line_value l)), SheetLine)
    ∷ (spaced (line_value l) && not (continues prev (line_key l)), SheetLine)
    ∷ (not (continues prev (line_key l) || rises prev (line_key l)), SheetOrder)
    ∷ []

unfoldable pub line_judged : List ℕ → List ℕ → Result ℕ Rule
line_judged prev l = ruled (line_rows prev l) Err (Ok (line_key_len l))

-- the place of both is the line's start, the part the file
abbrev pub on_line_judged : Result ℕ Rule → ℕ → ℕ → Result (ℕ × ℕ) Refusal
on_line_judged (Ok w) at n = Ok (n, w)
on_line_judged (Err r) at n = Err (refusal r File at)

-- "An empty or unfinished line is bad"
unfoldable pub line_step : List ℕ → List ℕ → ℕ → Result (ℕ × ℕ) Refusal
line_step prev s at = pick (leb (length s) (line_len s)) (Err (refusal SheetLine File at)) (on_line_judged (line_judged prev (line_of s)) at (line_len s))
