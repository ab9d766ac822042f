-- The lists that can be written, in document 01's words alone and without the writers' verdicts ("What we write", rows
-- 24 to 31): the start's inputs, sheets as lists of lines, samples as their codes hold them, and the file that the list
-- defines, which has to fit; with document 02's of channel numbers (§7). Theorem: these are exactly the lists of which
-- no call is refused (`Writable` of afresh says the same by the writers' own tests).
-- Assumes nothing.
use Rattle.std.specs.Prelude.{◌≡◌, false, List, [], ◌∷◌, ◌++◌, ◌⊎◌, ℕ, ◌%◌, ◌≤◌, ◌<◌, ℤ, pos, nat_abs}
use Rattle.std.specs.Prelude.{length, get_or, eqb}
use Rattle.std.specs.Int.Signed.{mag}
use Rattle.channel.specs.Count.{Counts}
use Rattle.channel.specs.Channel.{channel_number}
use Rattle.sheet.specs.Lines.{Line}
use Rattle.sheet.specs.Area.{area_most, area_of}
use Rattle.sheet.specs.Paper.{sheet_of, GoodLines}
use Rattle.layout.specs.Layout.{slots_most, nul, line_feed, Trace, Samples, Samples.integers, Samples.patterns}
use Rattle.afresh.specs.FileOf.{file_of}
use Rattle.head.specs.Head.{maximum}

-- ---- "Strings come as a sheet, lines of text ended by 0Ah: keyword (as above), tab, value"; "An area is at most
-- 65,500 bytes"

pub record GoodSheet (sheet : List ℕ) : Type 0 where
  pub lines : List Line
  pub bytes : sheet ≡ sheet_of lines
  pub good : GoodLines [] lines
  pub small : length (area_of false nul line_feed sheet) ≤ area_most

-- ---- samples that their code holds: 28 and 29 are not met

pub data Held : ℕ → Samples → Type 0 where
  -- "outside code 1's range": -32,768 to 32,767
  one : {row : List ℤ} → ((k : ℕ) → k < length row → mag (get_or row k (pos 0)) < 32768) → Held 1 (integers row)
  two : {row : List ℤ} → Held 2 (integers row)
  -- "count not a multiple of 4 under code 3"; "of magnitude 2^30 or more"
  three : {row : List ℤ} → length row % 4 ≡ 0 → ((k : ℕ) → k < length row → nat_abs (get_or row k (pos 0)) < 1073741824) → Held 3 (integers row)
  -- "a pattern over 32 bits under code 4"
  four : {row : List ℕ} → ((k : ℕ) → k < length row → get_or row k 0 < 4294967296) → Held 4 (patterns row)
  five : {row : List ℕ} → Held 5 (patterns row)

-- ---- channel numbers

-- the line CHANNEL_NUMBER with a value; no line of these has the keyword; the first that has it has this value
abbrev pub number_line : List ℕ → Line
number_line v = record { key = channel_number; value = v }

abbrev pub Without : List Line → Type 0
Without [] = Unit {0}
Without (l ∷ ls) = (l.key ≡ channel_number → ⊥) × Without ls

pub record Numbered (ls : List Line) (v : List ℕ) : Type 0 where
  pub before : List Line
  pub after : List Line
  pub is : ls ≡ before ++ (number_line v ∷ after)
  pub first : Without before

-- ---- traces and lists

-- "The value must be a number by document 01, 1 to 32,767, without point or E"
pub record GoodTrace (x : Trace) : Type 0 where
  pub strings : GoodSheet x.sheet
  pub channel : (v : List ℕ) → Numbered strings.lines v → (n : ℕ) × Counts v n
  pub samples : Held x.code x.samples

abbrev pub GoodTraces : List Trace → Type 0
GoodTraces [] = Unit {0}
GoodTraces (x ∷ ts) = GoodTrace x × GoodTraces ts

-- "if one trace block has it, all must": each has a line CHANNEL_NUMBER, or none has
abbrev pub AllNumbered : (ts : List Trace) → GoodTraces ts → Type 0
AllNumbered [] g = Unit {0}
AllNumbered (x ∷ ts) g = ((v : List ℕ) × Numbered g.0.strings.lines v) × AllNumbered ts g.1

abbrev pub NoneNumbered : (ts : List Trace) → GoodTraces ts → Type 0
NoneNumbered [] g = Unit {0}
NoneNumbered (x ∷ ts) g = Without g.0.strings.lines × NoneNumbered ts g.1

-- "Starting takes byte order (0 low first, 1 high first), pointer slots and the file's sheet": 1 to 16,383 slots, no
-- more traces than slots, and the file that the list defines within the buffer and the maximum
pub record GoodList (xs : List ℕ) (order slots : ℕ) (sheet : List ℕ) (ts : List Trace) : Type 0 where
  pub either : order ≤ 1
  pub some : 1 ≤ slots
  pub few : slots ≤ slots_most
  pub strings : GoodSheet sheet
  pub traces : GoodTraces ts
  pub channels : AllNumbered ts traces ⊎ NoneNumbered ts traces
  pub slotted : length ts ≤ slots
  pub fits : length (file_of (eqb order 1) slots sheet ts) ≤ length xs
  pub most : length (file_of (eqb order 1) slots sheet ts) ≤ maximum
