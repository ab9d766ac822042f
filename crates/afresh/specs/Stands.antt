-- Where each trace of a list stands in the file that the list defines, and what is read there.
-- Assumes nothing.
use Rattle.std.specs.Prelude.{◌≡◌, Bool, get_or, take, replicate, List, [], ◌∷◌, ◌++◌, ℕ, suc, ◌+◌, ◌-◌, ◌*◌, length}
use Rattle.sheet.specs.Area.{area_of}
use Rattle.block.specs.Block.{pointer_of}
use Rattle.layout.specs.Layout.{nul, line_feed, file_block, start_size, Trace, Samples.integers, trace_size}
use Rattle.afresh.specs.FileOf.{pointers, blocks, file_of, file_size, Good, EachGood}
use Rattle.layout.specs.LayoutLaws.{Stands}

-- ---- a trace of the list, with what comes before it and behind it
module _ (high : Bool) (slots : ℕ) (sheet : List ℕ) (before : List Trace) (x : Trace) (behind-it : List Trace) where
  abbrev whole : List Trace
  whole = before ++ (x ∷ behind-it)

  abbrev free : List ℕ
  free = replicate (4 * (slots - length whole)) 0

  abbrev strings : List ℕ
  strings = area_of high nul line_feed sheet

  -- all that stands before it
  abbrev lead : List ℕ
  lead = file_block high (4 * slots) (length whole) ++ (pointers high (start_size slots sheet) whole ++ (free ++ (strings ++ blocks high before)))

-- ---- the trace k of the list

-- stands for a trace where there is none
abbrev pub empty_trace : Trace
empty_trace = record { sheet = []; code = 0; samples = integers [] }

pub good_split : (a b : List Trace) → EachGood (a ++ b) → EachGood a × EachGood b
good_split [] b g = (tt, g)
good_split (x ∷ a) b g = let i = good_split a b g.1 in ((g.0, i.0), i.1)

pub record Traced (high : Bool) (slots : ℕ) (sheet : List ℕ) (ts : List Trace) (k : ℕ) : Type 0 where
  pub pointer : pointer_of high (file_of high slots sheet ts) k ≡ file_size slots sheet (take k ts)
  pub here : Stands high nul line_feed (file_of high slots sheet ts) (file_size slots sheet (take k ts)) (get_or ts k empty_trace)
  pub good : Good (get_or ts k empty_trace)
  pub next : file_size slots sheet (take k ts) + trace_size nul line_feed (get_or ts k empty_trace) ≡ file_size slots sheet (take (suc k) ts)
