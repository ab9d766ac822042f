-- The file that a list of traces defines (document 01, "What we write"): "stated from the start's inputs and the list
-- alone, by the layout and not by repeating the addition: the start's image with N the number of traces, in slot k the
-- start image's length plus B and D of all traces before k, then the blocks and data one behind the other, and nothing
-- after the last D bytes". `high` is the byte order.
-- Assumes nothing.
use Rattle.std.specs.Prelude.{◌≡◌, Bool, true, false, List, [], ◌∷◌, ◌++◌, ◌⊎◌, ℕ, ◌+◌, ◌-◌, ◌*◌, ◌≤◌, length, take, replicate, Ok, None}
use Rattle.word.specs.Word.{bytes_of}
use Rattle.sheet.specs.Lines.{sheet_lines}
use Rattle.sheet.specs.Area.{area_of, measured_of}
use Rattle.channel.specs.Count.{Counts}
use Rattle.channel.specs.Channel.{channel_number}
use Rattle.channel_line.specs.ChannelLine.{has_line, value_of_line}
use Rattle.layout.specs.Layout.{slots_most, nul, line_feed, file_block, start_size, Trace, fitting, unfit, trace_size, trace_bytes}

-- "B and D of all traces"
unfoldable pub sizes : List Trace → ℕ
sizes [] = 0
sizes (x ∷ ts) = trace_size nul line_feed x + sizes ts

-- the slots that are in use, where the first trace begins at a place
unfoldable pub pointers : Bool → ℕ → List Trace → List ℕ
pointers high at [] = []
pointers high at (x ∷ ts) = bytes_of 4 high at ++ pointers high (at + trace_size nul line_feed x) ts

-- "the blocks and data one behind the other"
unfoldable pub blocks : Bool → List Trace → List ℕ
blocks high [] = []
blocks high (x ∷ ts) = trace_bytes high nul line_feed x ++ blocks high ts

-- the file block with N, the slots in use, the free slots, the file's strings, the traces
unfoldable pub file_of : Bool → ℕ → List ℕ → List Trace → List ℕ
file_of high slots sheet ts =
    file_block high (4 * slots) (length ts)
    ++ (pointers high (start_size slots sheet) ts
    ++ (replicate (4 * (slots - length ts)) 0 ++ (area_of high nul line_feed sheet ++ blocks high ts)))

unfoldable pub file_size : ℕ → List ℕ → List Trace → ℕ
file_size slots sheet ts = start_size slots sheet + sizes ts

-- a sheet that rows 25 to 27 let through in a file with these terminators
abbrev pub Measures : List ℕ → Type 0
Measures sheet = (b : ℕ) × (measured_of nul line_feed sheet ≡ Ok b)

-- whether a trace's sheet has a channel number (document 02 §7)
abbrev pub has_channel : Trace → Bool
has_channel x = has_line (sheet_lines x.sheet) channel_number

-- a trace that rows 25 to 29 let through there; its channel number, if it has one, is "a number by document 01, 1 to
-- 32,767, without point or E"
pub record Good (x : Trace) : Type 0 where
  pub measures : Measures x.sheet
  pub channel : has_channel x ≡ true → (n : ℕ) × Counts (value_of_line (sheet_lines x.sheet) channel_number) n
  pub kind : fitting x.code x.samples ≡ true
  pub held : unfit x.code x.samples ≡ None

-- each trace of a list by itself
abbrev pub EachGood : List Trace → Type 0
EachGood [] = Unit {0}
EachGood (x ∷ ts) = Good x × EachGood ts

-- and what the traces of one file must have in common: "if one trace block has it, all must", so each has a channel
-- number, or none has
abbrev pub EachHas : Bool → List Trace → Type 0
EachHas w [] = Unit {0}
EachHas w (x ∷ ts) = (has_channel x ≡ w) × EachHas w ts

abbrev pub Together : List Trace → Type 0
Together ts = EachHas true ts ⊎ EachHas false ts

abbrev pub AllGood : List Trace → Type 0
AllGood ts = EachGood ts × Together ts

-- the first n bytes of a buffer are the file of a list: what a call is given that goes on with it
pub record Holds (high : Bool) (slots : ℕ) (sheet : List ℕ) (ts : List Trace) (xs : List ℕ) (n : ℕ) : Type 0 where
  pub image : take n xs ≡ file_of high slots sheet ts
  pub size : n ≡ file_size slots sheet ts
  pub fits : n ≤ length xs
  pub good : AllGood ts
  pub slotted : length ts ≤ slots
  pub few : slots ≤ slots_most
