-- The refusal table (document 01, "Refusal numbers, in order of checking"; document 02): each rule with its number. A
-- new row is a line here and one in the enum of src/lib.rt; no other definition, law or proof lists the rules. That the
-- numbers rise, and so are apart, is proved of this list (proofs/Numbers); that the enum has the same numbers is what
-- `number` promises. A test reads this list and holds every place with words for a number to it
-- (host/tool/tests/table.rs).
-- Assumes nothing.
use Rattle.std.specs.Prelude.{◌≡◌, refl, ℕ, ℤ, pos, negsuc}
use Rattle.std.proofs.Common.{ap, arith}
use Rattle.refusal.specs.declared.Rule.{Rule}
use Rattle.refusal.specs.declared.Rule.TheVariants as rule
use Rattle.refusal.specs.declared.Part.{Part}
use Rattle.refusal.specs.declared.Part.TheVariants.{File, Trace}
use Rattle.refusal.specs.declared.Refusal.{Refusal}

abbrev pub number_of : Rule → ℕ
-- length under 32, over the maximum, or over the buffer
number_of rule.Length = 1
-- first two bytes
number_of rule.FirstBytes = 2
-- revision not 1
number_of rule.Revision = 3
-- M under 4 or no multiple of 4
number_of rule.PointerRoom = 4
-- N is 0 or over M/4
number_of rule.TraceCount = 5
-- a terminator bad, or the two sharing a character
number_of rule.Terminator = 6
-- 32+M past the end
number_of rule.RoomEnd = 7
-- pointer no multiple of 4, before the previous end, or p+32 past the end
number_of rule.Pointer = 8
-- not 4422h
number_of rule.TraceMark = 9
-- B under 32, no multiple of 4, or past the end
number_of rule.BlockSize = 10
-- D no multiple of 4 or past the end
number_of rule.DataSize = 11
-- code not 1 to 5
number_of rule.FormatCode = 12
-- S no multiple of 4 under code 3, or needed bytes over D
number_of rule.SampleCount = 13
-- offset not in the area, too small for a keyword, or past it
number_of rule.StringOffset = 14
-- terminator not at the string's end
number_of rule.StringEnd = 15
-- forbidden character or empty keyword
number_of rule.Character = 16
-- order
number_of rule.KeywordOrder = 17
-- no such trace
number_of rule.NoTrace = 18
-- the listing program's input exceeds 65,536 bytes
number_of rule.InputSize = 19
-- no number
number_of rule.NoNumber = 20
-- too many digits
number_of rule.Digits = 21
-- not within the double case
number_of rule.NoDouble = 22
-- neither one nor three values
number_of rule.ValueCount = 23
-- no free slot
number_of rule.NoSlot = 24
-- bad sheet line
number_of rule.SheetLine = 25
-- sheet order
number_of rule.SheetOrder = 26
-- area too large
number_of rule.AreaSize = 27
-- code not of this entry's kind, or count not a multiple of 4 under code 3
number_of rule.EntryCode = 28
-- sample that the code cannot hold
number_of rule.SampleRange = 29
-- new length over the buffer or the maximum
number_of rule.NoRoom = 30
-- slots outside 1 to 16,383 or order not 0 or 1
number_of rule.StartValues = 31
-- an output row's length is not S
number_of rule.RowLength = 32
-- integers asked of code 4 or 5, or bits of 1 to 3
number_of rule.CodeKind = 33
-- a trace's CHANNEL_NUMBER has a bad value, or only one of this trace and trace 0 has it (document 02 §7)
number_of rule.ChannelNumber = 34
-- a sheet's CHANNEL_NUMBER has a bad value, is missing, or stands where the file's traces have none (document 02 §7)
number_of rule.SheetChannel = 35

-- z is r's number. By way of an s that is r, so that `row` is proved with no file, which would have a line for each
-- rule
abbrev pub Numbered : Rule → ℤ → Type 0
Numbered r z = (s : Rule) × (r ≡ s) × (z ≡ pos (number_of s))

-- "part (-1 for the file, else the trace ..)"
abbrev pub part_of : Part → ℤ
part_of File = negsuc 0
part_of (Trace k) = pos k

-- a refusal: what was broken, in which part, at which place
abbrev pub refusal : Rule → Part → ℕ → Refusal
refusal r p at = record { rule = r; part = p; place = at }

-- no trace is taken for the file
pub parts_apart : (a b : Part) → part_of a ≡ part_of b → a ≡ b
parts_apart File File e = refl
parts_apart File (Trace k) e = absurd (let z : ◌≡◌ {A = ℕ} 0 1 = cc in omega arith)
parts_apart (Trace j) File e = absurd (let z : ◌≡◌ {A = ℕ} 0 1 = cc in omega arith)
parts_apart (Trace j) (Trace k) e = let s : j ≡ k = cc in ap Trace s
