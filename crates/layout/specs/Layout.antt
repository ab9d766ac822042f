-- The bytes that are written (document 01, "What we write"): a file block, a trace with its strings and data, each
-- whole number in the file's order. `high` is the byte order, t the string terminator, u the line terminator.
-- Assumes nothing.
use Rattle.std.specs.Prelude.{Bool, List, [], ◌∷◌, ◌++◌, ℕ, ◌+◌, ◌*◌, ℤ, length, replicate, Option}
use Rattle.block.specs.Block.{trace_mark}
use Rattle.word.specs.Word.{bytes_of}
use Rattle.refusal.specs.Rows.{pick}
use Rattle.sample.specs.Needed.{room}
use Rattle.decode.specs.Sample.{integers_asked, bits_asked}
use Rattle.fit.specs.Unfit.{unfit_integers, unfit_patterns}
use Rattle.encode.specs.Write.{integers_data, bits_data}
use Rattle.sheet.specs.Area.{area_of, area_size}

-- ---- the file block

-- "55 3A is low byte first, 3A 55 high byte first"
abbrev pub order_mark : Bool → List ℕ
order_mark high = pick high (58 ∷ 85 ∷ []) (85 ∷ 58 ∷ [])

-- "terminators 00 and 0A (length 1), zeros elsewhere": bytes 8 to 31
abbrev pub plain_ends : List ℕ
plain_ends = 1 ∷ 0 ∷ 0 ∷ 1 ∷ 10 ∷ 0 ∷ replicate 18 0

abbrev pub nul : List ℕ
nul = 0 ∷ []

abbrev pub line_feed : List ℕ
line_feed = 10 ∷ []

-- "31 slots outside 1 to 16,383"
abbrev pub slots_most : ℕ
slots_most = 16383

-- "It writes revision 1, M of 4 times the slots", N
unfoldable pub file_block : Bool → ℕ → ℕ → List ℕ
file_block high m n = order_mark high ++ (bytes_of 2 high 1 ++ (bytes_of 2 high m ++ (bytes_of 2 high n ++ plain_ends)))

-- "Starting takes byte order, pointer slots and the file's sheet": N=0, every slot zero, and the area
unfoldable pub start_image : Bool → ℕ → List ℕ → List ℕ
start_image high slots sheet = file_block high (4 * slots) 0 ++ (replicate (4 * slots) 0 ++ area_of high nul line_feed sheet)

unfoldable pub start_size : ℕ → List ℕ → ℕ
start_size slots sheet = 32 + 4 * slots + area_size nul line_feed sheet

-- ---- a trace

-- the samples that are given: integers for codes 1 to 3, bit patterns for 4 and 5
pub data Samples : Type 0 where
  integers : List ℤ → Samples
  patterns : List ℕ → Samples

-- what an addition is given: the trace's sheet, its format code and its samples
pub record Trace : Type 0 where
  pub sheet : List ℕ
  pub code : ℕ
  pub samples : Samples

abbrev pub integers_trace : List ℕ → ℕ → List ℤ → Trace
integers_trace sheet code row = record { sheet = sheet; code = code; samples = integers row }

abbrev pub patterns_trace : List ℕ → ℕ → List ℕ → Trace
patterns_trace sheet code row = record { sheet = sheet; code = code; samples = patterns row }

unfoldable pub count : Samples → ℕ
count (integers row) = length row
count (patterns row) = length row

-- "code not of this entry's kind, or count not a multiple of 4 under code 3" is not met
unfoldable pub fitting : ℕ → Samples → Bool
fitting code (integers row) = integers_asked code (length row)
fitting code (patterns row) = bits_asked code

-- the first sample that the code cannot hold
unfoldable pub unfit : ℕ → Samples → Option ℕ
unfit code (integers row) = unfit_integers code row
unfit code (patterns row) = unfit_patterns code row

-- the samples' bytes, and zeros to a multiple of 4
unfoldable pub samples_data : ℕ → Bool → Samples → List ℕ
samples_data code high (integers row) = integers_data code high row
samples_data code high (patterns row) = bits_data code high row

-- "4422h, block size B (2 bytes), data size D (4), sample count S (4), format code (1), reserved to byte 31"
unfoldable pub trace_block : Bool → ℕ → ℕ → ℕ → ℕ → List ℕ
trace_block high b d s code = bytes_of 2 high trace_mark ++ (bytes_of 2 high b ++ (bytes_of 4 high d ++ (bytes_of 4 high s ++ (code ∷ replicate 19 0))))

-- B: the block with its strings. D: "the needed bytes rounded up to 4". What a trace of this sheet, this code and so many
-- samples takes is both
abbrev pub block_for : List ℕ → List ℕ → List ℕ → ℕ
block_for t u sheet = 32 + area_size t u sheet

abbrev pub size_for : List ℕ → List ℕ → List ℕ → ℕ → ℕ → ℕ
size_for t u sheet code s = block_for t u sheet + room code s

abbrev pub block_bytes : List ℕ → List ℕ → Trace → ℕ
block_bytes t u x = block_for t u x.sheet

abbrev pub data_bytes : Trace → ℕ
data_bytes x = room x.code (count x.samples)

abbrev pub trace_size : List ℕ → List ℕ → Trace → ℕ
trace_size t u x = size_for t u x.sheet x.code (count x.samples)

-- the block, the strings, the data
unfoldable pub trace_bytes : Bool → List ℕ → List ℕ → Trace → List ℕ
trace_bytes high t u x =
    trace_block high (block_bytes t u x) (data_bytes x) (count x.samples) x.code
    ++ (area_of high t u x.sheet ++ samples_data x.code high x.samples)
