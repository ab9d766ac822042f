-- The file block (document 01, "The file block" and rows 2 to 7). f is the image, the bytes that are the file, or no
-- more than its first 32: all that is said of the block stands there.
-- Assumes nothing.
use Rattle.std.specs.Prelude.{not, List, [], ◌∷◌, ℕ, ◌+◌, ◌<◌, ltb, eqb, Result, Ok, Err}
use Rattle.refusal.specs.declared.Rule.{Rule}
use Rattle.refusal.specs.declared.Rule.TheVariants.{FirstBytes, Revision, PointerRoom, TraceCount, Terminator, RoomEnd}
use Rattle.refusal.specs.declared.Part.TheVariants.{File}
use Rattle.refusal.specs.Table.{refusal}
use Rattle.refusal.specs.Rows.{Rows, first}
use Rattle.refusal.specs.Verdicts.{asked, accepted}
use Rattle.terminators.specs.Terminators.{good_terminator, bad_lines}
use Rattle.head_limits.specs.declared.Purpose.{Purpose}
use Rattle.head_limits.specs.HeadLimits.{known, bad_room, bad_count}
use Rattle.head_words.specs.HeadWords.{revision_of, room_of, count_of, file_block_of}
use Rattle.refusal.specs.declared.Refusal.{Refusal}
use Rattle.head_words.specs.declared.FileBlock.{FileBlock}
use Rattle.refusal.specs.Verdicts.{Verdict}

-- "A file is at most 67,108,864 bytes"
abbrev pub maximum : ℕ
maximum = 67108864

-- ---- rows 2 to 7, on the first 32 bytes b of an image that ends at `end`

abbrev pub refused : Rule → ℕ → Verdict
refused r at = Err (refusal r File at)

abbrev pub head_rows : Purpose → List ℕ → ℕ → Rows Verdict
head_rows purpose b end =
    (not (known b), refused FirstBytes 0)
    ∷ (not (eqb (revision_of b) 1), refused Revision 2)
    ∷ (bad_room (room_of b), refused PointerRoom 4)
    ∷ (bad_count purpose (room_of b) (count_of b), refused TraceCount 6)
    ∷ (not (good_terminator b 8), refused Terminator 8)
    ∷ (bad_lines b, refused Terminator 11)
    ∷ (ltb end (32 + room_of b), refused RoomEnd 4)
    ∷ []

unfoldable pub head_of : Purpose → List ℕ → ℕ → Verdict
head_of purpose b end = first (head_rows purpose b end) accepted

-- ---- the block as an answer

-- the check hands on what it read
unfoldable pub head_answer : Purpose → List ℕ → ℕ → Result FileBlock Refusal
head_answer purpose b end = asked Err (head_of purpose b end) (Ok (file_block_of b))

-- M and N are words of two bytes
abbrev pub InWords : Result FileBlock Refusal → Type 0
InWords (Ok x) = (x.m < 65536) × (x.n < 65536)
InWords (Err r) = Unit {0}
