-- One trace by itself (document 02 §5): "Refusals: those of 01 for the bytes read, in 01's order, with 18 between 7 and
-- 8; 8 here means no multiple of 4, below 32+M, or p+32 past the end". xs is the lent buffer, n the length given beside
-- it, f the image: the first n bytes.
-- Assumes nothing.
use Rattle.std.specs.Prelude.{Bool, not, List, [], ◌∷◌, ℕ, ◌+◌, ℤ, length, take, Result, Ok, Err}
use Rattle.refusal.specs.declared.Rule.TheVariants.{Length, NoTrace}
use Rattle.refusal.specs.declared.Part.TheVariants.{File}
use Rattle.refusal.specs.Verdicts.{asked}
use Rattle.refusal.specs.FirstRow.{row, first_of}
use Rattle.head_limits.specs.declared.Purpose.TheVariants.{Read}
use Rattle.head_words.specs.declared.FileBlock.{FileBlock}
use Rattle.head_words.specs.HeadWords.{high_first, room_of, count_of}
use Rattle.head.specs.Head.{head_of}
use Rattle.block.specs.Block.{pointer_of, pointer_row, block_of, trace_block_of}
use Rattle.block.specs.BlockLaws.{head_at}
use Rattle.file_length.specs.FileLength.{bad_length}
use Rattle.part_number.specs.PartNumber.{whose_of}
use Rattle.reader.specs.Questions.{no_trace, on_trace, is_trace, trace_number, block_at}
use Rattle.refusal.specs.declared.Refusal.{Refusal}
use Rattle.block.specs.declared.TraceBlock.{TraceBlock}
use Rattle.refusal.specs.Verdicts.{Verdict}

-- ---- the checks in their order

-- 8 of the trace k, whose pointer is p, behind a pointer room of m bytes and behind no other trace; then 9 to 13
abbrev pub own_checks : Bool → List ℕ → ℕ → ℕ → ℕ → List Verdict
own_checks high f m k p = pointer_row (length f) k (32 + m) p ∷ block_of high (head_at f p) (length f) k p ∷ []

-- 1, then 2 to 7, "18 between 7 and 8", and those
abbrev pub alone_checks : List ℕ → ℕ → ℤ → List Verdict
alone_checks xs n z =
    let f = take n xs in
    let k = trace_number z in
    row (bad_length (length xs) n) Length File 0
    ∷ head_of Read (take 32 f) (length f)
    ∷ row (not (is_trace z (count_of f))) NoTrace File 0
    ∷ own_checks (high_first f) f (room_of f) k (pointer_of (high_first f) f k)

unfoldable pub alone_of : List ℕ → ℕ → ℤ → Verdict
alone_of xs n z = first_of (alone_checks xs n z)

-- the first of them that is met, or else the block
unfoldable pub block_alone : List ℕ → ℕ → ℤ → Result TraceBlock Refusal
block_alone xs n z = asked Err (alone_of xs n z) (Ok (block_at (take n xs) (trace_number z)))

-- ---- what the code answers behind rows 1 to 7, in the file block's own numbers

-- 8 to 13
unfoldable pub own_of : Bool → List ℕ → ℕ → ℕ → Result TraceBlock Refusal
own_of high f m k = asked Err (first_of (own_checks high f m k (pointer_of high f k))) (Ok (trace_block_of high f k))

-- and 18 before them
unfoldable pub named_of : List ℕ → FileBlock → ℤ → Result TraceBlock Refusal
named_of f x z = on_trace (whose_of z x.n) (Err no_trace) (λ k. own_of x.high f x.m k)
