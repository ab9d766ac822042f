-- The trace block (document 01, "The trace block" and rows 8 to 13). f is the image; b is a block's first 32 bytes, and
-- all that is said of the block stands there.
-- Assumes nothing.
use Rattle.std.specs.Prelude.{Bool, not, List, [], ◌∷◌, ℕ, ◌+◌, ◌*◌, get_or, eqb, Result, Ok, Err}
use Rattle.word.specs.Word.{word_at}
use Rattle.refusal.specs.declared.Rule.{Rule}
use Rattle.refusal.specs.declared.Rule.TheVariants.{Pointer, TraceMark, BlockSize, DataSize, FormatCode, SampleCount}
use Rattle.refusal.specs.declared.Part.TheVariants.{Trace}
use Rattle.refusal.specs.Table.{refusal}
use Rattle.refusal.specs.Rows.{Rows, first, pick}
use Rattle.limits.specs.Limits.{bad_pointer, bad_block, bad_data, bad_code, bad_samples}
use Rattle.refusal.specs.Verdicts.{asked, accepted}
use Rattle.block.specs.declared.TraceBlock.{TraceBlock}
use Rattle.refusal.specs.declared.Refusal.{Refusal}
use Rattle.refusal.specs.Verdicts.{Verdict}

-- ---- what stands in a trace block, in the file's order

-- "N pointers of 4 bytes start at 32"
unfoldable pub pointer_of : Bool → List ℕ → ℕ → ℕ
pointer_of high f k = word_at 4 high f (32 + 4 * k)

-- 4422h
abbrev pub trace_mark : ℕ
trace_mark = 17442

-- "At pointer p: 4422h, block size B (2 bytes), data size D (4), sample count S (4), format code (1)"
unfoldable pub mark_at : Bool → List ℕ → ℕ → ℕ
mark_at high f p = word_at 2 high f p

unfoldable pub block_size_of : Bool → List ℕ → ℕ → ℕ
block_size_of high f p = word_at 2 high f (p + 2)

unfoldable pub data_size_of : Bool → List ℕ → ℕ → ℕ
data_size_of high f p = word_at 4 high f (p + 4)

unfoldable pub sample_count_of : Bool → List ℕ → ℕ → ℕ
sample_count_of high f p = word_at 4 high f (p + 8)

unfoldable pub format_code_of : List ℕ → ℕ → ℕ
format_code_of f p = get_or f (p + 12) 0

-- "Data occupies D bytes from p+B": where the data begins, and where the trace ends
abbrev pub data_at : Bool → List ℕ → ℕ → ℕ
data_at high f p = p + block_size_of high f p

unfoldable pub end_at : Bool → List ℕ → ℕ → ℕ
end_at high f p = data_at high f p + data_size_of high f p

-- ---- rows 8 to 13 of the trace k, which follows what ends at prev; end is the image's length

abbrev pub wrong : Rule → ℕ → ℕ → Verdict
wrong r k at = Err (refusal r (Trace k) at)

-- its pointer is p
unfoldable pub pointer_row : ℕ → ℕ → ℕ → ℕ → Verdict
pointer_row end k prev p = pick (bad_pointer end prev p) (wrong Pointer k (32 + 4 * k)) accepted

-- its block begins at p with the 32 bytes b
abbrev pub block_rows : Bool → List ℕ → ℕ → ℕ → ℕ → Rows Verdict
block_rows high b end k p =
    (not (eqb (mark_at high b 0) trace_mark), wrong TraceMark k p)
    ∷ (bad_block end p (block_size_of high b 0), wrong BlockSize k (p + 2))
    ∷ (bad_data end (p + block_size_of high b 0) (data_size_of high b 0), wrong DataSize k (p + 4))
    ∷ (bad_code (format_code_of b 0), wrong FormatCode k (p + 12))
    ∷ (bad_samples (format_code_of b 0) (sample_count_of high b 0) (data_size_of high b 0), wrong SampleCount k (p + 8))
    ∷ []

unfoldable pub block_of : Bool → List ℕ → ℕ → ℕ → ℕ → Verdict
block_of high b end k p = first (block_rows high b end k p) accepted

-- ---- the block as an answer

-- of the 32 bytes b at p
unfoldable pub block_in : Bool → List ℕ → ℕ → TraceBlock
block_in high b p = record { p = p; b = block_size_of high b 0; d = data_size_of high b 0; s = sample_count_of high b 0; code = format_code_of b 0 }

-- the check hands on what it read
unfoldable pub block_answer : Bool → List ℕ → ℕ → ℕ → ℕ → Result TraceBlock Refusal
block_answer high b end k p = asked Err (block_of high b end k p) (Ok (block_in high b p))

-- of the trace k of an image
unfoldable pub trace_block_of : Bool → List ℕ → ℕ → TraceBlock
trace_block_of high f k =
    let p = pointer_of high f k in
    record { p = p; b = block_size_of high f p; d = data_size_of high f p; s = sample_count_of high f p; code = format_code_of f p }
