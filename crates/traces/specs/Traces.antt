-- The traces of a file, one behind the other (document 01, rows 8 to 17 of each, and 34 of document 02; rows 9 to 17 and 34
-- of one trace are trace/Trace). f is the image, `how` the manner of reading.
-- Assumes nothing.
use Rattle.std.specs.Prelude.{Bool, List, ◌∷◌, ℕ, zero, suc, ◌+◌, length}
use Rattle.refusal.specs.Verdicts.{and_then, accepted}
use Rattle.refusal.specs.FirstRow.{first_of}
use Rattle.text.specs.declared.Manner.{Manner}
use Rattle.strings.specs.Strings.{found}
use Rattle.block.specs.Block.{pointer_of, end_at, pointer_row}
use Rattle.trace.specs.Trace.{channel_at, block_checks}
use Rattle.refusal.specs.Verdicts.{Verdict}

-- ---- channel numbers (document 02 §7): "if one trace block has it, all must"

-- whether trace 0 has it
abbrev pub with_channel : Manner → Bool → List ℕ → List ℕ → Bool
with_channel how high t f = found (channel_at how high t f (pointer_of high f 0))

-- ---- "each trace 8 to 17", and 34 "after 17 within each trace": one list of checks in their order

-- 8 of the trace k, behind what ends at prev, and behind it the rows of its block
abbrev pub trace_checks : Manner → Bool → List ℕ → List ℕ → List ℕ → ℕ → ℕ → List Verdict
trace_checks how high t u f k prev =
    pointer_row (length f) k prev (pointer_of high f k) ∷ block_checks how high t u f (with_channel how high t f) k (pointer_of high f k)

unfoldable pub trace_of : Manner → Bool → List ℕ → List ℕ → List ℕ → ℕ → ℕ → Verdict
trace_of how high t u f k prev = first_of (trace_checks how high t u f k prev)

-- the traces from k on, so many of them, behind what ends at prev
unfoldable pub traces_from : Manner → Bool → List ℕ → List ℕ → List ℕ → ℕ → ℕ → ℕ → Verdict
traces_from how high t u f zero k prev = accepted
traces_from how high t u f (suc left) k prev =
    and_then (trace_of how high t u f k prev) (traces_from how high t u f left (k + 1) (end_at high f (pointer_of high f k)))
