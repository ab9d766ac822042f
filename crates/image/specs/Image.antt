-- The check of a whole file (document 01, rows 1 to 17 in their order, and 34 of document 02; row 1 is
-- file_length/FileLength, 2 to 7 are head/Head, 8 to 17 and 34 of each trace traces/Traces). f is the image, `how` the
-- manner of reading.
-- Assumes nothing.
use Rattle.std.specs.Prelude.{Bool, List, [], ◌∷◌, ℕ, ◌+◌, length, take, eqb}
use Rattle.refusal.specs.declared.Rule.TheVariants.{Length}
use Rattle.refusal.specs.declared.Part.TheVariants.{File}
use Rattle.refusal.specs.Rows.{pick}
use Rattle.refusal.specs.Verdicts.{and_then}
use Rattle.refusal.specs.FirstRow.{first_of}
use Rattle.text.specs.declared.Manner.{Manner}
use Rattle.block.specs.Block.{pointer_of, pointer_row}
use Rattle.trace.specs.Trace.{area_verdict}
use Rattle.head_limits.specs.declared.Purpose.{Purpose}
use Rattle.head_words.specs.HeadWords.{high_first, room_of, count_of}
use Rattle.head.specs.Head.{head_of, refused}
use Rattle.terminators.specs.Terminators.{string_end, line_end}
use Rattle.traces.specs.Traces.{traces_from}
use Rattle.refusal.specs.Verdicts.{Verdict}
-- what the check asks of a part, by the same name for who speaks of the whole
pub use Rattle.file_length.specs.FileLength.{bad_length}
pub use Rattle.traces.specs.Traces.{with_channel}

-- ---- the whole

-- where there is a trace: "the first pointer, then the file's strings, then each trace 8 to 17"
abbrev pub filled_checks : Manner → Bool → List ℕ → List ℕ → List ℕ → ℕ → ℕ → List Verdict
filled_checks how high t u f m n =
    pointer_row (length f) 0 (32 + m) (pointer_of high f 0)
    ∷ area_verdict how high t u f File (32 + m) (pointer_of high f 0)
    ∷ traces_from how high t u f n 0 (32 + m)
    ∷ []

-- behind rows 2 to 7. "With N=0 the file's strings run to the image's end"
unfoldable pub rest_of : Manner → Bool → List ℕ → List ℕ → List ℕ → ℕ → ℕ → Verdict
rest_of how high t u f m n = pick (eqb n 0) (area_verdict how high t u f File (32 + m) (length f)) (first_of (filled_checks how high t u f m n))

unfoldable pub image_of : Manner → Purpose → List ℕ → Verdict
image_of how purpose f =
    and_then (head_of purpose (take 32 f) (length f)) (rest_of how (high_first f) (string_end f) (line_end f) f (room_of f) (count_of f))

unfoldable pub check_of : Manner → Purpose → List ℕ → ℕ → Verdict
check_of how purpose xs n = pick (bad_length (length xs) n) (refused Length 0) (image_of how purpose (take n xs))
