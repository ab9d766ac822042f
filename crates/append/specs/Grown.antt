-- The buffer of a file to which a trace was added (document 01, "What we write"): xs is the buffer, n the old length, f
-- the image.
-- Assumes nothing.
use Rattle.std.specs.Prelude.{List, ◌++◌, ℕ, ◌+◌, ◌-◌, ◌*◌, take, replicate}
use Rattle.word.specs.Put.{put}
use Rattle.word.specs.Round.{round4}
use Rattle.word.specs.Word.{bytes_of}
use Rattle.head_words.specs.HeadWords.{high_first, count_of}
use Rattle.terminators.specs.Terminators.{string_end, line_end}
use Rattle.layout.specs.Layout.{Trace, count, size_for, trace_bytes}

-- "it is where the new trace's D bytes end"
abbrev pub length_for : List ℕ → ℕ → List ℕ → ℕ → ℕ → ℕ
length_for f n sheet code s = round4 n + size_for (string_end f) (line_end f) sheet code s

unfoldable pub new_length : List ℕ → ℕ → Trace → ℕ
new_length f n x = length_for f n x.sheet x.code (count x.samples)

-- "The new trace begins at the old length rounded up to 4 .. the gap and all unnamed bytes zero"
unfoldable pub new_bytes : List ℕ → ℕ → Trace → List ℕ
new_bytes f n x = replicate (round4 n - n) 0 ++ trace_bytes (high_first f) (string_end f) (line_end f) x

-- the new bytes from the old end on, the pointer to the trace in the first free slot, and N one more
unfoldable pub grown : List ℕ → ℕ → Trace → List ℕ
grown xs n x =
    let f = take n xs in
    put (put (put xs n (new_bytes f n x)) (32 + 4 * count_of f) (bytes_of 4 (high_first f) (round4 n))) 6 (bytes_of 2 (high_first f) (count_of f + 1))
