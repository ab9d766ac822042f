-- The lines of an accepted file in its listing (document 01, the end of "Worked values").
-- Assumes nothing.
use Rattle.std.specs.Prelude.{List, [], ◌++◌, ℕ, zero, suc, ◌+◌}
use Rattle.text.specs.declared.Manner.TheVariants.{Strict}
use Rattle.word.specs.Part.{part}
use Rattle.refusal.specs.declared.Part.TheVariants.{File, Trace}
use Rattle.strings.specs.Strings.{places_of}
use Rattle.strings.specs.Spelled.{Str, strs_in}
use Rattle.head_words.specs.HeadWords.{high_first, room_of, count_of}
use Rattle.terminators.specs.Terminators.{string_end, line_end}
use Rattle.block.specs.Block.{sample_count_of, format_code_of, data_at}
use Rattle.image.specs.Keeps.{trace_at}
use Rattle.lines.specs.Lines.{head_line, trace_line}
use Rattle.string_lines.specs.StringLines.{strings_text}

-- the strings of the bytes from a to e of the file f
unfoldable pub strings_in : List ℕ → ℕ → ℕ → List Str
strings_in f a e = strs_in f (places_of Strict (high_first f) (string_end f) (part a e f) a)

-- "each trace's T line with its strings"
unfoldable pub trace_text : List ℕ → ℕ → List ℕ
trace_text f k =
    trace_line k (format_code_of f (trace_at f k)) (sample_count_of (high_first f) f (trace_at f k))
    ++ strings_text (Trace k) (line_end f) (strings_in f (trace_at f k + 32) (data_at (high_first f) f (trace_at f k)))

-- so many traces from k on
unfoldable pub traces_text : List ℕ → ℕ → ℕ → List ℕ
traces_text f zero k = []
traces_text f (suc left) k = trace_text f k ++ traces_text f left (k + 1)

-- "The file's strings come first, then each trace's T line with its strings"
unfoldable pub file_text : List ℕ → List ℕ
file_text f =
    head_line (high_first f) (count_of f) (room_of f)
    ++ (strings_text File (line_end f) (strings_in f (32 + room_of f) (trace_at f 0)) ++ traces_text f (count_of f) 0)
