-- What adding a trace answers, and what is left in the lent buffer (document 01, "What we write" and rows 24 to 30;
-- document 02, row 35); and what it answers of the room that it needs, without that room and without the samples. xs is
-- the buffer, n the length given beside it, f the image: the first n bytes.
-- Assumes nothing.
use Rattle.std.specs.Prelude.{List, ℕ, length, take, Result, Err}
use Rattle.refusal.specs.Verdicts.{asked}
use Rattle.layout.specs.Layout.{Trace, count}
use Rattle.refusal.specs.Writing.{on_written}
use Rattle.head.specs.Head.{maximum}
use Rattle.start.specs.Start.{within, on_measured}
use Rattle.append.specs.Grown.{length_for, grown}
use Rattle.opening.specs.Opening.{area_answer}
use Rattle.entry.specs.Entry.{samples_verdict, code_verdict}
use Rattle.refusal.specs.declared.Refusal.{Refusal}
use Rattle.refusal.specs.Verdicts.{Verdict}

-- into so many bytes of room, where rows 28 and 29 say `fit` of the samples: the rows of the file and the sheet
-- (opening/Opening), of the samples (entry/Entry), then 30 "new length over the buffer or the maximum (0)"
unfoldable pub add_into : ℕ → List ℕ → ℕ → List ℕ → ℕ → ℕ → Verdict → Result ℕ Refusal
add_into space xs n sheet code s fit = on_measured (area_answer xs n sheet) (asked Err fit (within space (length_for (take n xs) n sheet code s)))

unfoldable pub add_answer : List ℕ → ℕ → Trace → Result ℕ Refusal
add_answer xs n x = add_into (length xs) xs n x.sheet x.code (count x.samples) (samples_verdict x.code x.samples)

-- the room that an addition of s samples needs: what it answers into as many bytes as a file may have, whatever the
-- samples are
unfoldable pub add_needs : List ℕ → ℕ → List ℕ → ℕ → ℕ → Result ℕ Refusal
add_needs xs n sheet code s = add_into maximum xs n sheet code s (code_verdict code s)

unfoldable pub add_left : List ℕ → ℕ → Trace → List ℕ
add_left xs n x = on_written (add_answer xs n x) (grown xs n x) xs
