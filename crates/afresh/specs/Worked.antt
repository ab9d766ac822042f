-- The worked file of document 01 ("Worked values"): "Low first, one slot, sheet UNITS METERS, one trace of code 1 with
-- samples 1, -1, 256 and sheet STACK 1: pointer 56, B 44, D 8, length 108", byte for byte. So the file that a list
-- defines is the one that the document shows, and there are good traces.
-- Assumes nothing.
use Rattle.std.specs.Prelude.{◌≡◌, refl, true, false, List, [], ◌∷◌, ◌++◌, ℕ, pos, negsuc, replicate}
use Rattle.std.proofs.Common.{sym, ◌∙◌, inr, arith}
use Rattle.word.specs.Tests.{never}
use Rattle.word.specs.Word.{low_bytes, bytes_of}
use Rattle.chars.specs.Runs.{run, all, same}
use Rattle.key_order.specs.Order.{rises_first}
use Rattle.strings.specs.Spelled.{texts}
use Rattle.sample.specs.Needed.{needed, room}
use Rattle.fit.specs.Unfit.{first_from, outside, unfit_integer, unfit_integers}
use Rattle.encode.specs.Write.{flat, residue, fixed_bytes, filled_up, integers_data}
use Rattle.sheet_line.specs.SheetLine.{line_len, line_key_len, continues, line_judged, line_step}
use Rattle.sheet.specs.Lines.{check_from, lines_verdict, sheet_lines_from, sheet_lines}
use Rattle.sheet.specs.Area.{joined, sheet_strings, text_size, area_of, area_size, measured_of}
use Rattle.channel_line.specs.ChannelLine.{has_line}
use Rattle.layout.specs.Layout.{nul, line_feed, file_block, start_size, Trace, Samples.integers, count, fitting, unfit}
use Rattle.layout.specs.Layout.{samples_data, trace_block, block_bytes, data_bytes, trace_bytes}
use Rattle.afresh.specs.FileOf.{sizes, pointers, blocks, file_of, file_size, Measures, has_channel, AllGood}

-- UNITS, tab, METERS, 0Ah
abbrev pub units : List ℕ
units = 85 ∷ 78 ∷ 73 ∷ 84 ∷ 83 ∷ 9 ∷ 77 ∷ 69 ∷ 84 ∷ 69 ∷ 82 ∷ 83 ∷ 10 ∷ []

-- STACK, tab, 1, 0Ah
abbrev pub stack : List ℕ
stack = 83 ∷ 84 ∷ 65 ∷ 67 ∷ 75 ∷ 9 ∷ 49 ∷ 10 ∷ []

abbrev pub shot : Trace
shot = record { sheet = stack; code = 1; samples = integers (pos 1 ∷ negsuc 0 ∷ pos 256 ∷ []) }

-- "pointer 56, B 44, D 8, length 108"
pub worked_sizes : (start_size 1 units ≡ 56) × (block_bytes nul line_feed shot ≡ 44) × (data_bytes shot ≡ 8) × (file_size 1 units (shot ∷ []) ≡ 108)
unfolding start_size area_size sheet_strings sheet_lines sheet_lines_from line_len line_key_len run joined same text_size room needed count file_size sizes
worked_sizes = (refl, refl, refl, refl)

-- the file block with N=1, slot 0, the file's strings; the trace block, its strings, its data
pub worked_bytes : file_of false 1 units (shot ∷ [])
    ≡ (85 ∷ 58 ∷ 1 ∷ 0 ∷ 4 ∷ 0 ∷ 1 ∷ 0 ∷ 1 ∷ 0 ∷ 0 ∷ 1 ∷ 10 ∷ 0 ∷ replicate 18 0)
    ++ ((56 ∷ 0 ∷ 0 ∷ 0 ∷ [])
    ++ ((15 ∷ 0 ∷ 85 ∷ 78 ∷ 73 ∷ 84 ∷ 83 ∷ 32 ∷ 77 ∷ 69 ∷ 84 ∷ 69 ∷ 82 ∷ 83 ∷ 0 ∷ 0 ∷ 0 ∷ 0 ∷ 0 ∷ 0 ∷ [])
    ++ ((34 ∷ 68 ∷ 44 ∷ 0 ∷ 8 ∷ 0 ∷ 0 ∷ 0 ∷ 3 ∷ 0 ∷ 0 ∷ 0 ∷ 1 ∷ replicate 19 0)
    ++ ((10 ∷ 0 ∷ 83 ∷ 84 ∷ 65 ∷ 67 ∷ 75 ∷ 32 ∷ 49 ∷ 0 ∷ 0 ∷ 0 ∷ []) ++ (1 ∷ 0 ∷ 255 ∷ 255 ∷ 0 ∷ 1 ∷ 0 ∷ 0 ∷ [])))))
unfolding file_of file_block pointers blocks trace_bytes trace_block samples_data integers_data filled_up flat fixed_bytes residue bytes_of low_bytes area_of
    texts start_size area_size sheet_strings sheet_lines sheet_lines_from line_len line_key_len run joined same text_size room needed count
worked_bytes = refl

-- it has no channel number
pub shot_without : has_channel shot ≡ false
unfolding has_line sheet_lines sheet_lines_from line_len line_key_len run same
shot_without = refl

-- its sheets and its samples are let through
pub worked_good : Measures units × AllGood (shot ∷ [])
unfolding measured_of lines_verdict check_from line_step line_judged continues all area_size sheet_strings sheet_lines sheet_lines_from line_len line_key_len run
    joined same text_size fitting unfit unfit_integers first_from unfit_integer outside
worked_good =
    let u = rises_first (85 ∷ 78 ∷ 73 ∷ 84 ∷ 83 ∷ []) (omega arith) in
    let s = rises_first (83 ∷ 84 ∷ 65 ∷ 67 ∷ 75 ∷ []) (omega arith) in
    let without : has_channel shot ≡ true → ⊥ = λ e. never (sym shot_without ∙ e) in
    ((20, rw u), ((record { measures = (12, rw s); channel = λ e. absurd (without e); kind = refl; held = refl }, tt), inr (shot_without, tt)))
