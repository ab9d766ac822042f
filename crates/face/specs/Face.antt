-- Answers as they cross to another language: number (0: no refusal), part and place by document 01's table, and behind
-- them the value, which is 0 after a refusal. Here those on files and lengths; face_values/FaceValues has those on
-- strings and their values. Fields bear the names that include/seg2.h gives them («..»: the `_` in a name takes no
-- argument).
-- Assumes nothing.
use Rattle.std.specs.Prelude.{Bool, ℕ, ℤ, negsuc, Result, Ok, Err}
use Rattle.refusal.specs.declared.Refusal.{Refusal}
use Rattle.refusal.specs.Rows.{pick}
use Rattle.refusal.specs.Table.{number_of, part_of}
use Rattle.face.specs.declared.Seg2Verdict.{Seg2Verdict}
use Rattle.face.specs.declared.Seg2File.{Seg2File}
use Rattle.face.specs.declared.Seg2Trace.{Seg2Trace}
use Rattle.face.specs.declared.Seg2Count.{Seg2Count}
use Rattle.face.specs.declared.Seg2Length.{Seg2Length}
use Rattle.block.specs.declared.TraceBlock.{TraceBlock}
use Rattle.head_words.specs.declared.FileBlock.{FileBlock}
use Rattle.refusal.specs.Verdicts.{Verdict}

-- a bool as a number
abbrev pub flag : Bool → ℕ
flag b = pick b 1 0

-- number, part and place of a refusal
abbrev pub as_row : Refusal → ℕ
as_row r = number_of r.rule

abbrev pub as_part : Refusal → ℤ
as_part r = part_of r.part

unfoldable pub as_verdict : Verdict → Seg2Verdict
as_verdict (Ok _) = record { number = 0; part = negsuc 0; place = 0 }
as_verdict (Err r) = record { number = as_row r; part = as_part r; place = r.place }

unfoldable pub as_file : Result FileBlock Refusal → Seg2File
as_file (Ok f) =
    record {
      number = 0;
      part = negsuc 0;
      place = 0;
      order = flag f.high;
      pointer_room = f.m;
      trace_count = f.n;
      string_terminator_size = f.strings;
      line_terminator_size = f.lines;
    }
as_file (Err r) =
    record {
      number = as_row r;
      part = as_part r;
      place = r.place;
      order = 0;
      pointer_room = 0;
      trace_count = 0;
      string_terminator_size = 0;
      line_terminator_size = 0;
    }

unfoldable pub as_trace : Result TraceBlock Refusal → Seg2Trace
as_trace (Ok t) =
    record {
      number = 0;
      part = negsuc 0;
      place = 0;
      start = t.p;
      block_size = t.b;
      data_size = t.d;
      sample_count = t.s;
      format_code = t.code;
    }
as_trace (Err r) =
    record {
      number = as_row r;
      part = as_part r;
      place = r.place;
      start = 0;
      block_size = 0;
      data_size = 0;
      sample_count = 0;
      format_code = 0;
    }

unfoldable pub as_count : Result ℕ Refusal → Seg2Count
as_count (Ok n) = record { number = 0; part = negsuc 0; place = 0; count = n }
as_count (Err r) = record { number = as_row r; part = as_part r; place = r.place; count = 0 }

unfoldable pub as_length : Result ℕ Refusal → Seg2Length
as_length (Ok n) = record { number = 0; part = negsuc 0; place = 0; length = n }
as_length (Err r) = record { number = as_row r; part = as_part r; place = r.place; length = 0 }
