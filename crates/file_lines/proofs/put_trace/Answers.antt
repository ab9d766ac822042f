-- `file_lines::put_trace` meets its contract. Its line, then its strings. Assumes nothing.
use Rattle.std.proofs.Common.{arith}
use Rattle.file_lines.specs.Told.{ends_good, line_some, trace_slot, trace_area, trace_first, trace_second}
use Rattle.file_lines.specs.Told.{trace_both}
use Rattle.file_lines.proofs.put_trace.Goals as goal

pub is_high-high-requires : goal.is_high-high-requires
is_high-high-requires c =
    omega (arith, c.requires.1)

pub trace_block-b-requires : goal.trace_block-b-requires
trace_block-b-requires c =
    let args = c.args in
    (trace_slot args.f.now c.requires.0 c.requires.1 args.k c.requires.2 _ c.is_high-high.ensures)

pub overflow_add-from : goal.overflow_add-from
overflow_add-from c =
    let args = c.args in
    (let a = trace_area args.f.now c.requires.0 c.requires.1 args.k c.requires.2 _ c.is_high-high.ensures _
    c.trace_block-b.ensures in omega (arith, a.0, a.1))

pub overflow_add-to : goal.overflow_add-to
overflow_add-to c =
    let args = c.args in
    (let a = trace_area args.f.now c.requires.0 c.requires.1 args.k c.requires.2 _ c.is_high-high.ensures _
    c.trace_block-b.ensures in omega (arith, a.0, a.1))

pub put_trace_line-c-requires : goal.put_trace_line-c-requires
put_trace_line-c-requires c =
    let args = c.args in
    (trace_first args.f.now c.requires.0 c.requires.1 args.k c.requires.2 _ c.is_high-high.ensures _
    c.trace_block-b.ensures args.out.now args.at c.requires.3)

pub string_end-requires : goal.string_end-requires
string_end-requires c =
    ((omega (arith, c.requires.1), (ends_good c.args.f.now c.requires.0 c.requires.1).0))

pub line_end-requires : goal.line_end-requires
line_end-requires c =
    ((omega (arith, c.requires.1), (ends_good c.args.f.now c.requires.0 c.requires.1).1))

pub put_strings-requires : goal.put_strings-requires
put_strings-requires c =
    let args = c.args in
    (let a = trace_area args.f.now c.requires.0 c.requires.1 args.k c.requires.2 _ c.is_high-high.ensures _
    c.trace_block-b.ensures in (
      a.0,
      a.1,
      line_some args.f.now c.requires.0 c.requires.1 _ c.line_end.ensures.result_value,
      trace_second args.f.now c.requires.0 c.requires.1 args.k c.requires.2 _ c.is_high-high.ensures _ c.trace_block-b.ensures
          args.out.now
          args.at c.requires.3 _ _ c.string_end.ensures.result_value c.line_end.ensures.result_value _ _
          c.put_trace_line-c.ensures,
    ))

pub returns : goal.returns
returns c =
    let args = c.args in
    (trace_both args.f.now c.requires.0 c.requires.1 args.k c.requires.2 _ c.is_high-high.ensures _
    c.trace_block-b.ensures args.out.now args.at c.requires.3 _ _ c.string_end.ensures.result_value c.line_end.ensures.result_value _ _ _ _
    c.put_trace_line-c.ensures c.put_strings.ensures)
