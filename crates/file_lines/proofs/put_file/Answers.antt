-- `file_lines::put_file` meets its contract. The first line, the strings, the traces. Assumes nothing.
use Rattle.std.proofs.Common.{arith}
use Rattle.file_lines.specs.Told.{ends_good, line_some, count_told, first_slot, file_area, file_first, file_second}
use Rattle.file_lines.specs.Told.{file_third, file_all}
use Rattle.file_lines.proofs.put_file.Goals as goal

pub file_block-b-requires : goal.file_block-b-requires
file_block-b-requires c =
    c.requires.1

pub overflow_add-start : goal.overflow_add-start
overflow_add-start c =
    omega (arith, c.file_block-b.ensures.1)

pub pointer-first-requires : goal.pointer-first-requires
pointer-first-requires c =
    (first_slot c.args.f.now c.requires.0 c.requires.1)

pub put_head-c-requires : goal.put_head-c-requires
put_head-c-requires c =
    let args = c.args in
    (file_first args.f.now c.requires.0 c.requires.1 _ c.file_block-b.ensures.0 _ c.pointer-first.ensures.0
    args.out.now c.requires.2)

pub string_end-requires : goal.string_end-requires
string_end-requires c =
    ((omega (arith, c.requires.1), (ends_good c.args.f.now c.requires.0 c.requires.1).0))

pub line_end-requires : goal.line_end-requires
line_end-requires c =
    ((omega (arith, c.requires.1), (ends_good c.args.f.now c.requires.0 c.requires.1).1))

pub put_strings-d-requires : goal.put_strings-d-requires
put_strings-d-requires c =
    let args = c.args in
    (let a = file_area args.f.now c.requires.0 c.requires.1 _ c.file_block-b.ensures.0 _ c.pointer-first.ensures.0
    in (
      a.0,
      a.1,
      line_some args.f.now c.requires.0 c.requires.1 _ c.line_end.ensures.result_value,
      file_second args.f.now c.requires.0 c.requires.1 _ c.file_block-b.ensures.0 _ c.pointer-first.ensures.0
          args.out.now c.requires.2 _ _ c.string_end.ensures.result_value c.line_end.ensures.result_value _ _ c.put_head-c.ensures,
    ))

pub overflow_cast-b : goal.overflow_cast-b
overflow_cast-b c =
    omega (arith, c.file_block-b.ensures.2)

pub put_traces-requires : goal.put_traces-requires
put_traces-requires c =
    let args = c.args in
    ((
      c.requires.0,
      c.requires.1,
      count_told args.f.now c.requires.0 c.requires.1 _ c.file_block-b.ensures.0,
      file_third args.f.now c.requires.0 c.requires.1 _ c.file_block-b.ensures.0 _ c.pointer-first.ensures.0 args.out.now
          c.requires.2 _ _ c.string_end.ensures.result_value c.line_end.ensures.result_value _ _ c.put_head-c.ensures _ _
          c.put_strings-d.ensures,
    ))

pub returns : goal.returns
returns c =
    let args = c.args in
    (file_all args.f.now c.requires.0 c.requires.1 _ c.file_block-b.ensures.0 _ c.pointer-first.ensures.0
    args.out.now c.requires.2 _ _ c.string_end.ensures.result_value c.line_end.ensures.result_value _ _
    c.put_head-c.ensures _ _ c.put_strings-d.ensures _ _ c.put_traces.ensures)
