-- The new trace in the grown image: it stands at the old length rounded up to 4, its block says its own sizes, count
-- and code, then come its strings and its data, and nothing follows (document 01, "What we write": "D is the needed
-- bytes rounded up to 4"; the new length "is where the new trace's D bytes end").
-- Assumes nothing.
use Rattle.std.specs.Prelude.{◌≡◌, List, ℕ, ◌+◌, length}
use Rattle.std.proofs.Common.{sym, ap, ◌∙◌, arith}
use Rattle.word.specs.Part.{part}
use Rattle.word.specs.Round.{round4}
use Rattle.sheet.specs.Area.{area_of, area_size}
use Rattle.head_words.specs.HeadWords.{high_first, count_of}
use Rattle.terminators.specs.Terminators.{string_end, line_end}
use Rattle.block.specs.Block.{trace_mark, mark_at, block_size_of, data_size_of, sample_count_of, format_code_of, data_at, end_at}
use Rattle.image.specs.Keeps.{trace_at}
use Rattle.layout.specs.Layout.{Trace, count, samples_data, block_bytes, data_bytes, trace_size, trace_bytes}
use Rattle.layout.specs.LayoutLaws.{Stands, stands}
use Rattle.growth.specs.Grows.{Grows}
use Rattle.growth.specs.Kept.{high_kept, trace_at_new}

-- ---- the trace

pub record HasNew (f g : List ℕ) (x : Trace) : Type 0 where
  pub at : trace_at g (count_of f) ≡ round4 (length f)
  pub mark : mark_at (high_first g) g (trace_at g (count_of f)) ≡ trace_mark
  pub block : block_size_of (high_first g) g (trace_at g (count_of f)) ≡ block_bytes (string_end f) (line_end f) x
  pub size : data_size_of (high_first g) g (trace_at g (count_of f)) ≡ data_bytes x
  pub count : sample_count_of (high_first g) g (trace_at g (count_of f)) ≡ Rattle.layout.specs.Layout.count x.samples
  pub code : format_code_of g (trace_at g (count_of f)) ≡ x.code
  pub begins : data_at (high_first g) g (trace_at g (count_of f)) ≡ round4 (length f) + block_bytes (string_end f) (line_end f) x
  pub ends : end_at (high_first g) g (trace_at g (count_of f)) ≡ length g
  pub strings : part (trace_at g (count_of f) + 32) (data_at (high_first g) g (trace_at g (count_of f))) g
      ≡ area_of (high_first f) (string_end f) (line_end f) x.sheet
  pub samples : part (data_at (high_first g) g (trace_at g (count_of f))) (end_at (high_first g) g (trace_at g (count_of f))) g
      ≡ samples_data x.code (high_first f) x.samples

pub stands_new : {f g : List ℕ} {x : Trace} → Grows f g x → Stands (high_first f) (string_end f) (line_end f) g (round4 (length f)) x
stands_new {f} {g} {x} w =
    let t : List ℕ = string_end f in
    let u : List ℕ = line_end f in
    let p : ℕ = round4 (length f) in
    let long : length g ≡ p + trace_size t u x = w.size in
    let bytes : part p (p + trace_size t u x) g ≡ trace_bytes (high_first f) t u x = ap (λ (j : ℕ). part p j g) (sym long) ∙ w.trace in
    stands (high_first f) t u g p x (area_size t u x.sheet) w.sized w.kind (omega (arith, w.most)) (omega arith) bytes

pub has_new : {f g : List ℕ} {x : Trace} → Grows f g x → HasNew f g x
unfolding end_at
has_new {f} {g} {x} w =
    let t : List ℕ = string_end f in
    let u : List ℕ = line_end f in
    let p : ℕ = round4 (length f) in
    let h : high_first g ≡ high_first f = high_kept w in
    let e : trace_at g (count_of f) ≡ p = trace_at_new w in
    let s = stands_new w in
    let last : p + block_bytes t u x + data_bytes x ≡ p + trace_size t u x = omega arith in
    record {
      at = e;
      mark = rw (e, h) s.mark;
      block = rw (e, h) s.block;
      size = rw (e, h) s.bytes;
      count = rw (e, h) s.number;
      code = rw e s.code;
      begins = rw (e, h, s.block);
      ends = rw (e, h, s.block, s.bytes) (last ∙ sym w.size);
      strings = rw (e, h, s.block) s.area;
      samples = rw (e, h, s.block, s.bytes) (ap (λ (j : ℕ). part (p + block_bytes t u x) j g) last ∙ s.samples);
    }
