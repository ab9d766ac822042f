-- Theorems on what specs/Stands defines. They stand here, as a wrong definition there is to be refused and not to be unread.
-- Assumes nothing.
use Rattle.std.specs.Prelude.{◌≡◌, Bool, get_or, take, drop, replicate, List, ◌∷◌, ◌++◌, ℕ, suc, ◌+◌, ◌-◌, ◌*◌, ◌≤◌, ◌<◌, length}
use Rattle.std.proofs.Common.{sym, ◌∙◌, length-drop, drop_at, length-take-le, take-suc, ap, append_assoc, arith, length-append}
use Rattle.std.proofs.Math.ListN.{length-replicate}
use Rattle.std.proofs.Math.Seq.{take-append_seam, split_at}
use Rattle.word.specs.Part.{part}
use Rattle.word.specs.Word.{word_at, bytes_of}
use Rattle.word.specs.WordLaws.{word_among}
use Rattle.sheet.specs.Area.{area_of}
use Rattle.sheet.specs.Sizes.{length_area}
use Rattle.block.specs.Block.{pointer_of}
use Rattle.layout.specs.Layout.{nul, line_feed, file_block, start_size, Trace, data_bytes, trace_size}
use Rattle.layout.specs.Layout.{trace_bytes}
use Rattle.afresh.specs.FileOf.{sizes, pointers, blocks, file_of, file_size, Good, EachGood}
use Rattle.layout.specs.LayoutLaws.{length_file_block, length_trace_bytes, Stands, stands}
use Rattle.afresh.specs.FileLaws.{length_pointers, length_blocks, pointers_append, blocks_append}
use Rattle.afresh.proofs.FileLaws.{length_file}
use Rattle.afresh.specs.FileLaws.{behind}
use Rattle.afresh.proofs.FileLaws.{size_append, size_more}
use Rattle.head.specs.Head.{maximum}
use Rattle.afresh.specs.Stands.{Traced, empty_trace, good_split}

-- a trace at the front of what is left of a file
here_stands : (high : Bool) (f : List ℕ) (p : ℕ) (x : Trace) (tail : List ℕ) → drop p f ≡ trace_bytes high nul line_feed x ++ tail → p ≤ length f → Good x
    → data_bytes x < 4294967296 → Stands high nul line_feed f p x
here_stands high f p x tail here within g small =
    let tb : List ℕ = trace_bytes high nul line_feed x in
    let l : length tb ≡ trace_size nul line_feed x = length_trace_bytes high nul line_feed x g.kind in
    let k : length f - p ≡ length tb + length tail = sym (length-drop p f) ∙ ap length here ∙ length-append tb tail in
    let e : p + trace_size nul line_feed x - p ≡ length tb = omega arith in
    let s : part p (p + trace_size nul line_feed x) f ≡ tb =
    ap (λ (r : List ℕ). take (p + trace_size nul line_feed x - p) r) here ∙ ap (λ (j : ℕ). take j (tb ++ tail)) e ∙ take-append_seam tb tail in
    stands high nul line_feed f p x g.measures.0 g.measures.1 g.kind small (omega arith) s

module _ (high : Bool) (slots : ℕ) (sheet : List ℕ) (before : List Trace) (x : Trace) (behind-it : List Trace) where
  abbrev whole : List Trace
  whole = before ++ (x ∷ behind-it)

  abbrev free : List ℕ
  free = replicate (4 * (slots - length whole)) 0

  abbrev strings : List ℕ
  strings = area_of high nul line_feed sheet

  -- all that stands before it
  abbrev lead : List ℕ
  lead = file_block high (4 * slots) (length whole) ++ (pointers high (start_size slots sheet) whole ++ (free ++ (strings ++ blocks high before)))

  length_lead : length whole ≤ slots → EachGood before → length lead ≡ file_size slots sheet before
  unfolding file_size start_size
  length_lead h g =
      let ptrs = pointers high (start_size slots sheet) whole in
      let a = length-append (file_block high (4 * slots) (length whole)) (ptrs ++ (free ++ (strings ++ blocks high before))) in
      let b = length-append ptrs (free ++ (strings ++ blocks high before)) in
      let c = length-append free (strings ++ blocks high before) in
      let d = length-append strings (blocks high before) in
      let e = length_file_block high (4 * slots) (length whole) in
      let i = length_pointers high (start_size slots sheet) whole in
      let j = length-replicate {A = ℕ} (4 * (slots - length whole)) 0 in
      let k = length_area high nul line_feed sheet in
      let l = length_blocks high before g in
      omega arith

  file_split : file_of high slots sheet whole ≡ lead ++ (trace_bytes high nul line_feed x ++ blocks high behind-it)
  unfolding file_of blocks
  file_split =
      rw (blocks_append high before (x ∷ behind-it))
      (sym (behind (file_block high (4 * slots) (length whole)) (pointers high (start_size slots sheet) whole) free strings (blocks high before)
      (blocks high (x ∷ behind-it))))

  -- "the blocks and data one behind the other"
  pub file_here : length whole ≤ slots → EachGood before
      → drop (file_size slots sheet before) (file_of high slots sheet whole) ≡ trace_bytes high nul line_feed x ++ blocks high behind-it
  file_here h g =
      ap (drop (file_size slots sheet before)) file_split
      ∙ drop_at lead (trace_bytes high nul line_feed x ++ blocks high behind-it) (file_size slots sheet before) (length_lead h g)

  -- "in slot k the start image's length plus B and D of all traces before k"
  pub file_pointer : file_size slots sheet before < 4294967296 → pointer_of high (file_of high slots sheet whole) (length before) ≡ file_size slots sheet before
  unfolding pointer_of file_of file_size pointers
  file_pointer small =
      let size : ℕ = start_size slots sheet + sizes before in
      let fb = file_block high (4 * slots) (length whole) in
      let ptrs = pointers high (start_size slots sheet) before in
      let more = pointers high (size + trace_size nul line_feed x) behind-it in
      let rest = free ++ (strings ++ blocks high whole) in
      let l : length (fb ++ ptrs) ≡ 32 + 4 * length before =
      length-append fb ptrs ∙ omega (arith, length_file_block high (4 * slots) (length whole), length_pointers high (start_size slots sheet) before) in
      let e : (fb ++ ptrs) ++ (bytes_of 4 high size ++ (more ++ rest)) ≡ fb ++ ((ptrs ++ (bytes_of 4 high size ++ more)) ++ rest) = simp append_assoc in
      ap (λ (r : List ℕ). word_at 4 high (fb ++ (r ++ rest)) (32 + 4 * length before)) (pointers_append high (start_size slots sheet) before (x ∷ behind-it))
      ∙ ap (λ (r : List ℕ). word_at 4 high r (32 + 4 * length before)) (sym e)
      ∙ word_among 4 high size (fb ++ ptrs) (more ++ rest) (32 + 4 * length before) l (omega arith)

  file_stands : length whole ≤ slots → EachGood whole → EachGood before → Good x → file_size slots sheet whole ≤ maximum
      → (pointer_of high (file_of high slots sheet whole) (length before) ≡ file_size slots sheet before)
      × Stands high nul line_feed (file_of high slots sheet whole) (file_size slots sheet before) x
  unfolding sizes
  file_stands h all g gx most =
      let e = size_append slots sheet before (x ∷ behind-it) in
      let l = length_file high slots sheet whole h all in (
        file_pointer (omega arith),
        here_stands high (file_of high slots sheet whole) (file_size slots sheet before) x (blocks high behind-it)
            (file_here h g) (omega arith) gx (omega arith),
      )

split_stands : (high : Bool) (slots : ℕ) (sheet : List ℕ) (ts before : List Trace) (x : Trace) (behind-it : List Trace) (k : ℕ)
    → ts ≡ before ++ (x ∷ behind-it) → length before ≡ k → length ts ≤ slots → EachGood ts → file_size slots sheet ts ≤ maximum
    → (pointer_of high (file_of high slots sheet ts) k ≡ file_size slots sheet before)
    × Stands high nul line_feed (file_of high slots sheet ts) (file_size slots sheet before) x × Good x
split_stands high slots sheet ts before x behind-it k e l h g most =
    let all = rw e at g in
    let s = good_split before (x ∷ behind-it) all in
    let r = file_stands high slots sheet before x behind-it (rw e at h) all s.0 s.1.0 (rw e at most) in
    rw (e, ← l) (r.0, r.1, s.1.0)

pub file_traces : (high : Bool) (slots : ℕ) (sheet : List ℕ) (ts : List Trace) → length ts ≤ slots → EachGood ts → file_size slots sheet ts ≤ maximum
    → (k : ℕ) → k < length ts → Traced high slots sheet ts k
file_traces high slots sheet ts h g most k low =
    let l : length (take k ts) ≡ k = length-take-le k ts (omega arith) in
    let r = split_stands high slots sheet ts (take k ts) (get_or ts k empty_trace) (drop (suc k) ts) k (split_at ts k empty_trace low) l h g most in
    record {
      pointer = r.0;
      here = r.1;
      good = r.2;
      next = sym (ap (file_size slots sheet) (take-suc ts k empty_trace low) ∙ size_more slots sheet (take k ts) (get_or ts k empty_trace));
    }
