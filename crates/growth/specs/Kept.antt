-- What an addition keeps of the image: byte order, revision, M, both terminators and every byte from the end of the
-- pointer room to the old end, so each old trace as it was, at its old place; and what it changes of the file block: N
-- is one more, and slot N has the new trace's place.
-- Assumes nothing.
use Rattle.std.specs.Prelude.{◌≡◌, Bool, List, ℕ, zero, suc, ◌+◌, ◌-◌, ◌*◌, ◌≤◌, ◌<◌, length}
use Rattle.std.proofs.Common.{sym, ◌∙◌, ⊎_elim, arith}
use Rattle.std.proofs.Math.Path.{ap}
use Rattle.std.proofs.Math.ListN.{get_or}
use Rattle.std.proofs.Math.Dec.{eqb}
use Rattle.head_limits.specs.declared.Purpose.TheVariants.{Grow}
use Rattle.head_limits.specs.declared.Purpose.{Purpose}
use Rattle.text.specs.declared.Manner.TheVariants.{Strict}
use Rattle.word.specs.Part.{part, get_d_part}
use Rattle.word.specs.Round.{round4}
use Rattle.word.specs.Word.{value_of, word_at}
use Rattle.head_words.specs.HeadWords.{high_first, revision_of, room_of, count_of}
use Rattle.terminators.specs.Terminators.{terminator_at, string_end, line_end}
use Rattle.block.specs.Block.{pointer_of, mark_at, block_size_of, data_size_of, sample_count_of, format_code_of, data_at, end_at}
use Rattle.image.specs.Keeps.{trace_at, end_before, KeepsTerminator, Keeps}
use Rattle.layout.specs.Layout.{Trace}
use Rattle.growth.specs.Grows.{Grows}

-- ---- a byte and a word are told by the part that they stand in

byte_in : (f g : List ℕ) (a e i : ℕ) → a + i < e → part a e g ≡ part a e f → get_or g (a + i) 0 ≡ get_or f (a + i) 0
byte_in f g a e i h p = sym (get_d_part 0 i a e g h) ∙ ap (λ (r : List ℕ). get_or r i 0) p ∙ get_d_part 0 i a e f h

word_of_part : (w : ℕ) (o : Bool) (f : List ℕ) (at : ℕ) → word_at w o f at ≡ value_of o (part at (at + w) f)
unfolding word_at
word_of_part w o f at = let s : at + w - at ≡ w = omega arith in rw s

word_in : (w : ℕ) (o : Bool) (f g : List ℕ) (at : ℕ) → part at (at + w) g ≡ part at (at + w) f → word_at w o g at ≡ word_at w o f at
word_in w o f g at p = word_of_part w o g at ∙ ap (value_of o) p ∙ sym (word_of_part w o f at)

-- ---- the places of an image that keeps the rules

pub short_terminator : {f : List ℕ} {at : ℕ} → KeepsTerminator f at → (1 ≤ get_or f at 0) × (get_or f at 0 ≤ 2)
short_terminator k = ⊎_elim (λ e. (omega arith, omega arith)) (λ e. (omega arith, omega arith)) k.size

-- every trace stands behind the pointer room
pub behind_room : (purpose : Purpose) (f : List ℕ) → Keeps Strict purpose f → (k : ℕ) → k < count_of f → 32 + room_of f ≤ trace_at f k
unfolding end_before end_at
behind_room purpose f h zero l = (h.traces 0 l).behind
behind_room purpose f h (suc k) l =
    let i = behind_room purpose f h k (omega arith) in
    let b : end_at (high_first f) f (trace_at f k) ≤ trace_at f (suc k) = (h.traces (suc k) l).behind in
    omega arith

-- ---- the file block

module _ {f g : List ℕ} {x : Trace} (w : Grows f g x) where
  pub longer : length f ≤ length g
  longer = omega (arith, w.size)

  pub low_kept : get_or g 0 0 ≡ get_or f 0 0
  low_kept = byte_in f g 0 6 0 (omega arith) (w.front 0 6 (omega arith))

  pub second_kept : get_or g 1 0 ≡ get_or f 1 0
  second_kept = byte_in f g 0 6 1 (omega arith) (w.front 0 6 (omega arith))

  pub high_kept : high_first g ≡ high_first f
  unfolding high_first
  high_kept = ap (λ (b : ℕ). eqb b 58) low_kept

  pub revision_kept : revision_of g ≡ revision_of f
  unfolding revision_of
  revision_kept = ap (λ (o : Bool). word_at 2 o g 2) high_kept ∙ word_in 2 (high_first f) f g 2 (w.front 2 4 (omega arith))

  pub room_kept : room_of g ≡ room_of f
  unfolding room_of
  room_kept = ap (λ (o : Bool). word_at 2 o g 4) high_kept ∙ word_in 2 (high_first f) f g 4 (w.front 4 6 (omega arith))

  pub count_grown : count_of g ≡ count_of f + 1
  unfolding count_of
  count_grown = ap (λ (o : Bool). word_at 2 o g 6) high_kept ∙ w.count

  pub size_kept : (at : ℕ) → 8 ≤ at → at < 32 → get_or g at 0 ≡ get_or f at 0
  size_kept at h k =
      let e : 8 + (at - 8) ≡ at = omega arith in
      rw e at (byte_in f g 8 32 (at - 8) (omega arith) (w.middle 8 32 (omega arith) (omega arith)))

  terminator_kept : (at : ℕ) → 8 ≤ at → at + 3 ≤ 32 → get_or f at 0 ≤ 2 → terminator_at g at ≡ terminator_at f at
  unfolding terminator_at
  terminator_kept at h k s =
      ap (λ (j : ℕ). part (at + 1) (at + 1 + j) g) (size_kept at h (omega arith))
      ∙ w.middle (at + 1) (at + 1 + get_or f at 0) (omega arith) (omega arith)

  pub string_end_kept : string_end g ≡ string_end f
  string_end_kept = terminator_kept 8 (omega arith) (omega arith) (short_terminator w.old.file.string_end_lem).1

  pub line_end_kept : line_end g ≡ line_end f
  line_end_kept = terminator_kept 11 (omega arith) (omega arith) (short_terminator w.old.file.line_end_lem).1

  -- ---- the pointers

  pub trace_at_kept : (k : ℕ) → k < count_of f → trace_at g k ≡ trace_at f k
  unfolding pointer_of
  trace_at_kept k h =
      ap (λ (o : Bool). word_at 4 o g (32 + 4 * k)) high_kept
      ∙ word_in 4 (high_first f) f g (32 + 4 * k) (w.middle (32 + 4 * k) (32 + 4 * k + 4) (omega arith) (omega arith))

  pub trace_at_new : trace_at g (count_of f) ≡ round4 (length f)
  unfolding pointer_of
  trace_at_new = ap (λ (o : Bool). word_at 4 o g (32 + 4 * count_of f)) high_kept ∙ w.pointer

  -- ---- every byte from the end of the pointer room to the old end

  pub part_kept : (a e : ℕ) → 32 + room_of f ≤ a → e ≤ length f → part a e g ≡ part a e f
  part_kept a e h k = w.rest a e (omega (arith, w.slot)) k

  pub word_kept : (n : ℕ) (o : Bool) (a : ℕ) → 32 + room_of f ≤ a → a + n ≤ length f → word_at n o g a ≡ word_at n o f a
  word_kept n o a h k = word_in n o f g a (part_kept a (a + n) h k)

  pub byte_kept : (a : ℕ) → 32 + room_of f ≤ a → a < length f → get_or g a 0 ≡ get_or f a 0
  byte_kept a h k =
      let e : a + 0 ≡ a = omega arith in
      rw e at (byte_in f g a (length f) 0 (omega arith) (part_kept a (length f) h (omega arith)))

-- ---- the old traces: each number of a trace block, the strings' bytes and the data

pub record SameTrace (f g : List ℕ) (k : ℕ) : Type 0 where
  pub at : trace_at g k ≡ trace_at f k
  pub mark : mark_at (high_first g) g (trace_at g k) ≡ mark_at (high_first f) f (trace_at f k)
  pub block : block_size_of (high_first g) g (trace_at g k) ≡ block_size_of (high_first f) f (trace_at f k)
  pub size : data_size_of (high_first g) g (trace_at g k) ≡ data_size_of (high_first f) f (trace_at f k)
  pub count : sample_count_of (high_first g) g (trace_at g k) ≡ sample_count_of (high_first f) f (trace_at f k)
  pub code : format_code_of g (trace_at g k) ≡ format_code_of f (trace_at f k)
  pub begins : data_at (high_first g) g (trace_at g k) ≡ data_at (high_first f) f (trace_at f k)
  pub ends : end_at (high_first g) g (trace_at g k) ≡ end_at (high_first f) f (trace_at f k)
  pub strings : part (trace_at g k + 32) (data_at (high_first g) g (trace_at g k)) g ≡ part (trace_at f k + 32) (data_at (high_first f) f (trace_at f k)) f
  pub samples : part (data_at (high_first g) g (trace_at g k)) (end_at (high_first g) g (trace_at g k)) g
      ≡ part (data_at (high_first f) f (trace_at f k)) (end_at (high_first f) f (trace_at f k)) f

pub trace_kept : {f g : List ℕ} {x : Trace} → Grows f g x → (k : ℕ) → k < count_of f → SameTrace f g k
unfolding mark_at block_size_of data_size_of sample_count_of format_code_of end_at
trace_kept {f} {g} w k l =
    let p : ℕ = trace_at f k in
    let o : Bool = high_first f in
    let e : trace_at g k ≡ p = trace_at_kept w k l in
    let h : high_first g ≡ o = high_kept w in
    let t = w.old.traces k l in
    let low : 32 + room_of f ≤ p = behind_room Grow f w.old k l in
    let least : 32 ≤ block_size_of o f p = t.least in
    let inside : data_at o f p + data_size_of o f p ≤ length f = t.inside in
    let mark : word_at 2 o g p ≡ word_at 2 o f p = word_kept w 2 o p low (omega arith) in
    let block : word_at 2 o g (p + 2) ≡ word_at 2 o f (p + 2) = word_kept w 2 o (p + 2) (omega arith) (omega arith) in
    let size : word_at 4 o g (p + 4) ≡ word_at 4 o f (p + 4) = word_kept w 4 o (p + 4) (omega arith) (omega arith) in
    let count : word_at 4 o g (p + 8) ≡ word_at 4 o f (p + 8) = word_kept w 4 o (p + 8) (omega arith) (omega arith) in
    record {
      at = e;
      mark = rw (e, h) mark;
      block = rw (e, h) block;
      size = rw (e, h) size;
      count = rw (e, h) count;
      code = rw e (byte_kept w (p + 12) (omega arith) (omega arith));
      begins = rw (e, h, block);
      ends = rw (e, h, block, size);
      strings = rw (e, h, block) (part_kept w (p + 32) (data_at o f p) (omega arith) (omega arith));
      samples = rw (e, h, block, size) (part_kept w (data_at o f p) (data_at o f p + data_size_of o f p) (omega arith) (omega arith));
    }
