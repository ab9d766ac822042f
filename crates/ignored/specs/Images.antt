-- Two images that are alike where it counts: in the first 32 bytes the order, the revision, M, N and the terminators'
-- used bytes; the slots in use; of each trace the first 13 bytes of its block, its strings and the needed bytes of its
-- data; the file's strings. All else may differ: "14-31 reserved, ignored", the unused second byte of a one-byte
-- terminator, "later slots are ignored", "reserved to byte 31", what follows an end mark, data beyond the needed bytes,
-- "Gaps between traces and bytes after the last" (document 01). Theorem: the check answers alike, refusals and places
-- included.
-- Assumes nothing.
use Rattle.std.specs.Prelude.{◌≡◌, length, take, drop, Bool, List, ℕ, ◌+◌, ◌-◌, ◌*◌, ◌≤◌, ◌<◌, get_or, eqb}
use Rattle.std.proofs.Common.{sym, ap, ◌∙◌, length-take, length-drop, get_or-take, arith}
use Rattle.word.specs.Part.{part, get_d_part}
use Rattle.word.specs.Word.{word_at}
use Rattle.word.specs.WordLaws.{word_take, word_part}
use Rattle.sample.specs.Needed.{needed}
use Rattle.head_words.specs.HeadWords.{high_first, room_of, count_of}
use Rattle.terminators.specs.Terminators.{string_end, line_end}
use Rattle.block.specs.Block.{pointer_of, mark_at, block_size_of, data_size_of, sample_count_of, format_code_of, data_at, end_at}
use Rattle.image.specs.Keeps.{trace_at, strings_end}
use Rattle.ignored.specs.Areas.{used_of}

-- the strings of f that stand from a to e are the same in g, up to and with the end mark
abbrev pub AlikeStrings : List ℕ → List ℕ → ℕ → ℕ → Type 0
AlikeStrings f g a e =
    take (used_of (high_first f) (string_end f) (part a e f)) (part a e f) ≡ take (used_of (high_first f) (string_end f) (part a e f)) (part a e g)

-- of the file block bytes 0 to 8 stand alone: order, revision, M, N, the length of the string terminator; of a trace
-- block bytes 0 to 12: 4422h, B, D, S, the code
abbrev pub file_front : ℕ
file_front = 9

abbrev pub trace_front : ℕ
trace_front = 13

-- the trace that stands at p in f
pub record AlikeTrace (f g : List ℕ) (p : ℕ) : Type 0 where
  pub head : part p (p + trace_front) f ≡ part p (p + trace_front) g
  pub strings : AlikeStrings f g (p + 32) (data_at (high_first f) f p)
  -- the needed bytes of its data
  pub samples : take (needed (format_code_of f p) (sample_count_of (high_first f) f p)) (part (data_at (high_first f) f p) (end_at (high_first f) f p) f)
      ≡ take (needed (format_code_of f p) (sample_count_of (high_first f) f p)) (part (data_at (high_first f) f p) (end_at (high_first f) f p) g)

pub record Alike (f g : List ℕ) : Type 0 where
  pub size : length f ≡ length g
  pub front : take file_front f ≡ take file_front g
  -- the characters of the string terminator; the length of the line terminator, and its characters
  pub string_end_lem : string_end f ≡ string_end g
  pub line_size : get_or f 11 0 ≡ get_or g 11 0
  pub line_end_lem : line_end f ≡ line_end g
  -- the slots in use
  pub slots : (k : ℕ) → k < count_of f → part (32 + 4 * k) (36 + 4 * k) f ≡ part (32 + 4 * k) (36 + 4 * k) g
  pub strings : AlikeStrings f g (32 + room_of f) (strings_end f)
  pub traces : (k : ℕ) → k < count_of f → AlikeTrace f g (trace_at f k)

-- ---- words and bytes in equal fronts and in equal parts

front_word : (w n : ℕ) (o : Bool) (f g : List ℕ) (at : ℕ) → at + w ≤ n → take n f ≡ take n g → word_at w o f at ≡ word_at w o g at
front_word w n o f g at h q = sym (word_take w o n f at h) ∙ ap (λ (l : List ℕ). word_at w o l at) q ∙ word_take w o n g at h

part_word : (w a e : ℕ) (o : Bool) (f g : List ℕ) (at : ℕ) → a + at + w ≤ e → part a e f ≡ part a e g → word_at w o f (a + at) ≡ word_at w o g (a + at)
part_word w a e o f g at h q = sym (word_part w o a e f at h) ∙ ap (λ (l : List ℕ). word_at w o l at) q ∙ word_part w o a e g at h

pub part_long : (a e : ℕ) (f g : List ℕ) → length f ≡ length g → length (part a e f) ≡ length (part a e g)
part_long a e f g n =
    length-take (e - a) (drop a f) ∙ ap (λ (k : ℕ). Prim.Native.Nat.min (e - a) k)
    (length-drop a f ∙ ap (λ (k : ℕ). k - a) n ∙ sym (length-drop a g)) ∙ sym (length-take (e - a) (drop a g))

-- ---- what the file block says: f and g may be images, or no more than their first 32 bytes

pub record AlikeHead (f g : List ℕ) : Type 0 where
  pub front : take file_front f ≡ take file_front g
  pub string_end_lem : string_end f ≡ string_end g
  pub line_size : get_or f 11 0 ≡ get_or g 11 0
  pub line_end_lem : line_end f ≡ line_end g

module _ {f g : List ℕ} (a : AlikeHead f g) where
  pub front_byte : (i : ℕ) → i < file_front → get_or f i 0 ≡ get_or g i 0
  front_byte i h = sym (get_or-take file_front f i 0 h) ∙ ap (λ (l : List ℕ). get_or l i 0) a.front ∙ get_or-take file_front g i 0 h

  head_order : high_first f ≡ high_first g
  unfolding high_first
  head_order = ap (λ (b : ℕ). eqb b 58) (front_byte 0 (omega arith))

  pub head_word : (at : ℕ) → at + 2 ≤ file_front → word_at 2 (high_first f) f at ≡ word_at 2 (high_first g) g at
  head_word at h = front_word 2 file_front (high_first f) f g at h a.front ∙ ap (λ (o : Bool). word_at 2 o g at) head_order

  pub head_room : room_of f ≡ room_of g
  unfolding room_of
  head_room = head_word 4 (omega arith)

  pub head_traces : count_of f ≡ count_of g
  unfolding count_of
  head_traces = head_word 6 (omega arith)

module _ {f g : List ℕ} (a : Alike f g) where
  pub of_head : AlikeHead f g
  of_head = record { front = a.front; string_end_lem = a.string_end_lem; line_size = a.line_size; line_end_lem = a.line_end_lem }

  pub same_order : high_first f ≡ high_first g
  same_order = head_order of_head

  pub same_room : room_of f ≡ room_of g
  same_room = head_room of_head

  pub same_traces : count_of f ≡ count_of g
  same_traces = head_traces of_head

  -- ---- a trace
  module _ (k : ℕ) (low : k < count_of f) where
    pub same_pointer : pointer_of (high_first f) f k ≡ pointer_of (high_first f) g k
    unfolding pointer_of
    same_pointer =
        let z : 32 + 4 * k + 0 ≡ 32 + 4 * k = omega arith in
        rw z at (part_word 4 (32 + 4 * k) (36 + 4 * k) (high_first f) f g 0 (omega arith) (a.slots k low))

  module _ {p : ℕ} (t : AlikeTrace f g p) where
    pub same_mark : mark_at (high_first f) f p ≡ mark_at (high_first f) g p
    unfolding mark_at
    same_mark = let z : p + 0 ≡ p = omega arith in rw z at (part_word 2 p (p + trace_front) (high_first f) f g 0 (omega arith) t.head)

    pub same_block : block_size_of (high_first f) f p ≡ block_size_of (high_first f) g p
    unfolding block_size_of
    same_block = part_word 2 p (p + trace_front) (high_first f) f g 2 (omega arith) t.head

    pub same_data : data_size_of (high_first f) f p ≡ data_size_of (high_first f) g p
    unfolding data_size_of
    same_data = part_word 4 p (p + trace_front) (high_first f) f g 4 (omega arith) t.head

    pub same_count : sample_count_of (high_first f) f p ≡ sample_count_of (high_first f) g p
    unfolding sample_count_of
    same_count = part_word 4 p (p + trace_front) (high_first f) f g 8 (omega arith) t.head

    pub same_code : format_code_of f p ≡ format_code_of g p
    unfolding format_code_of
    same_code =
        sym (get_d_part 0 12 p (p + trace_front) f (omega arith)) ∙ ap (λ (l : List ℕ). get_or l 12 0) t.head ∙ get_d_part 0 12 p (p + trace_front) g (omega arith)

    pub same_end : end_at (high_first f) f p ≡ end_at (high_first f) g p
    unfolding end_at
    same_end = rw (same_block, same_data)
